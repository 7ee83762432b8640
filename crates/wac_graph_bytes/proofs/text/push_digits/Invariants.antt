use Rattle.std.proofs.Common.{◌≡◌, ◌++◌}
use Rattle.wac_graph_bytes.specs.Leb.{digits}
use Rattle.wac_graph_bytes.proofs.text.push_digits.Given as goal

abbrev pub invariant-loop-rest : goal.invariant-loop-rest
invariant-loop-rest l = l.out.items ++ digits l.limit l.rest ≡ l.fn.out.items ++ digits l.limit l.n

abbrev pub decreases-loop-rest : goal.decreases-loop-rest
decreases-loop-rest l = l.rest
