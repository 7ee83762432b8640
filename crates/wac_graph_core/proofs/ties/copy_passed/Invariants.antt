use Rattle.std.proofs.Common.{◌≡◌, take}
use Rattle.wac_graph_core.specs.TieSteps.{shown_passed}
use Rattle.wac_graph_core.proofs.ties.copy_passed.Given as goal

abbrev pub invariant-loop-name : goal.invariant-loop-name
invariant-loop-name l = shown_passed l.copies.items ≡ shown_passed (take l.name-index l.name-items)
