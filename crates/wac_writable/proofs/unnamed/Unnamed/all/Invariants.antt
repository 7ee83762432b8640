use Rattle.wac_writable.specs.Unnamed.{Knows}
use Rattle.wac_writable.proofs.UnnamedLaws.{KnowsBelow}
use Rattle.wac_writable.proofs.unnamed.Unnamed.all.Given as goal

abbrev pub invariant-loop-index : goal.invariant-loop-index
invariant-loop-index l = Knows l.types l.unnamed × KnowsBelow l.types l.index l.unnamed
