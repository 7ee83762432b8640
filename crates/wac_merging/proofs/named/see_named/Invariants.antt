use Rattle.wac_merging.proofs.Looking.{AllNamed}
use Rattle.wac_merging.proofs.named.see_named.Given as goal

-- none exports a name twice, if none of those that are left does
abbrev pub invariant-loop-interface : goal.invariant-loop-interface
invariant-loop-interface l = AllNamed l.interface-iterator → AllNamed l.types.interfaces
