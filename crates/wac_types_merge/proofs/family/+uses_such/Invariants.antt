use Rattle.wac_types_base.specs.declared.item.ItemKind.{ItemKind}
use Rattle.wac_types_base.specs.Collection.{size_of}
use Rattle.wac_types_merge.proofs.Families.{AllBefore, Leads}
use Rattle.wac_types_merge.proofs.family.+uses_such.Given as goal

abbrev pub decreases-uses_such : goal.decreases-uses_such
decreases-uses_such l = size_of l.types.now (ItemKind.Instance l.id)

-- no use so far leads to the target
abbrev pub invariant-loop-index : goal.invariant-loop-index
invariant-loop-index l = AllBefore l.uses (λ u. Leads l.types l.target u → ⊥) l.index
