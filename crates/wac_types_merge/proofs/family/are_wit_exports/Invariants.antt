use Rattle.wac_types_base.specs.Collection.{item_node}
use Rattle.wac_types_base.specs.Reaching.{Reaches}
use Rattle.wac_types_merge.specs.Families.{IsWitExport, IsForeign}
use Rattle.wac_types_merge.proofs.Families.{AllBefore}
use Rattle.wac_types_merge.proofs.family.are_wit_exports.Given as goal

-- the exports so far
abbrev pub invariant-loop-index : goal.invariant-loop-index
invariant-loop-index l = AllBefore l.exports (λ k. IsWitExport k × (Reaches (item_node l.types) (IsForeign l.types l.id) k → ⊥)) l.index
