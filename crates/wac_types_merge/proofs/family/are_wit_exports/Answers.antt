use Rattle.std.proofs.Common.{◌<◌, length, refl, arith}
use Rattle.std.specs.Prelude.{slice_index_or}
use Rattle.wac_types_base.specs.declared.item.«Type».{«Type» as TypeKind}
use Rattle.wac_types_base.specs.declared.item.ItemKind.{ItemKind}
use Rattle.wac_types_base.specs.Collection.{item_node}
use Rattle.wac_types_base.specs.Reaching.{Reaches}
use Rattle.wac_types_merge.specs.Families.{IsWitExport, IsForeign}
use Rattle.wac_types_merge.proofs.Families.{one_before, all_before}
use Rattle.wac_types_merge.proofs.family.are_wit_exports.Goals as goal
use Rattle.wac_types_base.proofs.Copying.{get_or-Among}
use Rattle.wac_types_base.proofs.Used.{place_or}

abbrev nothing : ItemKind
nothing = ItemKind.Ty (TypeKind.Resource (record { collection = 0; index = 0 }))

pub returns-then-not-is_wit_export : goal.returns-then-not-is_wit_export
returns-then-not-is_wit_export c =
    let within : c.loop-index.index < length c.args.exports.now = omega arith in (
      λ h. absurd (cc h),
      λ all. c.if-not-is_wit_export.ensures.1 (all (slice_index_or c.args.exports.now c.loop-index.index nothing) (get_or-Among c.args.exports.now c.loop-index.index nothing within)).0,
    )

pub reaches_foreign-requires-clause-stands : goal.reaches_foreign-requires-clause-stands
reaches_foreign-requires-clause-stands c =
    let within : c.loop-index.index < length c.args.exports.now = omega arith in
    c.requires.stand (slice_index_or c.args.exports.now c.loop-index.index nothing) (get_or-Among c.args.exports.now c.loop-index.index nothing within)

pub returns-then-reaches_foreign : goal.returns-then-reaches_foreign
returns-then-reaches_foreign c =
    let within : c.loop-index.index < length c.args.exports.now = omega arith in (
      λ h. absurd (cc h),
      λ all. absurd ((all (slice_index_or c.args.exports.now c.loop-index.index nothing) (get_or-Among c.args.exports.now c.loop-index.index nothing within)).1 (c.if-reaches_foreign.ensures.0 refl)),
    )

pub loop-index-preserved : goal.loop-index-preserved
loop-index-preserved c =
    let within : c.loop-index.index < length c.args.exports.now = omega arith in
    one_before c.args.exports.now (λ k. IsWitExport k × (Reaches (item_node c.args.types.now) (IsForeign c.args.types.now c.args.id) k → ⊥)) c.loop-index.index (slice_index_or c.args.exports.now c.loop-index.index nothing)
    (place_or c.args.exports.now c.loop-index.index nothing within) c.loop-index.invariant (c.if-not-is_wit_export.ensures.0 refl, λ r. absurd (cc (c.if-reaches_foreign.ensures.1 r)))

pub returns : goal.returns
returns c = (
  λ h k m. all_before c.args.exports.now (λ k. IsWitExport k × (Reaches (item_node c.args.types.now) (IsForeign c.args.types.now c.args.id) k → ⊥)) c.loop-index.index (omega arith) c.loop-index.invariant k m,
  λ h. refl,
)
