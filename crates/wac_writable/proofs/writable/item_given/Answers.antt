use Rattle.std.proofs.Common.{◌≡◌, Some, sym, subst}
use Rattle.wac_types_base.specs.Entries.{value_at}
use Rattle.wac_types_parts.specs.Parts.{imports_of, world_exports_of}
use Rattle.wac_writable.specs.declared.writable.GivenBy.{GivenBy}
use Rattle.wac_writable.specs.Givers.{items_by}
use Rattle.wac_writable.proofs.GivenLaws.{value_first, value_second}
use Rattle.wac_writable.proofs.writable.item_given.Goals as goal

pub returns-in-Some-clause-value : goal.returns-in-Some-clause-value
returns-in-Some-clause-value c =
    let types = c.args.types.now in
    let world = c.in-Exports.world in
    subst (λ (by : GivenBy). Some c.in-Some.item ≡ value_at (items_by types by) c.args.name.now) (sym c.in-Exports.is)
    (value_first (world_exports_of types world) (imports_of types world) c.args.name.now c.in-Some.item c.in-Some.ensures.value)

pub returns-in-None-clause-value : goal.returns-in-None-clause-value
returns-in-None-clause-value c =
    let types = c.args.types.now in
    let world = c.in-Exports.world in
    let o = c.import_named-in-None.result in
    subst (λ (by : GivenBy). o ≡ value_at (items_by types by) c.args.name.now) (sym c.in-Exports.is)
    (value_second (world_exports_of types world) (imports_of types world) c.args.name.now o c.in-None.ensures.value c.import_named-in-None.ensures.value)
