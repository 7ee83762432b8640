use Rattle.std.proofs.Common.{◌≡◌, not, is_some, Some, ap, refl, sym, subst, ◌∙◌, arith}
use Rattle.std.specs.Prelude.{slice_get}
use Rattle.wac_types_base.specs.declared.item.ItemKind.{ItemKind}
use Rattle.wac_types_base.specs.Record.{Collection}
use Rattle.wac_types_base.specs.Collection.{IsAcyclic}
use Rattle.wac_types_base.specs.Entries.{texts_of, value_at}
use Rattle.wac_types_base.specs.Stated.{stated_of}
use Rattle.wac_parser_resolve.specs.InExports.{left_to_export}
use Rattle.wac_parser_resolve.proofs.Accesses.{export_names}
use Rattle.wac_parser_resolve.proofs.Spreading.{left_ends}
use Rattle.wac_parser_resolve.proofs.exports.unexported.Goals as goal

pub returns : goal.returns
returns c =
    let g = c.args.graph.now in
    let left = left_to_export g.exports in
    let acyclic = subst IsAcyclic c.types.ensures c.interface.ensures.acyclic in
    let at = subst (λ (x : Collection). slice_get x.interfaces c.args.interface.index ≡ Some c.interface.result.now) c.types.ensures c.interface.ensures.entry in
    let own = subst (λ (x : Collection). c.args.interface.collection ≡ x.number) c.types.ensures c.interface.ensures.own in
    left_ends (λ n. not (is_some (value_at g.exports n))) c.names-name-items.result.now c.loop-name.name-index (texts_of c.loop-name.names.items)
    (left (texts_of c.names-name-items.result.now)) c.loop-name.invariant (omega (arith, c.loop-name-test.false))
    ∙ ap left (c.names-name-items.ensures ∙ sym (export_names g.types acyclic (stated_of g.types (ItemKind.Instance c.args.interface)) c.args.interface c.interface.result.now
    (record { stands = c.requires; same = refl }) at own))
