use Rattle.std.proofs.Common.{ap, subst, sym, ◌≡◌, ◌∙◌}
use Rattle.std.specs.Prelude.{slice_get, string_bytes, Some}
use Rattle.wac_types_base.specs.declared.item.ItemKind.{ItemKind}
use Rattle.wac_types_base.specs.declared.ids.InterfaceId.{InterfaceId}
use Rattle.wac_types_base.specs.Record.{Collection}
use Rattle.wac_types_base.specs.Collection.{IsAcyclic}
use Rattle.wac_types_base.specs.Entries.{names_of}
use Rattle.wac_types_base.specs.Stated.{exports_of}
use Rattle.wac_parser_refusals.specs.declared.error.InstanceOperation.{InstanceOperation}
use Rattle.wac_parser_refusals.proofs.Outcomes.{memory_outcome, refused_outcome}
use Rattle.wac_parser_declare.specs.Holding.{Holds}
use Rattle.wac_parser_resolve.specs.Denoting.{asks_instance}
use Rattle.wac_parser_resolve.specs.Matching.{matched}
use Rattle.wac_parser_resolve.proofs.Accesses.{export_names, held_as}
use Rattle.wac_parser_resolve.proofs.expressions.export_meant.Goals as goal

pub returns-in_err-id : goal.returns-in_err-id
returns-in_err-id c t h =
    refused_outcome (λ u text. string_bytes text ≡ matched c.args.name.now (names_of (exports_of t))) (asks_instance t InstanceOperation.Access c.args.before) _ _ c.from_residual.ensures.1
    (c.in_err-id.ensures.outcome t h)

pub returns-in_err-from_str : goal.returns-in_err-from_str
returns-in_err-from_str c t h =
    memory_outcome (λ u text. string_bytes text ≡ matched c.args.name.now (names_of (exports_of t))) (asks_instance t InstanceOperation.Access c.args.before) _ c.from_residual-in_err-from_str.ensures.1

pub returns : goal.returns
returns c t h =
    let m = matched c.args.name.now (names_of (exports_of t)) in
    held_as (asks_instance t InstanceOperation.Access c.args.before) (λ (i : InterfaceId). Holds c.args.graph.now.types t (ItemKind.Instance i)) (λ text. string_bytes text ≡ m) c.in_ok-id.id c.in_ok-from_str.field-0
    (c.in_ok-id.ensures.outcome t h)
    (λ held. c.in_ok-from_str.ensures.ok ∙ c.matched.ensures ∙ ap (matched c.args.name.now)
    (sym (export_names c.args.graph.now.types (subst IsAcyclic c.types.ensures c.interface.ensures.acyclic) t c.in_ok-id.id c.interface.result.now held
    (subst (λ (x : Collection). slice_get x.interfaces c.in_ok-id.id.index ≡ Some c.interface.result.now) c.types.ensures c.interface.ensures.entry)
    (subst (λ (x : Collection). c.in_ok-id.id.collection ≡ x.number) c.types.ensures c.interface.ensures.own))))
