use Rattle.std.proofs.Common.{◌++◌, sym, ap, ◌∙◌, arith}
use Rattle.std.specs.Prelude.{option_to_list}
use Rattle.std.proofs.lemmas.Option.{same_Some, slice_get_within}
use Rattle.std.proofs.lemmas.Result.{on_ok_weaker}
use Rattle.wac_types_base.specs.declared.defined.UsedType.{UsedType}
use Rattle.wac_types_base.specs.Entries.{Name}
use Rattle.wac_types_parts.specs.Parts.{uses_of}
use Rattle.wac_graph_scopes.specs.UsePlaces.{place_of}
use Rattle.wac_graph_scopes.proofs.order.add_use_at.Goals as goal

pub returns-in-Some : goal.returns-in-Some
returns-in-Some c =
    let r = c.in-Some.ensures.entry in
    let types = c.args.types.now in
    let found = c.args.found.now in
    on_ok_weaker c.add_place.result
    (λ f e at. f ∙ ap (λ o. c.args.needs.now.items ++ option_to_list o) (c.place_of_use.ensures
    ∙ ap (place_of types found) (r.2.interface ∙ ap (λ (u : Name × UsedType). u.1.interface) (same_Some r.0 e (sym r.1 ∙ at)))))
    c.add_place.ensures

pub returns-in-None : goal.returns-in-None
returns-in-None c = λ e at. absurd (omega (arith, slice_get_within (uses_of c.args.types.now c.args.id) c.args.at e at, c.in-None.ensures.none))
