use Rattle.std.proofs.Common.{◌∷◌, [], subst, ◌∙◌}
use Rattle.std.proofs.lemmas.Result.{on_ok_weaker}
use Rattle.wac_types_base.proofs.Lists.{there_is}
use Rattle.wac_graph_scopes.specs.Imports.{all_imports}
use Rattle.wac_graph_scopes.specs.UsePlaces.{AddsSources}
use Rattle.wac_graph_scopes.proofs.UsePlaceLaws.{uses_same}
use Rattle.wac_graph_scopes.proofs.order.add_uses_before.Goals as goal

pub returns : goal.returns
returns c =
    let a = c.args.all in
    let own = c.in_ok-uses.uses.items in
    on_ok_weaker c.add_sources_before.result
    (λ f lt uses has.
    let x = there_is (all_imports a) c.args.at lt in
    let same = uses_same a.types.now c.args.found.now (x.0.1 ∷ []) own uses (c.in_ok-uses.ensures x.0.0 x.0.1 x.1) (has x.0.0 x.0.1 x.1) in
    subst (λ l. AddsSources a c.args.order.now.keys c.args.at l c.args.needs.now.items c.add_sources_before.new.needs.items) (c.deref.ensures.value ∙ same) f)
    c.add_sources_before.ensures
