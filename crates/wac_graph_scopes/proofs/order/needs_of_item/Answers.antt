use Rattle.std.proofs.Common.{◌++◌, ◌∷◌, [], sym, ap, ◌∙◌, subst}
use Rattle.wac_graph_scopes.specs.UsePlaces.{UsePlaces}
use Rattle.wac_graph_scopes.proofs.order.needs_of_item.Goals as goal

pub returns : goal.returns
returns c =
    let a = c.in_ok-add_needs.ensures in
    subst (UsePlaces c.args.types.now c.args.found.now (c.args.kind ∷ [])) (sym (a.2 ∙ ap (λ l. l ++ a.0) c.new-needs.ensures.items)) a.1
