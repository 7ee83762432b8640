use Rattle.std.proofs.Common.{[], sym, subst}
use Rattle.wac_graph_scopes.specs.UsePlaces.{AddsSources}
use Rattle.wac_graph_scopes.proofs.order.needs_of_other.Goals as goal

pub returns : goal.returns
returns c s lt uses has =
    let a = c.args.all in
    let order = c.args.order.now.keys in
    subst (λ l. AddsSources a order c.args.at uses [] l) (sym (c.in_ok-add_needs.ensures s))
    (subst (λ l. AddsSources a order c.args.at uses l c.add_uses_before.new.needs.items) c.new-needs.ensures.items (c.in_ok-add_uses_before.ensures lt uses has))
