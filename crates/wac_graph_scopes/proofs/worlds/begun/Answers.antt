use Rattle.std.proofs.Common.{sym, ◌∙◌, subst}
use Rattle.wac_graph_bytes.specs.Typing.{nothing_inside}
use Rattle.wac_graph_scopes.specs.declared.items.ItemScope.{ItemScope}
use Rattle.wac_graph_scopes.specs.Items.{IsItemScope}
use Rattle.wac_graph_scopes.proofs.ImportLaws.{world_begun}
use Rattle.wac_graph_scopes.proofs.worlds.begun.Goals as goal

pub returns : goal.returns
returns c =
    let b = c.in_ok-begin.ensures in
    let new = c.new-scope.ensures in
    world_begun c.args.all c.begin.new.self (λ w cc outer. subst (λ (s : ItemScope). IsItemScope w cc outer nothing_inside s) (sym b.scope) (new.scope w cc outer)) (b.used ∙ new.used) b.places b.many
