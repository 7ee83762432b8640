use Rattle.wac_graph_scopes.proofs.StockLaws.{stock_begun}
use Rattle.wac_graph_scopes.proofs.stock.begin_instance.Goals as goal

pub returns-clause-held : goal.returns-clause-held
returns-clause-held c =
    let types = c.args.all.types.now in
    stock_begun types c.see_acyclic.ensures c.args.all.around.used.now c.args.all.id c.take_uses.new.scope.types c.export_resources.new.scope.types c.in_ok-export_resources.ensures.keeps c.in_ok-given.ensures.held
    (c.in_ok-export_resources.ensures.own c.in_ok-given.ensures.given)
