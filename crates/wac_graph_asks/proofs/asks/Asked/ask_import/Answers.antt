use Rattle.std.proofs.Common.{refl, subst}
use Rattle.std.proofs.lemmas.Result.{on_ok_weaker}
use Rattle.wac_types_base.specs.Copying.{IsCopy}
use Rattle.wac_graph_asks.proofs.NodeAsks.{import_added, no_import_added}
use Rattle.wac_graph_asks.proofs.asks.Asked.ask_import.Goals as goal

pub returns-in_default : goal.returns-in_default
returns-in_default c = no_import_added c.args.graph.now c.args.self.now c.requires c.args.node c.in_default.ensures

pub returns : goal.returns
returns c =
    on_ok_weaker c.push_ask.result
    (λ is. import_added c.args.graph.now c.args.self.now (record c.args.self.now { types = c.copy_item.new.to; asks = c.push_ask.new.asks }) c.requires c.in_ok-item.ensures.grows c.args.node c.in-Some.name.now c.in-Some-kind_of.kind c.in_ok-item.item
    c.in-Some.ensures c.in-Some-kind_of.ensures.kind (subst (λ t. IsCopy t c.copy_item.new.to c.in-Some-kind_of.kind c.in_ok-item.item) c.types.ensures c.in_ok-item.ensures.copied) is refl refl)
    c.push_ask.ensures
