use Rattle.std.proofs.Common.{sym, subst}
use Rattle.wac_graph_core.specs.NodeMaps.{AreThose}
use Rattle.wac_graph_core.specs.Defining.{IsUserOf}
use Rattle.wac_graph_core.proofs.graph.CompositionGraph.users_of.Goals as goal

pub returns-then-is_newer : goal.returns-then-is_newer
returns-then-is_newer c = subst (AreThose c.args.self.now.nodes (IsUserOf c.args.self.now.types c.args.ty)) (sym c.new.ensures.items) (c.is_newer.ensures.unused c.if-is_newer.true)
