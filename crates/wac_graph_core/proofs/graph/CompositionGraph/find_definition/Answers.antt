use Rattle.std.proofs.Common.{IfNone, subst}
use Rattle.wac_types_base.specs.declared.item.ItemKind.{ItemKind}
use Rattle.wac_graph_core.specs.NodeMaps.{NoDefinition}
use Rattle.wac_graph_core.specs.Graph.{Graph}
use Rattle.wac_graph_core.proofs.graph.CompositionGraph.find_definition.Goals as goal

pub returns-then-is_newer-clause-none : goal.returns-then-is_newer-clause-none
returns-then-is_newer-clause-none c = c.is_newer.ensures.undefined c.if-is_newer.true

pub returns-clause-none : goal.returns-clause-none
returns-clause-none c = subst (λ (g : Graph). IfNone c.find_definition.result (NoDefinition g.nodes (ItemKind.Ty c.args.ty))) c.self.view_is c.find_definition.ensures.none
