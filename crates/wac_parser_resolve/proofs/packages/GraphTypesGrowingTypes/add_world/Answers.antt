use Rattle.std.proofs.Common.{IfOk, subst}
use Rattle.wac_types_base.specs.declared.item.ItemKind.{ItemKind}
use Rattle.wac_graph_core.specs.Graph.{Graph}
use Rattle.wac_parser_declare.specs.Added.{IsNew}
use Rattle.wac_parser_declare.proofs.Fresh.{world_fresh}
use Rattle.wac_parser_resolve.proofs.packages.GraphTypesGrowingTypes.add_world.Goals as goal

pub returns-clause-fresh : goal.returns-clause-fresh
returns-clause-fresh c =
    subst (λ (g : Graph). IfOk c.add_world.result (λ i. IsNew g.types (ItemKind.Component i))) c.types_mut.ensures.graph (world_fresh c.types_mut.result.graph.now.types c.add_world.result c.add_world.ensures.id)
