use Rattle.std.proofs.Common.{IfOk, subst}
use Rattle.wac_types_base.specs.declared.item.ItemKind.{ItemKind}
use Rattle.wac_graph_core.specs.Graph.{Graph}
use Rattle.wac_parser_declare.specs.Added.{IsNew}
use Rattle.wac_parser_declare.proofs.Fresh.{interface_fresh}
use Rattle.wac_parser_resolve.proofs.packages.GraphTypesGrowingTypes.add_interface.Goals as goal

pub returns-clause-fresh : goal.returns-clause-fresh
returns-clause-fresh c =
    subst (λ (g : Graph). IfOk c.add_interface.result (λ i. IsNew g.types (ItemKind.Instance i))) c.types_mut.ensures.graph (interface_fresh c.types_mut.result.graph.now.types c.add_interface.result c.add_interface.ensures.id)
