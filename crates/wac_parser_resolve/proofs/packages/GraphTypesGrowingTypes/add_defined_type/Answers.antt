use Rattle.std.proofs.Common.{IfOk, subst}
use Rattle.wac_types_base.specs.declared.item.ItemKind.{ItemKind}
use Rattle.wac_types_base.specs.declared.item.ValueType.{ValueType}
use Rattle.wac_graph_core.specs.Graph.{Graph}
use Rattle.wac_parser_declare.specs.Added.{IsNew}
use Rattle.wac_parser_declare.proofs.Fresh.{defined_fresh}
use Rattle.wac_parser_resolve.proofs.packages.GraphTypesGrowingTypes.add_defined_type.Goals as goal

pub returns-clause-fresh : goal.returns-clause-fresh
returns-clause-fresh c =
    subst (λ (g : Graph). IfOk c.add_defined_type.result (λ i. IsNew g.types (ItemKind.Value (ValueType.Defined i)))) c.types_mut.ensures.graph (defined_fresh c.types_mut.result.graph.now.types c.add_defined_type.result c.add_defined_type.ensures.id)
