use Rattle.std.proofs.Common.{IfOk, subst}
use Rattle.wac_types_base.specs.declared.item.ItemKind.{ItemKind}
use Rattle.wac_types_base.specs.declared.item.«Type».{«Type» as TypeKind}
use Rattle.wac_graph_core.specs.Graph.{Graph}
use Rattle.wac_parser_declare.specs.Added.{IsNew}
use Rattle.wac_parser_declare.proofs.Fresh.{resource_fresh}
use Rattle.wac_parser_resolve.proofs.packages.GraphTypesGrowingTypes.add_resource.Goals as goal

pub returns-clause-fresh : goal.returns-clause-fresh
returns-clause-fresh c =
    subst (λ (g : Graph). IfOk c.add_resource.result (λ i. IsNew g.types (ItemKind.Ty (TypeKind.Resource i)))) c.types_mut.ensures.graph (resource_fresh c.types_mut.result.graph.now.types c.add_resource.result c.add_resource.ensures.id)
