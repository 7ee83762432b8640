use Rattle.std.proofs.Common.{◌≡◌, sym, subst}
use Rattle.wac_types_base.specs.declared.item.ItemKind.{ItemKind}
use Rattle.wac_types_base.specs.Collection.{Grows, Stands}
use Rattle.wac_graph_core.specs.Graph.{Graph}
use Rattle.wac_graph_core.specs.View.{graph}
use Rattle.wac_graph_core.proofs.GraphSteps.{IsGraph-grown}
use Rattle.wac_graph_core.proofs.Lending.{package_made_stands}
use Rattle.wac_types_names.specs.Packages.{AddsInterfaceOf}
use Rattle.std.specs.Result.{IfOk, OnErr}
use Rattle.wac_graph_core.proofs.DefineSteps.{items_stand}
use Rattle.wac_graph_core.proofs.Below.{ReachBelow-package}
use Rattle.wac_graph_core.proofs.graph.CompositionGraph.add_package_type.Goals as goal

pub invariant_of-self : goal.invariant_of-self
invariant_of-self c = (
  IsGraph-grown (graph c.self.inside) c.from_world.new.types.types.now (subst (λ t. Grows t c.from_world.new.types.types.now) c.adding.ensures.types c.from_world.ensures.grows) c.self.invariant.0,
  ReachBelow-package c.self.inside.types c.see_acyclic.ensures c.self.inside.nodes (items_stand (graph c.self.inside) c.self.invariant.0) c.from_world.result c.from_world.new.types.types.now c.args.world c.self.inside.defined_below
      (subst (λ t. IfOk c.from_world.result (λ p. AddsInterfaceOf t c.from_world.new.types.types.now c.args.world p.instance_type)) c.adding.ensures.types c.from_world.ensures.instance_type)
      (subst (λ t. OnErr c.from_world.result (c.from_world.new.types.types.now ≡ t)) c.adding.ensures.types c.from_world.ensures.err) c.self.invariant.1,
)

pub returns-clause-stands : goal.returns-clause-stands
returns-clause-stands c =
    package_made_stands c.from_world.result c.adding.result.types.now c.from_world.new.types.types.now c.args.world c.from_world.ensures.grows
    (subst (λ t. Stands t (ItemKind.Component c.args.world)) (sym c.adding.ensures.types) (subst (λ (g : Graph). Stands g.types (ItemKind.Component c.args.world)) (sym c.self.view_is) c.requires))
    c.from_world.ensures.ty c.from_world.ensures.instance_type
