use Rattle.std.proofs.Common.{sym, subst, ◌∙◌}
use Rattle.wac_types_base.specs.Collection.{IsAcyclic}
use Rattle.wac_graph_core.specs.Graph.{node_at}
use Rattle.wac_graph_asks.proofs.Arguments.{Puts, puts_first, puts_more, puts_all, none_passed, nothing_there}
use Rattle.wac_graph_asks.proofs.nodes.add_arguments.Goals as goal

pub returns-then-not-contains_node : goal.returns-then-not-contains_node
returns-then-not-contains_node c =
    none_passed c.args.graph.now c.args.id c.see_sound.ensures (subst IsAcyclic c.types.ensures c.see_acyclic.ensures) c.args.by_name.now c.requires
    (nothing_there (node_at c.args.graph.now c.args.id) (sym c.contains_node.ensures ∙ c.if-not-contains_node.true))

pub loop-name-init : goal.loop-name-init
loop-name-init c = (
  tt,
  tt,
  subst (λ l. Puts c.args.graph.now c.args.id l c.args.by_name.now) (sym (c.into_iter-name-iterator.ensures.into_iter_gives ∙ c.get_instantiation_arguments-name-items.ensures))
      (puts_first c.args.graph.now c.args.id c.args.by_name.now c.requires),
)

pub loop-name-preserved : goal.loop-name-preserved
loop-name-preserved c = (
  tt,
  tt,
  subst (λ m. Puts c.args.graph.now c.args.id c.next.new.self m) (sym c.in_ok-insert_under.ensures)
      (puts_more c.args.graph.now c.args.id c.loop-name.name-iterator c.next.new.self c.loop-name.by_name c.in-Some.name.now c.in-Some.argument c.loop-name.invariant.2 c.in-Some.ensures.steps),
)

pub returns : goal.returns
returns c =
    puts_all c.args.graph.now c.args.id c.see_sound.ensures (subst IsAcyclic c.types.ensures c.see_acyclic.ensures) c.loop-name.name-iterator c.loop-name.by_name c.loop-name.invariant.2 c.in-None.ensures.steps.0
