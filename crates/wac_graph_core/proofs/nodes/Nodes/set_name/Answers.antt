use Rattle.std.proofs.Common.{◌<◌, Some, refl, sym, subst}
use Rattle.wac_graph_core.specs.Nodes.{NodeData}
use Rattle.wac_graph_core.proofs.NodeMap.{index_within, nodes_changed}
use Rattle.wac_graph_core.proofs.Noting.{known_changed}
use Rattle.wac_graph_core.proofs.nodes.Nodes.set_name.Goals as goal

pub index_mut-requires : goal.index_mut-requires
index_mut-requires c =
    subst (λ n. c.index.result < n) (sym c.self.inside.slots.ok.0) (index_within c.self.inside.slots.items c.args.self.now c.index.result c.args.id c.self.view_is c.index.ensures c.requires)

pub returns : goal.returns
returns c =
    nodes_changed c.self.inside.slots.items c.args.self.now c.index.result c.args.id c.self.view_is c.index.ensures c.requires
    c.index_mut.result.now c.name_at.new.slot (λ (x : NodeData). record x { name = Some c.args.name }) c.index_mut.ensures.value c.name_at.ensures

pub invariant_of-self : goal.invariant_of-self
invariant_of-self c =
    known_changed c.self.inside.noted c.self.inside.slots.items c.args.self.now c.index.result c.args.id c.index_mut.result.now c.name_at.new.slot (λ (x : NodeData). record x { name = Some c.args.name })
    (λ x. refl) (λ x. refl) c.self.view_is c.index.ensures c.requires c.index_mut.ensures.value c.name_at.ensures c.self.invariant
