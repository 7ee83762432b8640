use Rattle.std.specs.Prelude.{Bool, List}
use Rattle.std.proofs.Common.{◌+◌, ◌*◌, take}
use Rattle.wac_types_base.specs.Entries.{Name}
use Rattle.wac_types_base.specs.Tree.{Tree}
use Rattle.wac_graph_bytes.specs.Typing.{Worlds}
use Rattle.wac_graph_encode.specs.Writing.{AddsOnly, KeepsNodes, UpToOne, WrittenSo}
use Rattle.wac_graph_encode.specs.Ready.{AllStand}
use Rattle.wac_graph_encode.proofs.Depths.{above_all, depth_of}
use Rattle.wac_graph_encode.proofs.instances.Wired.+nodes.Given as goal

abbrev pub decreases-write_node : goal.decreases-write_node
decreases-write_node l = 4 * depth_of l.self.now.graph.now.edges l.node + 4

abbrev pub decreases-write_bound : goal.decreases-write_bound
decreases-write_bound l = 4 * depth_of l.self.now.graph.now.edges l.node + 3

abbrev pub decreases-write_sources : goal.decreases-write_sources
decreases-write_sources l = 4 * depth_of l.self.now.graph.now.edges l.node + 2

abbrev pub decreases-write_each : goal.decreases-write_each
decreases-write_each l = 4 * above_all (depth_of l.self.now.graph.now.edges) l.nodes.now + 1

-- what was written is written still, those so far stand, and nothing is new that these don't need
abbrev pub invariant-write_each-loop-node : goal.invariant-write_each-loop-node
invariant-write_each-loop-node l = record {
  writes : (define : Bool) (worlds : Worlds) (asked : List (Name × Tree)) → WrittenSo define worlds asked l.fn.self → WrittenSo define worlds asked l.self;
  keeps : KeepsNodes l.fn.self l.self;
  only : AddsOnly (UpToOne l.nodes) l.fn.self l.self;
  stand : AllStand l.self (take l.node-index l.nodes);
}
