use Rattle.std.proofs.Common.{◌+◌, ◌*◌, take}
use Rattle.wac_types_base.specs.declared.item.ItemKind.{ItemKind}
use Rattle.wac_types_base.specs.Collection.{Grows, size_of}
use Rattle.wac_types_merge.specs.Interfaces.{AreJoined}
use Rattle.wac_types_merge.specs.United.{ItemsUnite}
use Rattle.wac_types_merge.proofs.cycle.+merging.Given as goal

abbrev pub decreases-merge : goal.decreases-merge
decreases-merge l = 8 * (size_of l.own.now l.a + size_of l.own.now l.b) + 5

abbrev pub decreases-merge_types : goal.decreases-merge_types
decreases-merge_types l = 8 * (size_of l.own.now (ItemKind.Ty l.a) + size_of l.own.now (ItemKind.Ty l.b)) + 4

abbrev pub decreases-merge_instances : goal.decreases-merge_instances
decreases-merge_instances l = 8 * (size_of l.own.now (ItemKind.Instance l.a) + size_of l.own.now (ItemKind.Instance l.b)) + 3

abbrev pub decreases-merge_copies : goal.decreases-merge_copies
decreases-merge_copies l = 8 * (size_of l.own.now (ItemKind.Instance l.a) + size_of l.own.now (ItemKind.Instance l.b)) + 2

abbrev pub decreases-merge_items : goal.decreases-merge_items
decreases-merge_items l = 8 * (size_of l.own.now l.instances.kept + size_of l.own.now l.instances.asked) + 1

abbrev pub decreases-merge_item : goal.decreases-merge_item
decreases-merge_item l = 8 * (size_of l.own.now l.instances.kept + size_of l.own.now l.instances.asked)

-- the items so far are joined
abbrev pub invariant-merge_items-loop-index : goal.invariant-merge_items-loop-index
invariant-merge_items-loop-index l = record {
  joined : AreJoined l.fn.own l.asked l.own (take l.index l.kept) l.both;
  united : ItemsUnite l.fn.own l.asked l.own (take l.index l.kept) l.both;
  grows : Grows l.fn.own l.own;
}
