use Rattle.std.proofs.Common.{◌≡◌, ℕ, ◌<◌, ◌-◌, length, Some, slice_get}
use Rattle.wac_types_base.specs.declared.item.ItemKind.{ItemKind}
use Rattle.wac_types_base.specs.Collection.{slots_of, size_of, item_node}
use Rattle.wac_types_base.specs.Reaching.{Reaches}
use Rattle.wac_types_merge.specs.Families.{IsUnplain}
use Rattle.wac_types_merge.proofs.family.+reaches_unplain.Given as goal

abbrev pub decreases-reaches_unplain : goal.decreases-reaches_unplain
decreases-reaches_unplain l = size_of l.types.now l.kind

-- no place before this one leads to such an item
abbrev pub invariant-loop-place : goal.invariant-loop-place
invariant-loop-place l = (i : ℕ) (j : ItemKind) → i < l.at → slice_get (slots_of l.types l.kind) i ≡ Some (Some j) → Reaches (item_node l.types) (IsUnplain l.types) j → ⊥

abbrev pub decreases-loop-place : goal.decreases-loop-place
decreases-loop-place l = length (slots_of l.types l.kind) - l.at
