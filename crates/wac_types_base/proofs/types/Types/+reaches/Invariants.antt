use Rattle.std.proofs.Common.{◌≡◌, ℕ, ◌<◌, ◌-◌, length, Some, slice_get}
use Rattle.wac_types_base.specs.declared.item.ItemKind.{ItemKind}
use Rattle.wac_types_base.specs.Collection.{slots_of, size_of, item_node}
use Rattle.wac_types_base.specs.Reaching.{Reaches, NamesEntry}
use Rattle.wac_types_base.proofs.types.Types.+reaches.Given as goal

abbrev pub decreases-reaches : goal.decreases-reaches
decreases-reaches l = size_of l.self.now l.kind

-- no place before this one leads to the entry
abbrev pub invariant-loop-place : goal.invariant-loop-place
invariant-loop-place l = (i : ℕ) (j : ItemKind) → i < l.at → slice_get (slots_of l.self l.kind) i ≡ Some (Some j) → Reaches (item_node l.self) (NamesEntry l.target) j → ⊥

abbrev pub decreases-loop-place : goal.decreases-loop-place
decreases-loop-place l = length (slots_of l.self l.kind) - l.at
