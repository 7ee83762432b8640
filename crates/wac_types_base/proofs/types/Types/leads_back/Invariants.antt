use Rattle.std.proofs.Common.{◌≡◌, ℕ, ◌<◌, ◌-◌, length, Some, slice_get}
use Rattle.wac_types_base.specs.declared.item.ItemKind.{ItemKind}
use Rattle.wac_types_base.specs.Collection.{item_node}
use Rattle.wac_types_base.specs.Reaching.{Reaches, NamesEntry}
use Rattle.wac_types_base.proofs.types.Types.leads_back.Given as goal

-- no place before this one leads to the entry
abbrev pub invariant-loop-place : goal.invariant-loop-place
invariant-loop-place g l = (i : ℕ) (j : ItemKind) → i < l.at → slice_get (g.E.Places.entry l.entry).1 i ≡ Some (Some j) → Reaches (item_node l.self) (NamesEntry l.target) j → ⊥

abbrev pub decreases-loop-place : goal.decreases-loop-place
decreases-loop-place g l = length (g.E.Places.entry l.entry).1 - l.at
