use Rattle.std.proofs.Common.{◌≡◌, ℕ, ◌+◌, ◌-◌, ◌*◌, ◌<◌, length, Some, false, slice_get}
use Rattle.wac_types_base.specs.declared.item.ItemKind.{ItemKind}
use Rattle.wac_types_base.specs.Collection.{size_of, defined_entry}
use Rattle.wac_types_base.specs.Stated.{stated_of, contains_borrow}
use Rattle.wac_types_base.proofs.Telling.{row_size}
use Rattle.wac_types_base.proofs.+borrows.Given as goal

abbrev pub decreases-defined::DefinedType::contains_borrow : goal.decreases-defined::DefinedType::contains_borrow
decreases-defined::DefinedType::contains_borrow l = 2 * row_size l.types.now (defined_entry l.self.now).1 + 1

abbrev pub decreases-item::ValueType::contains_borrow : goal.decreases-item::ValueType::contains_borrow
decreases-item::ValueType::contains_borrow l = 2 * size_of l.types.now (ItemKind.Value l.self.now)

-- no place before this one has a borrow in it
abbrev pub invariant-defined::DefinedType::contains_borrow-loop-place : goal.invariant-defined::DefinedType::contains_borrow-loop-place
invariant-defined::DefinedType::contains_borrow-loop-place l = (i : ℕ) (j : ItemKind) → i < l.at → slice_get (defined_entry l.self).1 i ≡ Some (Some j) → contains_borrow (stated_of l.types j) ≡ false

abbrev pub decreases-defined::DefinedType::contains_borrow-loop-place : goal.decreases-defined::DefinedType::contains_borrow-loop-place
decreases-defined::DefinedType::contains_borrow-loop-place l = length (defined_entry l.self).1 - l.at
