use Rattle.std.proofs.Common.{◌≡◌, ℕ, ◌<◌, ◌-◌, length, Some, slice_get}
use Rattle.wac_types_base.specs.declared.item.ItemKind.{ItemKind}
use Rattle.wac_types_base.specs.Collection.{Grows, slots_of, size_of}
use Rattle.wac_types_base.specs.Copies.{Knows, AreCopies, KeepsKnown}
use Rattle.wac_types_base.proofs.copy.+copy_below.Given as goal

abbrev pub decreases-copy_below : goal.decreases-copy_below
decreases-copy_below l = size_of l.from.now l.kind

-- what is in the places before this one has copies
abbrev pub invariant-loop-place : goal.invariant-loop-place
invariant-loop-place l = record {
  copies : AreCopies l.from l.to l.copies;
  grows : Grows l.fn.to l.to;
  keeps : KeepsKnown l.fn.copies l.copies;
  before : (i : ℕ) (j : ItemKind) → i < l.at → slice_get (slots_of l.from l.kind) i ≡ Some (Some j) → Knows l.copies j;
}

abbrev pub decreases-loop-place : goal.decreases-loop-place
decreases-loop-place l = length (slots_of l.from l.kind) - l.at
