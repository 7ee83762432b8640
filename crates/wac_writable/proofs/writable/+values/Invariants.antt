use Rattle.std.proofs.Common.{◌≡◌, ◌+◌, ◌-◌, ◌*◌, length, drop}
use Rattle.std.specs.List.{list_any}
use Rattle.wac_types_base.specs.declared.item.ValueType.{ValueType}
use Rattle.wac_types_base.specs.declared.item.ItemKind.{ItemKind}
use Rattle.wac_types_base.specs.Collection.{size_of, slots_of}
use Rattle.wac_composition.specs.Writable.{Holder as Held}
use Rattle.wac_writable.specs.Holders.{Holds, Keeps}
use Rattle.wac_writable.specs.Values.{slot_fails, places_fail}
use Rattle.wac_writable.proofs.writable.+values.Given as goal

abbrev pub decreases-value_fails : goal.decreases-value_fails
decreases-value_fails l = 4 * size_of l.test.types.now (ItemKind.Value l.ty) + 3

abbrev pub decreases-defined_fails : goal.decreases-defined_fails
decreases-defined_fails l = 4 * size_of l.test.types.now (ItemKind.Value (ValueType.Defined l.id)) + 2

abbrev pub decreases-places_fail : goal.decreases-places_fail
decreases-places_fail l = 4 * size_of l.test.types.now l.kind + 1

abbrev pub decreases-places_fail-loop-place : goal.decreases-places_fail-loop-place
decreases-places_fail-loop-place l = length (slots_of l.test.types.now l.kind) - l.at

-- the places that are left decide
abbrev pub invariant-places_fail-loop-place : goal.invariant-places_fail-loop-place
invariant-places_fail-loop-place l =
    Keeps l.test.types.now l.fn.holder l.holder × ((h : Held) → Holds l.test.types.now l.fn.holder h → places_fail l.test.types.now l.kind h ≡ list_any (slot_fails l.test.types.now h) (drop l.at (slots_of l.test.types.now l.kind)))
