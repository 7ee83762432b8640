use Rattle.std.proofs.Common.{◌≡◌, ◌+◌, ◌-◌, ◌*◌, ◌<◌, ℕ, Some, length}
use Rattle.std.specs.Prelude.{slice_get}
use Rattle.wac_types_base.specs.declared.item.ItemKind.{ItemKind}
use Rattle.wac_types_base.specs.declared.item.ValueType.{ValueType}
use Rattle.wac_types_base.specs.Collection.{Slot, size_of, slots_of}
use Rattle.wac_types_fit.specs.Checking.{value_in}
use Rattle.wac_types_fit.proofs.ValueTrees.{place_size}
use Rattle.wac_graph_scopes.specs.Refusals.{AreLacking, NoneDangles}
use Rattle.wac_graph_scopes.proofs.lacking.Lacking.+lacking.Given as goal

abbrev pub decreases-of : goal.decreases-of
decreases-of l = 8 * size_of l.types.now (ItemKind.Value l.ty) + 3

abbrev pub decreases-of_defined : goal.decreases-of_defined
decreases-of_defined l = 8 * size_of l.types.now (ItemKind.Value (ValueType.Defined l.id)) + 2

abbrev pub decreases-of_new : goal.decreases-of_new
decreases-of_new l = 8 * size_of l.types.now (ItemKind.Value (ValueType.Defined l.id)) + 1

abbrev pub decreases-of_places : goal.decreases-of_places
decreases-of_places l = 8 * size_of l.types.now l.kind

abbrev pub decreases-of_place : goal.decreases-of_place
decreases-of_place l = 8 * place_size l.types.now l.place + 4

-- in none of the places so far such a handle is
abbrev pub invariant-of_places-loop-place : goal.invariant-of_places-loop-place
invariant-of_places-loop-place l = AreLacking l.types l.scope l.fn.self
    → AreLacking l.types l.scope l.self × ((n : ℕ) (s : Slot) → n < l.at → slice_get (slots_of l.types l.kind) n ≡ Some s → NoneDangles l.types l.scope (value_in s))

abbrev pub decreases-of_places-loop-place : goal.decreases-of_places-loop-place
decreases-of_places-loop-place l = length (slots_of l.types l.kind) - l.at
