use Rattle.std.proofs.Common.{◌≡◌, ◌+◌, ◌-◌, ◌*◌, List, length, take}
use Rattle.wac_types_base.specs.declared.item.ItemKind.{ItemKind}
use Rattle.wac_types_base.specs.declared.item.ValueType.{ValueType}
use Rattle.wac_types_base.specs.Collection.{size_of, slots_of}
use Rattle.wac_types_fit.specs.Checking.{place_trees}
use Rattle.wac_types_fit.proofs.ValueTrees.{place_size}
use Rattle.wac_graph_bytes.specs.Typing.{Worlds, Scope, Inside}
use Rattle.wac_graph_scopes.specs.Known.{KeepsKnown}
use Rattle.wac_graph_scopes.specs.Scopes.{IsScope, AnswersPlaces}
use Rattle.wac_graph_scopes.proofs.value.+values.Given as goal

abbrev pub decreases-push_value : goal.decreases-push_value
decreases-push_value l = 8 * size_of l.types.now (ItemKind.Value l.ty) + 4

abbrev pub decreases-push_resolved : goal.decreases-push_resolved
decreases-push_resolved l = 8 * size_of l.types.now (ItemKind.Value l.ty) + 3

abbrev pub decreases-push_defined : goal.decreases-push_defined
decreases-push_defined l = 8 * size_of l.types.now (ItemKind.Value (ValueType.Defined l.id)) + 2

abbrev pub decreases-define_entry : goal.decreases-define_entry
decreases-define_entry l = 8 * size_of l.types.now (ItemKind.Value (ValueType.Defined l.id)) + 1

abbrev pub decreases-push_places : goal.decreases-push_places
decreases-push_places l = 8 * size_of l.types.now l.kind

abbrev pub decreases-push_place : goal.decreases-push_place
decreases-push_place l = 8 * place_size l.types.now l.place + 5

-- the value types of the places before this one are written
abbrev pub invariant-push_places-loop-place : goal.invariant-push_places-loop-place
invariant-push_places-loop-place l = record {
  resources : l.scope.resources ≡ l.fn.scope.resources;
  known : KeepsKnown l.fn.scope.known.all.items l.scope.known.all.items;
  written : (w : Worlds) (outer : List Scope) (i : Inside) → IsScope w l.types outer i l.fn.scope → AnswersPlaces w l.types outer i (take l.at (place_trees l.types l.kind)) l.scope l.written.items;
}

abbrev pub decreases-push_places-loop-place : goal.decreases-push_places-loop-place
decreases-push_places-loop-place l = length (slots_of l.types l.kind) - l.at
