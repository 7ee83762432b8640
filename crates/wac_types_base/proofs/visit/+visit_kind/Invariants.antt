use Rattle.std.proofs.Common.{List, ◌-◌, drop, length, Result}
use Rattle.std.specs.Prelude.{⊤}
use Rattle.wac_types_base.specs.declared.ids.DefinedTypeId.{DefinedTypeId}
use Rattle.wac_types_base.specs.Collection.{size_of, slots_of}
use Rattle.wac_types_base.specs.Visiting.{VisitsAll, CalledOn, call_with, below}
use Rattle.wac_types_base.proofs.visit.+visit_kind.Given as goal

abbrev pub decreases-visit_kind : goal.decreases-visit_kind
decreases-visit_kind g l = size_of l.types.now l.kind

-- calls on what is in the places that are left are calls on all below the kind
abbrev pub invariant-loop-place : goal.invariant-loop-place
invariant-loop-place g l =
    goal.F-IsAlwaysCallable g l.visitor
    × ((ds : List DefinedTypeId) (r : Result ⊤ _) (h : _) → VisitsAll l.types (drop l.at (slots_of l.types l.kind)) ds → CalledOn (call_with (goal.F-step g) l.types) l.visitor ds r h →
    (es : List DefinedTypeId) × VisitsAll l.types (below l.types l.kind) es × CalledOn (call_with (goal.F-step g) l.types) l.initial.visitor es r h)

abbrev pub decreases-loop-place : goal.decreases-loop-place
decreases-loop-place g l = length (slots_of l.types l.kind) - l.at
