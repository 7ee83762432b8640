use Rattle.std.proofs.Common.{◌≡◌, ◌<◌, ℕ, Some, slice_get}
use Rattle.wac_types_names.specs.Keys.{borrowed_key}
use Rattle.wac_graph_core.specs.declared.package.Place.{Place}
use Rattle.wac_graph_core.specs.Packages.{HoldsKey}
use Rattle.wac_graph_core.proofs.registry.place_of.Given as goal

-- no place so far holds it
abbrev pub invariant-loop-at : goal.invariant-loop-at
invariant-loop-at l = (i : ℕ) (p : Place) → i < l.at → slice_get l.places i ≡ Some p → HoldsKey p (borrowed_key l.key) → ⊥
