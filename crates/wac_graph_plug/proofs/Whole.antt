-- What plugging does as a whole.
use Rattle.std.specs.Prelude.{Result, Ok, Err, ⊤, IfErr}
use Rattle.std.proofs.Common.{◌≡◌, ℕ, Bool, true, false, List, sym, subst, inl, inr}
use Rattle.wac_types_base.specs.Collection.{IsAcyclic}
use Rattle.wac_graph_core.specs.declared.ids.PackageId.{PackageId}
use Rattle.wac_graph_core.specs.Graph.{Graph, IsGraph}
use Rattle.wac_graph_core.specs.Steps.{Instantiates}
use Rattle.wac_graph_plug.specs.declared.error.PlugError.{PlugError}
use Rattle.wac_graph_plug.specs.declared.error.PlugFault.{PlugFault}
use Rattle.wac_graph_plug.specs.Steps.{ExportsAll}
use Rattle.wac_graph_plug.specs.Stops.{PlugsAll, StopsEach, StopsExporting, socket_exports, Plugs, PlugsNone, nothing_made, between_plugs, within_plug, within_exports, PlugRefused, PlugCause}
use Rattle.wac_graph_plug.proofs.Causes.{argument_cause}
use Rattle.wac_types_base.proofs.Looked.{among-get}

no_memory : {f : PlugFault} → PlugError.GraphError f ≡ PlugError.Memory → ⊥
no_memory e = absurd (cc)

nothing_memory : PlugError.NoPlugHappened ≡ PlugError.Memory → ⊥
nothing_memory e = absurd (cc)

-- nothing is made yet
pub refused_first : (r : Result ⊤ PlugError) (old new : Graph) (socket : PackageId) (ids : List PackageId) → new ≡ old → IfErr r (λ e. e ≡ PlugError.Memory) → IfErr r (λ e. PlugRefused old new socket ids e)
refused_first (Ok x) old new socket ids same is = tt
refused_first (Err e) old new socket ids same is = subst (PlugRefused old new socket ids) (sym is) (nothing_made same)

module _ (old first new : Graph) (socket : PackageId) (ids : List PackageId) (s : ℕ) (made : Instantiates old first socket s) where
  -- a match is not passed
  pub refused_stop : (e : PlugError) → StopsEach first new socket ids s e → PlugRefused old new socket ids e
  refused_stop PlugError.NoPlugHappened (inl m) = absurd (nothing_memory m.0)
  refused_stop PlugError.NoPlugHappened (inr r) = absurd r.stops.stops.stops.stops
  refused_stop (PlugError.GraphError (PlugFault.Argument f)) (inl m) = absurd (no_memory m.0)
  refused_stop (PlugError.GraphError (PlugFault.Argument f)) (inr r) = record { instance = s; first = first; made = made; stops = r }
  refused_stop (PlugError.GraphError (PlugFault.Export f)) (inl m) = absurd (no_memory m.0)
  refused_stop (PlugError.GraphError (PlugFault.Export f)) (inr r) = absurd r.stops.stops.stops.stops
  refused_stop PlugError.Memory (inl m) = between_plugs (record { instance = s; first = first; made = made; plugged = m.1 })
  refused_stop PlugError.Memory (inr r) = within_plug (record { instance = s; first = first; made = made; stops = r })

  pub cause_stop : IsGraph old → IsAcyclic old.types → (e : PlugError) → StopsEach first new socket ids s e → PlugCause old new socket ids e
  cause_stop sound acyclic PlugError.NoPlugHappened (inl m) = absurd (nothing_memory m.0)
  cause_stop sound acyclic PlugError.NoPlugHappened (inr r) = absurd r.stops.stops.stops.stops
  cause_stop sound acyclic (PlugError.GraphError (PlugFault.Argument f)) (inl m) = absurd (no_memory m.0)
  cause_stop sound acyclic (PlugError.GraphError (PlugFault.Argument f)) (inr r) =
      argument_cause old new socket ids f sound acyclic (record { instance = s; first = first; made = made; stops = r })
  cause_stop sound acyclic (PlugError.GraphError (PlugFault.Export f)) (inl m) = absurd (no_memory m.0)
  cause_stop sound acyclic (PlugError.GraphError (PlugFault.Export f)) (inr r) = absurd r.stops.stops.stops.stops
  cause_stop sound acyclic PlugError.Memory r = tt

  -- no plug has a match
  pub refused_none : (b : Bool) → PlugsAll first new socket ids s b → b ≡ false → PlugsNone old new socket ids
  refused_none b r none = record { instance = s; first = first; made = made; plugged = subst (PlugsAll first new socket ids s) none r }

module _ (old first second new : Graph) (socket : PackageId) (ids : List PackageId) (s : ℕ) (b : Bool) (made : Instantiates old first socket s) (plugged : PlugsAll first second socket ids s b) (some : b ≡ true) where
  -- an export is not exported
  pub refused_export : (e : PlugError) → StopsExporting s (socket_exports old socket) e second new → PlugRefused old new socket ids e
  refused_export PlugError.NoPlugHappened r = absurd r.stops
  refused_export (PlugError.GraphError (PlugFault.Argument f)) r = absurd r.stops
  refused_export (PlugError.GraphError (PlugFault.Export f)) r =
      record { instance = s; first = first; second = second; made = made; plugged = subst (PlugsAll first second socket ids s) some plugged; stops = r }
  refused_export PlugError.Memory r =
      within_exports (record { instance = s; first = first; second = second; made = made; plugged = subst (PlugsAll first second socket ids s) some plugged; stops = r })

  pub cause_export : (e : PlugError) → StopsExporting s (socket_exports old socket) e second new → PlugCause old new socket ids e
  cause_export PlugError.NoPlugHappened r = absurd r.stops
  cause_export (PlugError.GraphError (PlugFault.Argument f)) r = absurd r.stops
  cause_export (PlugError.GraphError (PlugFault.Export f)) r = record { name = r.at; among = among-get (socket_exports old socket) r.place r.at r.there; refused = r.stops.3 }
  cause_export PlugError.Memory r = tt

  pub plugs_whole : ExportsAll s (socket_exports old socket) second new → Plugs old new socket ids
  plugs_whole exported = record { instance = s; first = first; second = second; made = made; plugged = subst (PlugsAll first second socket ids s) some plugged; exported = exported }
