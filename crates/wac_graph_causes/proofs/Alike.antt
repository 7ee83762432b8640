-- The first names that are alike: of imports, and else of exports.
use Rattle.std.specs.Prelude.{map}
use Rattle.std.proofs.Common.{◌≡◌, ℕ, Bool, Option, None, sym, ap, subst, ◌∙◌}
use Rattle.wac_types_base.specs.Entries.{names_of}
use Rattle.wac_types_base.proofs.Loops.{map-map}
use Rattle.wac_graph_core.specs.Graph.{Graph, IsGraph}
use Rattle.std.specs.Option.{option_or}
use Rattle.wac_composition.specs.Conflicts.{Cause, import_names}
use Rattle.wac_graph_asks.specs.declared.asks.Asked.{Asked}
use Rattle.wac_graph_asks.specs.declared.outers.Outers.{Outers}
use Rattle.wac_graph_asks.specs.Graphs.{origin_of, item_at, composition_of}
use Rattle.wac_graph_causes.specs.declared.error.Refusal.{Refusal}
use Rattle.wac_graph_causes.specs.Alike.{AreHeld, names_imported, imports_alike, exports_alike, TellsAlike, alike_cause, IsAlike}
use Rattle.wac_graph_causes.proofs.Dependencies.{imports_named}

tells_first : (o p : Option (Cause ℕ)) (e : Refusal) → TellsAlike o e → TellsAlike (option_or o p) e
tells_first o p (Refusal.ValidationFailure s) t = ap (λ o. option_or o p) t
tells_first o p (Refusal.ImplicitImportConflict i k key n) t = t
tells_first o p (Refusal.ExplicitImportConflict m i j) t = t
tells_first o p (Refusal.ImportTypeMergeConflict m i j s) t = t
tells_first o p (Refusal.TypeCannotBeWritten m) t = t
tells_first o p Refusal.TypeNotWritten t = t
tells_first o p Refusal.TooLarge t = t
tells_first o p Refusal.Memory t = tt

exports_named : (g : Graph) → names_of g.exports ≡ map (λ e. e.0) (composition_of g).exports
exports_named g = sym (map-map (λ e. e.0) (λ e. (e.0, origin_of g e.1, item_at g e.1)) g.exports)

module _ (g : Graph) (sound : IsGraph g) (asked : Asked) (outers : Outers) (define validate : Bool) where
  abbrev Imports : Option (Cause ℕ)
  Imports = imports_alike validate (names_imported define g asked outers)

  abbrev Exports : Option (Cause ℕ)
  Exports = exports_alike validate (names_of g.exports)

  cause_is : AreHeld g asked outers → option_or Imports Exports ≡ alike_cause define validate g
  cause_is h = ap (λ ns. option_or (imports_alike validate ns) Exports) (imports_named g sound asked outers h define) ∙ ap (λ ns. option_or (imports_alike validate (import_names define (composition_of g))) (exports_alike validate ns)) (exports_named g)

  pub none_alike : Imports ≡ None → Exports ≡ None → AreHeld g asked outers → alike_cause define validate g ≡ None
  none_alike i e h = sym (cause_is h) ∙ ap (λ o. option_or o Exports) i ∙ e

  pub imports_told : (e : Refusal) → TellsAlike Imports e → AreHeld g asked outers → IsAlike define validate g e
  imports_told e t h = subst (λ o. TellsAlike o e) (cause_is h) (tells_first Imports Exports e t)

  pub exports_told : (e : Refusal) → Imports ≡ None → TellsAlike Exports e → AreHeld g asked outers → IsAlike define validate g e
  exports_told e none t h = subst (λ o. TellsAlike o e) (cause_is h) (subst (λ o. TellsAlike (option_or o Exports) e) (sym none) t)
