-- Asks of instances under the names of imports, one after another.
use Rattle.std.specs.Prelude.{string_bytes}
use Rattle.std.proofs.Common.{◌≡◌, ℕ, ◌+◌, ◌≤◌, List, [], ◌∷◌, ◌++◌, take, drop, length, slice_get, Option, Some, None, refl, sym, ap, subst, ◌∙◌}
use Rattle.std.proofs.lemmas.Grind.{flat_map-append}
use Rattle.std.proofs.lemmas.List.{append-nil}
use Rattle.wac_types_base.specs.Entries.{Name}
use Rattle.wac_types_base.proofs.Looked.{take-one_more}
use Rattle.wac_types_base.proofs.Used.{drop_next}
use Rattle.wac_types_base.proofs.Lists.{drop_all}
use Rattle.wac_types_names.specs.Packaged.{Packaged}
use Rattle.wac_graph_core.specs.declared.ids.PackageId.{PackageId}
use Rattle.wac_graph_core.specs.Nodes.{NodeData}
use Rattle.wac_graph_core.specs.Graph.{Graph, node_at, package_if, package_made, instantiated}
use Rattle.std.specs.Option.{option_or}
use Rattle.wac_composition.specs.Conflicts.{Cause, ImplicitImport}
use Rattle.wac_graph_asks.specs.declared.asks.Ask.{Ask}
use Rattle.wac_graph_asks.specs.Reads.{package_id_of}
use Rattle.wac_graph_causes.specs.declared.error.Refusal.{Refusal}
use Rattle.wac_graph_causes.specs.Firsts.{AddsFirst}
use Rattle.wac_graph_causes.specs.Implicit.{named, all_named, clash, first_clash, TellsAsk, TellsClash}
use Rattle.wac_graph_causes.proofs.Firsts.{adds_then}

-- ---- imports are added

pub named_next : (old mid new : List (Name × ℕ)) (asks : List Ask) (i : ℕ) (a : Ask) → slice_get asks i ≡ Some a → AddsFirst old mid (all_named (take i asks)) → AddsFirst mid new (named a) → AddsFirst old new (all_named (take (i + 1) asks))
named_next old mid new asks i a at f g =
    subst (AddsFirst old new)
    (ap (λ l. all_named (take i asks) ++ l) (sym (append-nil (named a))) ∙ sym (flat_map-append named (take i asks) (a ∷ [])) ∙ ap all_named (sym (take-one_more asks i a at)))
    (adds_then old mid new (all_named (take i asks)) (named a) f g)

-- ---- the package of an instance

pub made_by : (g : Graph) (k : ℕ) (o : Option PackageId) → o ≡ package_id_of (node_at g k) → package_if g o ≡ instantiated g k
made_by g k o is = ap (package_if g) is ∙ go (node_at g k)
  where
    go : (n : Option NodeData) → package_if g (package_id_of n) ≡ package_made g n
    go None = refl
    go (Some n) = refl

-- ---- refusals

pub tells_asked : (g : Graph) (p : Packaged) (import : ℕ) (a : Ask) (e : Refusal) → instantiated g a.by ≡ Some p → TellsAsk p import a e → TellsClash g (Some (ImplicitImport a.name import a.by)) e
tells_asked g p import a (Refusal.ImplicitImportConflict i k key n) is t =
    let same : Some (ImplicitImport a.name import a.by) ≡ Some (ImplicitImport (string_bytes n) i k) = cc (t.0, t.1, t.3) in
    (same, record { of = p; is = ap (instantiated g) t.1 ∙ is; key_is = t.2 })
tells_asked g p import a (Refusal.ExplicitImportConflict m i j) is t = t
tells_asked g p import a (Refusal.ImportTypeMergeConflict m i j s) is t = t
tells_asked g p import a (Refusal.TypeCannotBeWritten m) is t = t
tells_asked g p import a Refusal.TypeNotWritten is t = t
tells_asked g p import a Refusal.TooLarge is t = t
tells_asked g p import a (Refusal.ValidationFailure s) is t = t
tells_asked g p import a Refusal.Memory is t = tt

-- another cause that is the same where there is one
pub tells_as : (g : Graph) (o p : Option (Cause ℕ)) (e : Refusal) → ((c : Cause ℕ) → o ≡ Some c → p ≡ Some c) → TellsClash g o e → TellsClash g p e
tells_as g o p (Refusal.ImplicitImportConflict i k key n) h t = (h _ t.0, t.1)
tells_as g o p (Refusal.ExplicitImportConflict m i j) h t = t
tells_as g o p (Refusal.ImportTypeMergeConflict m i j s) h t = t
tells_as g o p (Refusal.TypeCannotBeWritten m) h t = t
tells_as g o p Refusal.TypeNotWritten h t = t
tells_as g o p Refusal.TooLarge h t = t
tells_as g o p (Refusal.ValidationFailure s) h t = t
tells_as g o p Refusal.Memory h t = tt

-- ---- asks are checked

module _ (imports : List (Name × ℕ)) (asks : List Ask) (i : ℕ) where
  abbrev pub ClashesLeft : Type 0
  ClashesLeft = first_clash imports (drop i asks) ≡ first_clash imports asks

  pub clash_next : (a : Ask) → slice_get asks i ≡ Some a → clash imports a ≡ None → ClashesLeft → first_clash imports (drop (i + 1) asks) ≡ first_clash imports asks
  clash_next a at none h = sym (ap (first_clash imports) (drop_next asks i a at) ∙ ap (λ o. option_or o (first_clash imports (drop (i + 1) asks))) none) ∙ h

  pub clash_there : (g : Graph) (a : Ask) (e : Refusal) → slice_get asks i ≡ Some a → ClashesLeft → TellsClash g (clash imports a) e → TellsClash g (first_clash imports asks) e
  clash_there g a e at h t =
      tells_as g (clash imports a) (first_clash imports asks) e (λ c is. sym h ∙ ap (first_clash imports) (drop_next asks i a at) ∙ ap (λ o. option_or o (first_clash imports (drop (i + 1) asks))) is) t

  pub clash_nowhere : length asks ≤ i → ClashesLeft → first_clash imports asks ≡ None
  clash_nowhere all h = sym h ∙ ap (first_clash imports) (drop_all asks i all)
