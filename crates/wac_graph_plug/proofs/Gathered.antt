-- The matches of a plug, export by export.
use Rattle.std.proofs.Common.{◌≡◌, ℕ, ◌+◌, ◌≤◌, List, [], ◌∷◌, ◌++◌, length, take, Option, Some, None, slice_get, sym, ap, subst, ◌∙◌}
use Rattle.std.proofs.lemmas.Option.{same_Some}
use Rattle.std.proofs.lemmas.List.{take_all, map-append}
use Rattle.std.specs.Option.{option_map}
use Rattle.wac_types_base.specs.declared.item.ItemKind.{ItemKind}
use Rattle.wac_types_base.specs.Record.{Collection}
use Rattle.wac_types_base.specs.Entries.{Name, names_of, value_at, with_values}
use Rattle.wac_types_base.specs.Stated.{Stated, stated_of}
use Rattle.wac_types_base.specs.Tree.{tree}
use Rattle.wac_types_base.specs.Fits.{Fits}
use Rattle.wac_types_base.proofs.Looked.{take-one_more}
use Rattle.wac_types_fit.specs.Trees.{Fit, tree_in}
use Rattle.wac_types_base.proofs.Stating.{value_with}
use Rattle.wac_types_base.proofs.Loops.{names-with_values}
use Rattle.wac_graph_plug.specs.declared.matching.Match.{Match}
use Rattle.wac_graph_plug.specs.Plugging.{Finds, Matches, AreMatchesOf, no_exports, matched, passed}
use Rattle.wac_graph_plug.specs.Lookups.{IsMatchOf, with_match}
use Rattle.wac_graph_plug.proofs.Near.{finds_once}

-- ---- names with other values

-- ---- one export

module _ (c : Collection) (xs : List (Name × ItemKind)) (e : Name) (given : ItemKind) where
  abbrev asked_in : List (Name × Stated)
  asked_in = with_values (stated_of c) xs

  found_in : (i : Name) → Finds (names_of xs) e i → Finds (names_of asked_in) e i
  found_in i f = subst (λ ns. Finds ns e i) (sym (names-with_values (stated_of c) xs)) f

  found_out : (i : Name) → Finds (names_of asked_in) e i → Finds (names_of xs) e i
  found_out i f = subst (λ ns. Finds ns e i) (names-with_values (stated_of c) xs) f

  asked_at : (i : Name) (asked : ItemKind) → value_at xs i ≡ Some asked → value_at asked_in i ≡ Some (stated_of c asked)
  asked_at i asked at = value_with (stated_of c) xs i ∙ ap (option_map (stated_of c)) at

  pub is_match : (i : Name) (asked : ItemKind) → Finds (names_of xs) e i → value_at xs i ≡ Some asked → Fit c given c asked → Matches asked_in e (stated_of c given) i
  unfolding tree_in
  is_match i asked f at fit = record { finds = found_in i f; asked = stated_of c asked; is = asked_at i asked at; fits = fit }

  pub no_fit : (i : Name) (asked : ItemKind) → Finds (names_of xs) e i → value_at xs i ≡ Some asked → (Fit c given c asked → ⊥) → (j : Name) → Matches asked_in e (stated_of c given) j → ⊥
  unfolding tree_in
  no_fit i asked f at not_fit j m =
      let same : j ≡ i = finds_once (names_of xs) e j i (found_out j m.finds) f in
      let types : m.asked ≡ stated_of c asked = same_Some _ _ (sym m.is ∙ ap (value_at asked_in) same ∙ asked_at i asked at) in
      not_fit (subst (λ t. Fits (tree (stated_of c given)) (tree t)) types m.fits)

  pub no_find : ((i : Name) → Finds (names_of xs) e i → ⊥) → (j : Name) → Matches asked_in e (stated_of c given) j → ⊥
  no_find none j m = none j (found_out j m.finds)

  -- as the search answers
  pub match_is : (m : Match) (i : Name) (asked : ItemKind) → m.export ≡ e → m.import ≡ i → Finds (names_of xs) e i → value_at xs i ≡ Some asked → Fit c given c asked → IsMatchOf asked_in e (stated_of c given) (Some m)
  match_is m i asked name import f at fit = (name, subst (Matches asked_in e (stated_of c given)) (sym import) (is_match i asked f at fit))

-- ---- one more

module _ (imports : List (Name × Stated)) where
  pub matched_more : {es : List (Name × Stated)} {ms : List Match} (e i : Name) (given : Stated) → AreMatchesOf imports es ms → Matches imports e given i
      → AreMatchesOf imports (es ++ (e, given) ∷ []) (ms ++ record { export = e; import = i } ∷ [])
  matched_more e i given no_exports m = matched e i given m no_exports
  matched_more e i given (matched f j t n rest) m = matched f j t n (matched_more e i given rest m)
  matched_more e i given (passed f t none rest) m = passed f t none (matched_more e i given rest m)

  pub passed_more : {es : List (Name × Stated)} {ms : List Match} (e : Name) (given : Stated) → AreMatchesOf imports es ms → ((i : Name) → Matches imports e given i → ⊥) → AreMatchesOf imports (es ++ (e, given) ∷ []) ms
  passed_more e given no_exports n = passed e given n no_exports
  passed_more e given (matched f j t m rest) n = matched f j t m (passed_more e given rest n)
  passed_more e given (passed f t none rest) n = passed f t none (passed_more e given rest n)

  -- the exports so far, by their items
  module _ (c : Collection) (xs : List (Name × ItemKind)) (at : ℕ) (e : Name) (k : ItemKind) (there : slice_get xs at ≡ Some (e, k)) where
    abbrev so_far : ℕ → List Match → Type 0
    so_far n ms = AreMatchesOf imports (with_values (stated_of c) (take n xs)) ms

    one_more : with_values (stated_of c) (take (at + 1) xs) ≡ with_values (stated_of c) (take at xs) ++ (e, stated_of c k) ∷ []
    one_more = ap (with_values (stated_of c)) (take-one_more xs at (e, k) there) ∙ map-append (λ (x : Name × ItemKind). (x.0, stated_of c x.1)) (take at xs) ((e, k) ∷ [])

    pub next_matched : (ms after : List Match) (m : Match) → so_far at ms → IsMatchOf imports e (stated_of c k) (Some m) → after ≡ ms ++ m ∷ [] → so_far (at + 1) after
    next_matched ms after m before is pushed =
        let same : record { export = e; import = m.import } ≡ m = λ i. record { export = sym is.0 i; import = m.import } in
        subst (λ l. AreMatchesOf imports l after) (sym one_more)
        (subst (AreMatchesOf imports (with_values (stated_of c) (take at xs) ++ (e, stated_of c k) ∷ [])) (sym (pushed ∙ ap (λ x. ms ++ x ∷ []) (sym same)))
        (matched_more e m.import (stated_of c k) before is.1))

    pub next_passed : (ms after : List Match) → so_far at ms → IsMatchOf imports e (stated_of c k) None → after ≡ ms → so_far (at + 1) after
    next_passed ms after before is same =
        subst (λ l. AreMatchesOf imports l after) (sym one_more)
        (subst (AreMatchesOf imports (with_values (stated_of c) (take at xs) ++ (e, stated_of c k) ∷ [])) (sym same) (passed_more e (stated_of c k) before is))

    pub next_gathered : (ms after : List Match) (o : Option Match) → so_far at ms → IsMatchOf imports e (stated_of c k) o → after ≡ with_match ms o → so_far (at + 1) after
    next_gathered ms after None before is same = next_passed ms after before is same
    next_gathered ms after (Some m) before is same = next_matched ms after m before is same

  pub all_matched : (c : Collection) (xs : List (Name × ItemKind)) (at : ℕ) (ms : List Match) → AreMatchesOf imports (with_values (stated_of c) (take at xs)) ms → length xs ≤ at → AreMatchesOf imports (with_values (stated_of c) xs) ms
  all_matched c xs at ms so past = subst (λ l. AreMatchesOf imports (with_values (stated_of c) l) ms) (take_all at xs past) so
