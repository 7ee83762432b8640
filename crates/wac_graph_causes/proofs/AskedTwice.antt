-- The first ask of an instance under the name of an import, in a graph's composition.
use Rattle.std.specs.Prelude.{◌⊎◌, bytes_eq, find, is_some, map, not, filter}
use Rattle.std.specs.List.{flat_map}
use Rattle.std.proofs.Common.{◌≡◌, ℕ, Bool, true, false, cond, List, [], ◌∷◌, ◌++◌, Option, Some, None, option_map, IsSome, refl, sym, ap, subst, ◌∙◌, inl, inr}
use Rattle.std.proofs.lemmas.Grind.{flat_map-append}
use Rattle.std.proofs.lemmas.List.{append-nil}
use Rattle.std.proofs.lemmas.Option.{none-some, same_Some}
use Rattle.wac_types_base.specs.Entries.{Name, value_at}
use Rattle.wac_types_base.specs.Graph.{Among}
use Rattle.wac_types_base.specs.Record.{Collection}
use Rattle.wac_types_base.specs.Stated.{Stated, imports_of}
use Rattle.wac_types_base.proofs.Lists.{among_mapped, among_split, from_filtered, bytes_turned}
use Rattle.wac_types_names.specs.Packaged.{Packaged}
use Rattle.wac_graph_core.specs.Nodes.{NodeData}
use Rattle.wac_graph_core.specs.Graph.{Graph, package_if, package_made, instantiated}
use Rattle.wac_composition.specs.Composition.{Placed, Made}
use Rattle.wac_composition.specs.Asks.{Asking, ByName, ToFill, ToUse, Ask, explicit_ask, filled_asks, named_asks, asks_to_use}
use Rattle.std.specs.Option.{option_or}
use Rattle.wac_composition.specs.Conflicts.{first_found, implicit_with, implicit_by, implicit_conflict}
use Rattle.wac_composition.proofs.Lists.{among_flat, mapped_among}
use Rattle.wac_graph_asks.specs.declared.asks.Asking.{Asking as HeldAsking}
use Rattle.wac_graph_asks.specs.declared.asks.Ask.{Ask as HeldAsk}
use Rattle.wac_graph_asks.specs.declared.asks.Asked.{Asked}
use Rattle.wac_graph_asks.specs.Graphs.{nodes_of, made_with, composition_of}
use Rattle.wac_graph_asks.specs.AsksIn.{asking_of, ask_in, asks_in}
use Rattle.wac_graph_asks.specs.Asked.{IsAsked}
use Rattle.wac_graph_asks.proofs.ByNode.{entry_there}
use Rattle.wac_graph_asks.proofs.ToUse.{all_to_use, listed_to_use}
use Rattle.wac_graph_causes.specs.declared.error.Refusal.{Refusal}
use Rattle.wac_graph_causes.specs.Firsts.{AreFirst}
use Rattle.wac_graph_causes.specs.Implicit.{named_by, all_named, clash_with, clash_by, first_clash, AreMade, TellsClash, implicit_cause, IsImplicit}
use Rattle.wac_graph_causes.proofs.Firsts.{or_nothing}

-- ---- who asks by name

abbrev by_name : Asking → Ask ℕ → List (Name × ℕ)
by_name ByName a = (a.name, a.by) ∷ []
by_name k a = []

abbrev those_named : List (Ask ℕ) → List (Name × ℕ)
those_named asks = flat_map (λ a. by_name a.asking a) asks

held_named : (c : Collection) (asks : List HeldAsk) → all_named asks ≡ those_named (asks_in c asks)
held_named c [] = refl
held_named c (a ∷ asks) = ap (λ l. l ++ all_named asks) (one a.asking) ∙ ap (λ l. by_name (asking_of a.asking) (ask_in c a) ++ l) (held_named c asks)
  where
    one : (k : HeldAsking) → named_by k a ≡ by_name (asking_of k) (ask_in c a)
    one HeldAsking.ByName = refl
    one HeldAsking.ToFill = refl
    one HeldAsking.ToUse = refl

abbrev under_names : List (Placed ℕ) → List (Name × ℕ)
under_names is = map (λ i. (i.name, i.by)) is

explicit_named : (is : List (Placed ℕ)) → those_named (map explicit_ask is) ≡ under_names is
explicit_named [] = refl
explicit_named (i ∷ is) = ap (λ l. (i.name, i.by) ∷ l) (explicit_named is)

none_named : (xs : List (Ask ℕ)) → ((a : Ask ℕ) → Among a xs → (a.asking ≡ ToFill) ⊎ (a.asking ≡ ToUse)) → those_named xs ≡ []
none_named [] h = refl
none_named (a ∷ xs) h = ap (λ l. l ++ those_named xs) (one (h a (inl refl))) ∙ none_named xs (λ b m. h b (inr m))
  where
    one : (a.asking ≡ ToFill) ⊎ (a.asking ≡ ToUse) → by_name a.asking a ≡ []
    one (inl e) = ap (λ k. by_name k a) e
    one (inr e) = ap (λ k. by_name k a) e

none_behind : (xs ys : List (Ask ℕ)) → those_named ys ≡ [] → those_named (xs ++ ys) ≡ those_named xs
none_behind xs ys none = flat_map-append (λ a. by_name a.asking a) xs ys ∙ ap (λ l. those_named xs ++ l) none ∙ append-nil (those_named xs)

filled_fill : (ms : List (Made ℕ ℕ)) (a : Ask ℕ) → Among a (flat_map filled_asks ms) → a.asking ≡ ToFill
filled_fill ms a m =
    let f = among_flat filled_asks ms a m in
    let e = mapped_among (λ (e : Name × Stated). record { asking = ToFill; by = f.0.by; name = e.0; item = e.1 }) (filter (λ e. not (is_some (value_at f.0.arguments e.0))) (imports_of f.0.world)) a f.2 in
    ap (λ (b : Ask ℕ). b.asking) e.2

module _ (g : Graph) (a : Asked) (h : IsAsked g a) where
  abbrev imports : List (Placed ℕ)
  imports = (composition_of g).imports

  abbrev made : List (Made ℕ ℕ)
  made = (composition_of g).made

  names_held : all_named a.asks.items ≡ under_names imports
  names_held =
      held_named a.types a.asks.items ∙ ap those_named h.asks
      ∙ none_behind (named_asks (composition_of g)) h.uses (none_named h.uses (λ x m. inr (listed_to_use g a h x m)))
      ∙ none_behind (map explicit_ask imports) (flat_map filled_asks made) (none_named (flat_map filled_asks made) (λ x m. inl (filled_fill made x m)))
      ∙ explicit_named imports

-- ---- what is found under a name

import_found : (is : List (Placed ℕ)) (n : Name) → value_at (under_names is) n ≡ option_map (λ i. i.by) (find (λ i. bytes_eq i.name n) is)
import_found [] n = refl
import_found (i ∷ is) n = ap (λ b. cond b (Some i.by) (value_at (under_names is) n)) (bytes_turned n i.name) ∙ go (bytes_eq i.name n) (import_found is n)
  where
    go : (b : Bool) → value_at (under_names is) n ≡ option_map (λ i. i.by) (find (λ i. bytes_eq i.name n) is)
        → cond b (Some i.by) (value_at (under_names is) n) ≡ option_map (λ i. i.by) (cond b (Some i) (find (λ i. bytes_eq i.name n) is))
    go true ih = refl
    go false ih = ih

-- ---- the first that is found

found_behind : {X Y : Type 0} (f : X → Option Y) (xs ys : List X) → first_found f (xs ++ ys) ≡ option_or (first_found f xs) (first_found f ys)
found_behind f [] ys = refl
found_behind f (x ∷ xs) ys = go (f x) (found_behind f xs ys)
  where
    go : (o : Option _) → first_found f (xs ++ ys) ≡ option_or (first_found f xs) (first_found f ys) → option_or o (first_found f (xs ++ ys)) ≡ option_or (option_or o (first_found f xs)) (first_found f ys)
    go None ih = ih
    go (Some y) ih = refl

uses_free : (is : List (Placed ℕ)) (xs : List (Ask ℕ)) → ((a : Ask ℕ) → Among a xs → a.asking ≡ ToUse) → implicit_conflict is xs ≡ None
uses_free is [] h = refl
uses_free is (a ∷ xs) h = ap (λ k. option_or (implicit_by k is a) (implicit_conflict is xs)) (h a (inl refl)) ∙ uses_free is xs (λ b m. h b (inr m))

conflict_without : (is : List (Placed ℕ)) (xs ys : List (Ask ℕ)) → ((a : Ask ℕ) → Among a ys → a.asking ≡ ToUse) → implicit_conflict is (xs ++ ys) ≡ implicit_conflict is xs
conflict_without is xs ys h =
    found_behind (λ a. implicit_by a.asking is a) xs ys ∙ ap (option_or (implicit_conflict is xs)) (uses_free is ys h) ∙ or_nothing (implicit_conflict is xs)

module _ (named : List (Name × ℕ)) (is : List (Placed ℕ)) (same : AreFirst named (under_names is)) (c : Collection) where
  held_clash : (asks : List HeldAsk) → first_clash named asks ≡ implicit_conflict is (asks_in c asks)
  held_clash [] = refl
  held_clash (a ∷ asks) = ap (λ o. option_or o (first_clash named asks)) (one a.asking) ∙ ap (option_or (implicit_by (asking_of a.asking) is (ask_in c a))) (held_clash asks)
    where
      with_import : (o : Option (Placed ℕ)) → clash_with a (option_map (λ i. i.by) o) ≡ implicit_with (ask_in c a) o
      with_import None = refl
      with_import (Some i) = refl

      one : (k : HeldAsking) → clash_by k named a ≡ implicit_by (asking_of k) is (ask_in c a)
      one HeldAsking.ByName = refl
      one HeldAsking.ToFill = ap (clash_with a) (same a.name ∙ import_found is a.name) ∙ with_import (find (λ i. bytes_eq i.name a.name) is)
      one HeldAsking.ToUse = refl

clash_is_cause : (g : Graph) (a : Asked) (named : List (Name × ℕ)) → IsAsked g a → AreFirst named (all_named a.asks.items) → first_clash named a.asks.items ≡ implicit_cause g
clash_is_cause g a named h first =
    let c = composition_of g in
    held_clash named c.imports (λ n. first n ∙ ap (λ l. value_at l n) (names_held g a h)) a.types a.asks.items
    ∙ ap (implicit_conflict c.imports) h.asks ∙ conflict_without c.imports (named_asks c) h.uses (listed_to_use g a h)
    ∙ sym (conflict_without c.imports (named_asks c) (asks_to_use c) (all_to_use c))

-- ---- what asks for an instance is one

made_some : (g : Graph) (k : ℕ) (o : Option Packaged) (m : Made ℕ ℕ) → made_with g k o ≡ Some m → (m.by ≡ k) × IsSome o
made_some g k None m e = absurd (none-some _ e)
made_some g k (Some p) m e = (sym (ap (λ (m : Made ℕ ℕ). m.by) (same_Some _ _ e)), refl)

module _ (g : Graph) (a : Asked) (h : IsAsked g a) where
  maker_stands : (m : Made ℕ ℕ) → Among m (composition_of g).made → IsSome (instantiated g m.by)
  maker_stands m among =
      let f = from_filtered (λ (e : ℕ × NodeData). made_with g e.0 (package_if g e.1.of)) (nodes_of g) m among in
      let s = made_some g f.0.0 (package_if g f.0.1.of) m f.2 in
      subst IsSome (sym (ap (instantiated g) s.0 ∙ ap (package_made g) (entry_there g.nodes f.0 f.1))) s.1

  filler_stands : (x : Ask ℕ) → Among x (flat_map filled_asks (composition_of g).made) → IsSome (instantiated g x.by)
  filler_stands x m =
      let f = among_flat filled_asks (composition_of g).made x m in
      let e = mapped_among (λ (e : Name × Stated). record { asking = ToFill; by = f.0.by; name = e.0; item = e.1 }) (filter (λ e. not (is_some (value_at f.0.arguments e.0))) (imports_of f.0.world)) x f.2 in
      subst (λ k. IsSome (instantiated g k)) (sym (ap (λ (b : Ask ℕ). b.by) e.2)) (maker_stands f.0 f.1)

  asker_stands : (x : Ask ℕ) → Among x (named_asks (composition_of g) ++ h.uses) → x.asking ≡ ToFill → IsSome (instantiated g x.by)
  asker_stands x m fill = elim (among_split x (named_asks (composition_of g)) h.uses m) [
    | inl k ↦ by_name_or (among_split x (map explicit_ask (composition_of g).imports) (flat_map filled_asks (composition_of g).made) k)
    | inr k ↦ let d : ⊥ = cc (fill, listed_to_use g a h x k) in absurd d
  ]
    where
      by_name_or : Among x (map explicit_ask (composition_of g).imports) ⊎ Among x (flat_map filled_asks (composition_of g).made) → IsSome (instantiated g x.by)
      by_name_or (inl k) = let e = mapped_among explicit_ask (composition_of g).imports x k in let d : ⊥ = cc (fill, ap (λ (b : Ask ℕ). b.asking) e.2) in absurd d
      by_name_or (inr k) = filler_stands x k

  askers_made : AreMade g a.asks.items
  askers_made x m fill = asker_stands (ask_in a.types x) (subst (Among (ask_in a.types x)) h.asks (among_mapped (ask_in a.types) a.asks.items x m)) (ap asking_of fill)

-- ---- what is checked

module _ (g : Graph) (a : Asked) (imports : List (Name × ℕ)) (adding checked : List HeldAsk) (adds : adding ≡ a.asks.items) (checks : checked ≡ a.asks.items) (first : AreFirst imports (all_named adding)) (h : IsAsked g a) where
  is_cause : first_clash imports checked ≡ implicit_cause g
  is_cause = ap (first_clash imports) checks ∙ clash_is_cause g a imports h (subst (λ l. AreFirst imports (all_named l)) adds first)

  all_made : AreMade g checked
  all_made = subst (AreMade g) (sym checks) (askers_made g a h)

  pub none_asked_twice : (AreMade g checked → first_clash imports checked ≡ None) → implicit_cause g ≡ None
  none_asked_twice none = sym is_cause ∙ none all_made

  pub told_asked_twice : (e : Refusal) → (AreMade g checked → TellsClash g (first_clash imports checked) e) → IsImplicit g e
  told_asked_twice e told = subst (λ o. TellsClash g o e) is_cause (told all_made)
