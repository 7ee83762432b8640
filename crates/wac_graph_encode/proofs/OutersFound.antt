-- How outer imports are found.
use Rattle.std.proofs.Common.{◌≡◌, ◌+◌, ℕ, Bool, true, false, true≢false, List, [], ◌∷◌, ◌++◌, Option, Some, None, refl, sym, ap, ◌∙◌, unwrap_or, inl, inr, arith}
use Rattle.std.specs.Prelude.{option_map, find, is_some, bytes_eq, if◌then◌else◌}
use Rattle.std.specs.Option.{option_or}
use Rattle.std.proofs.lemmas.Slice.Eq.{bytes_eq-Decides}
use Rattle.wac_types_base.specs.declared.ids.WorldId.{WorldId}
use Rattle.wac_types_base.specs.Record.{Collection}
use Rattle.wac_types_base.specs.Entries.{Name, names_of, value_at}
use Rattle.wac_types_base.specs.Graph.{Among}
use Rattle.wac_types_base.proofs.Lists.{value_both}
use Rattle.wac_types_parts.specs.Parts.{imports_of}
use Rattle.wac_composition.specs.Asks.{Ask}
use Rattle.wac_composition.specs.Classes.{spelling, spelled, class}
use Rattle.wac_graph_asks.specs.Outers.{AreOuters}
use Rattle.wac_graph_scopes.specs.Imports.{own_places, FindsFirst}
use Rattle.wac_graph_encode.specs.PlainOrders.{FindsSpelled, Outer_imports_are_found}
use Rattle.wac_graph_encode.proofs.ImportPlaces.{place_here}

-- where no ask has the name, none is found
none_asks : (asks : List (Ask ℕ)) (n : Name) → ((a : Ask ℕ) → Among a asks → a.name ≡ n → ⊥) → find (λ (a : Ask ℕ). bytes_eq a.name n) asks ≡ None
none_asks [] n f = refl
none_asks (a ∷ as_) n f = by (bytes_eq a.name n) refl (none_asks as_ n (λ b m. f b (inr m)))
  where
    by : (t : Bool) → bytes_eq a.name n ≡ t → find (λ (b : Ask ℕ). bytes_eq b.name n) as_ ≡ None → find (λ (b : Ask ℕ). bytes_eq b.name n) (a ∷ as_) ≡ None
    by true e r = absurd (f a (inl refl) ((bytes_eq-Decides a.name n).0 e))
    by false e r = ap (λ t. if t then Some a else find (λ (b : Ask ℕ). bytes_eq b.name n) as_) e ∙ r

module _ (asks : List (Ask ℕ)) (c : Collection) (world : WorldId) (places : List (Name × ℕ)) (outers : AreOuters asks c world places) where
  abbrev own : Name → Option ℕ
  own n = value_at (own_places 0 (names_of (imports_of c world))) n

  placed_found : (i : Name) (m : ℕ) → value_at places i ≡ Some m → own (spelling asks i) ≡ Some m
  placed_found i m e =
      let there = outers.placed i m e in
      let zero : 0 + m ≡ m = omega arith in
      place_here (imports_of c world) 0 m (spelling asks i) there.0 outers.distinct there.1 ∙ ap Some zero

  own_name : (i : Name) → value_at places i ≡ None → spelling asks i ≡ i
  own_name i e =
      let none = none_asks asks i (λ a m q. true≢false (sym (outers.named a m) ∙ ap is_some (ap (value_at places) q ∙ e))) in
      ap (λ o. unwrap_or (option_map (λ (a : Ask ℕ). spelled (class asks a)) o) i) none

  found_so : (found : List (Name × ℕ)) → FindsFirst found (places ++ own_places 0 (names_of (imports_of c world))) → FindsSpelled (imports_of c world) (spelling asks) found
  found_so found first i = first i ∙ value_both places (own_places 0 (names_of (imports_of c world))) i ∙ by (value_at places i) refl
    where
      by : (o : Option ℕ) → value_at places i ≡ o → option_or (value_at places i) (own i) ≡ own (spelling asks i)
      by (Some m) e = ap (λ o. option_or o (own i)) e ∙ sym (placed_found i m e)
      by None e = ap (λ o. option_or o (own i)) e ∙ ap own (sym (own_name i e))

pub outers_found : Outer_imports_are_found
outers_found = found_so
