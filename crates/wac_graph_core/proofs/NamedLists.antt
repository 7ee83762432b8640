-- Entries of a map from names, by their bytes.
use Rattle.std.proofs.Common.{◌≡◌, ◌<◌, ℕ, suc, ◌+◌, ◌==◌, Bool, true, false, not, cond, List, [], ◌∷◌, filter, length, Option, Some, None, slice_get, refl, sym, ap, ◌∙◌, arith}
use Rattle.std.specs.Prelude.{String, string_bytes}
use Rattle.std.specs.Option.{option_map, IfSome}
use Rattle.std.specs.List.{position, position_from, swap_remove}
use Rattle.std.specs.Map.{keys_of}
use Rattle.std.specs.Cmp.Lexicographic.{pointwise}
use Rattle.std.proofs.lemmas.Option.{none-some, same_Some, slice_get-map}
use Rattle.std.proofs.lemmas.Iterator.Adapters.{position_from-zero}
use Rattle.indexmap.proofs.SetLemmas.{map-swap_remove}
use Rattle.wac_types_base.specs.Entries.{Name, entries_of}
use Rattle.wac_types_base.proofs.Walking.{some_place}
use Rattle.wac_graph_core.specs.Edges.{has}
use Rattle.wac_graph_core.specs.Exporting.{place_of}

moved : (i : ℕ) (o : Option ℕ) → option_map (λ j. i + 1 + j) o ≡ option_map (λ j. i + j) (option_map suc o)
moved i None = refl
moved i (Some j) = let same : i + 1 + j ≡ i + suc j = omega arith in ap Some same

from_start : (o : Option ℕ) → option_map (λ j. 0 + j) o ≡ o
from_start None = refl
from_start (Some j) = let same : 0 + j ≡ j = omega arith in ap Some same

module _ {Z : Type 0} where
  abbrev shown : String Z × ℕ → Name × ℕ
  shown e = (string_bytes e.0, e.1)

  -- ---- where a name stands

  from_place : (n : Name) (i : ℕ) (es : List (String Z × ℕ)) → position_from (λ k. pointwise ◌==◌ n (string_bytes k)) i (keys_of es) ≡ option_map (λ j. i + j) (place_of (entries_of es) n)
  from_place n i [] = refl
  from_place n i (e ∷ es) = by_test (pointwise ◌==◌ n (string_bytes e.0)) (from_place n (i + 1) es)
    where
      by_test : (b : Bool) → position_from (λ k. pointwise ◌==◌ n (string_bytes k)) (i + 1) (keys_of es) ≡ option_map (λ j. i + 1 + j) (place_of (entries_of es) n)
          → cond b (Some i) (position_from (λ k. pointwise ◌==◌ n (string_bytes k)) (i + 1) (keys_of es)) ≡ option_map (λ j. i + j) (cond b (Some 0) (option_map suc (place_of (entries_of es) n)))
      by_test true h = let same : i ≡ i + 0 = omega arith in ap Some same
      by_test false h = h ∙ moved i (place_of (entries_of es) n)

  pub name_place : (n : Name) (es : List (String Z × ℕ)) → position (λ k. pointwise ◌==◌ n (string_bytes k)) (keys_of es) ≡ place_of (entries_of es) n
  name_place n es = position_from-zero (λ k. pointwise ◌==◌ n (string_bytes k)) (keys_of es) ∙ from_place n 0 es ∙ from_start (place_of (entries_of es) n)

  -- ---- entries that are taken away

  pub swapped : (es fs : List (String Z × ℕ)) (at : ℕ) (o : Option (String Z × ℕ)) → o ≡ slice_get es at → IfSome o (λ p. fs ≡ swap_remove es at p) → (e : Name × ℕ) → slice_get (entries_of es) at ≡ Some e → entries_of fs ≡ swap_remove (entries_of es) at e
  swapped es fs at None is h e there = absurd (none-some _ (ap (option_map shown) is ∙ sym (slice_get-map shown es at) ∙ there))
  swapped es fs at (Some p) is h e there =
      let within = some_place es at p (sym is) in
      let positive : 0 < length es = omega (arith, within) in
      let same : shown p ≡ e = same_Some _ _ (ap (option_map shown) is ∙ sym (slice_get-map shown es at) ∙ there) in
      ap entries_of h ∙ map-swap_remove shown es at p positive ∙ ap (swap_remove (entries_of es) at) same

  pub kept_apart : (gone : List ℕ) (es : List (String Z × ℕ)) → entries_of (filter (λ e. not (has gone e.1)) es) ≡ filter (λ e. not (has gone e.1)) (entries_of es)
  kept_apart gone [] = refl
  kept_apart gone (e ∷ es) = by_test (not (has gone e.1)) (kept_apart gone es)
    where
      by_test : (b : Bool) → entries_of (filter (λ e. not (has gone e.1)) es) ≡ filter (λ e. not (has gone e.1)) (entries_of es)
          → entries_of (cond b (e ∷ filter (λ e. not (has gone e.1)) es) (filter (λ e. not (has gone e.1)) es)) ≡ cond b (shown e ∷ filter (λ e. not (has gone e.1)) (entries_of es)) (filter (λ e. not (has gone e.1)) (entries_of es))
      by_test true h = ap (λ l. shown e ∷ l) h
      by_test false h = h
