-- Names with the value types of their places, one after another.
use Rattle.std.proofs.Common.{◌≡◌, ℕ, suc, ◌+◌, ◌<◌, List, [], ◌∷◌, ◌++◌, length, take, get_or, Option, refl, sym, ap, ◌∙◌, arith, string_bytes, length-take}
use Rattle.std.specs.Prelude.{String}
use Rattle.std.specs.Global.{Global}
use Rattle.std.proofs.lemmas.List.{map_push, take_more, length-map}
use Rattle.wac_types_base.specs.Entries.{Name, texts_of}
use Rattle.wac_graph_bytes.specs.declared.value.ValueType.{ValueType as Written}
use Rattle.wac_graph_bytes.specs.declared.entry.Param.{Param}
use Rattle.wac_graph_bytes.specs.declared.entry.Case.{Case}
use Rattle.wac_graph_bytes.specs.Views.{param_view, params_view, case_view, cases_view}
use Rattle.wac_graph_scopes.specs.Forms.{value_or, place_at, first_place, other_places, params_with, cases_with}

first_at : (bs : List (Option Written)) → first_place bs ≡ place_at bs 0
first_at [] = refl
first_at (b ∷ bs) = refl

other_at : (bs : List (Option Written)) (k : ℕ) → place_at (other_places bs) k ≡ place_at bs (suc k)
other_at [] k = refl
other_at (b ∷ bs) k = refl

with_params : (ns : List Name) (n : Name) (bs : List (Option Written)) → params_with (ns ++ n ∷ []) bs ≡ params_with ns bs ++ (n, value_or (place_at bs (length ns))) ∷ []
with_params [] n bs = ap (λ (b : Option Written). (n, value_or b) ∷ []) (first_at bs)
with_params (m ∷ ns) n bs =
    ap (λ l. (m, value_or (first_place bs)) ∷ l) (with_params ns n (other_places bs) ∙ ap (λ (b : Option Written). params_with ns (other_places bs) ++ (n, value_or b) ∷ []) (other_at bs (length ns)))

with_cases : (ns : List Name) (n : Name) (bs : List (Option Written)) → cases_with (ns ++ n ∷ []) bs ≡ cases_with ns bs ++ (n, place_at bs (length ns)) ∷ []
with_cases [] n bs = ap (λ (b : Option Written). (n, b) ∷ []) (first_at bs)
with_cases (m ∷ ns) n bs =
    ap (λ l. (m, first_place bs) ∷ l) (with_cases ns n (other_places bs) ∙ ap (λ (b : Option Written). cases_with ns (other_places bs) ++ (n, b) ∷ []) (other_at bs (length ns)))

module _ (names : List (String Global)) (i : ℕ) (x : String Global) (lt : i < length names) (is : x ≡ get_or names i x) where
  texts_next : texts_of (take (i + 1) names) ≡ texts_of (take i names) ++ string_bytes x ∷ []
  texts_next = ap texts_of (take_more names i x lt ∙ ap (λ (y : String Global). take i names ++ y ∷ []) (sym is)) ∙ map_push string_bytes (take i names) x

  so_many : length (texts_of (take i names)) ≡ i
  so_many = omega (arith, length-map (take i names) string_bytes, length-take i names)

  pub params_next : (bs : List (Option Written)) (old new : List Param) (p : Param) → string_bytes p.name ≡ string_bytes x → p.ty ≡ value_or (place_at bs i) → new ≡ old ++ p ∷ []
      → params_view old ≡ params_with (texts_of (take i names)) bs → params_view new ≡ params_with (texts_of (take (i + 1) names)) bs
  params_next bs old new p n t e h =
      let one : param_view p ≡ (string_bytes x, value_or (place_at bs i)) = λ o. (n o, t o) in
      ap params_view e ∙ map_push param_view old p ∙ ap (λ l. l ++ param_view p ∷ []) h ∙ ap (λ q. params_with (texts_of (take i names)) bs ++ q ∷ []) one
      ∙ ap (λ (k : ℕ). params_with (texts_of (take i names)) bs ++ (string_bytes x, value_or (place_at bs k)) ∷ []) (sym so_many)
      ∙ sym (with_params (texts_of (take i names)) (string_bytes x) bs) ∙ ap (λ l. params_with l bs) (sym texts_next)

  pub cases_next : (bs : List (Option Written)) (old new : List Case) (p : Case) → string_bytes p.name ≡ string_bytes x → p.ty ≡ place_at bs i → new ≡ old ++ p ∷ []
      → cases_view old ≡ cases_with (texts_of (take i names)) bs → cases_view new ≡ cases_with (texts_of (take (i + 1) names)) bs
  cases_next bs old new p n t e h =
      let one : case_view p ≡ (string_bytes x, place_at bs i) = λ o. (n o, t o) in
      ap cases_view e ∙ map_push case_view old p ∙ ap (λ l. l ++ case_view p ∷ []) h ∙ ap (λ q. cases_with (texts_of (take i names)) bs ++ q ∷ []) one
      ∙ ap (λ (k : ℕ). cases_with (texts_of (take i names)) bs ++ (string_bytes x, place_at bs k) ∷ []) (sym so_many)
      ∙ sym (with_cases (texts_of (take i names)) (string_bytes x) bs) ∙ ap (λ l. cases_with l bs) (sym texts_next)
