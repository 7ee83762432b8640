-- The test of version tracks tells them.
use Rattle.std.proofs.Common.{◌≡◌, ℕ, ◌<◌, ◌^◌, List, [], ◌∷◌, ◌++◌, take, drop, Some, None, inl, inr, sym, ap, subst, ◌∙◌, cond}
use Rattle.std.specs.Bool.{Decides}
use Rattle.std.specs.Str.Parse.{digits_value}
use Rattle.std.specs.Fmt.{decimal}
use Rattle.std.proofs.lemmas.Bool.{false_from_ne_true}
use Rattle.std.proofs.lemmas.Bool.Decides.{Decides-and, Decides-or, Decides-ltb}
use Rattle.std.proofs.lemmas.Slice.Eq.{bytes_eq-Decides}
use Rattle.std.proofs.lemmas.Fmt.{decimal_is_IsNumeral}
use Rattle.std.proofs.lemmas.List.{take-append-drop}
use Rattle.wac_types_names.specs.Tracks.{IsTrack, IsTrackNumber}
use Rattle.wac_parser_grammar.specs.Tracks.{number_test, track_test, track_in}

number_tells : (t : List ℕ) → Decides (number_test t) (IsTrackNumber t)
number_tells t =
    let v = digits_value 10 t in
    let tells = Decides-and _ _ (bytes_eq-Decides t (decimal v)) (Decides-and _ _ (Decides-ltb 0 v) (Decides-ltb v (2 ^ 64))) in (
      (λ e. let is = tells.0 e in (v, is.1.0, is.1.1, is.0)),
      (λ m.
          let same : v ≡ m.0 = ap (digits_value 10) m.3 ∙ (decimal_is_IsNumeral m.0 m.2).1 in
          tells.1 (m.3 ∙ ap decimal (sym same), (subst (λ (n : ℕ). 0 < n) (sym same) m.1, subst (λ (n : ℕ). n < 2 ^ 64) (sym same) m.2))),
    )

pub track_tells : (t : List ℕ) → Decides (track_test t) (IsTrack t)
track_tells t =
    let tells = Decides-or _ _ (number_tells t) (Decides-and _ _ (bytes_eq-Decides (take 2 t) (48 ∷ 46 ∷ [])) (number_tells (drop 2 t))) in (
      (λ e. elim (tells.0 e) [
        | inl m ↦ inl m
        | inr m ↦ inr (drop 2 t, m.1, sym (take-append-drop 2 t) ∙ ap (λ (z : List ℕ). z ++ drop 2 t) m.0)
      ]),
      (λ is. elim is [
        | inl m ↦ tells.1 (inl m)
        | inr m ↦ tells.1 (inr (ap (take 2) m.2, subst IsTrackNumber (ap (drop 2) (sym m.2)) m.1))
      ]),
    )

pub track_taken : (text : List ℕ) → IsTrack text → track_in (Some text) ≡ Some text
track_taken text is = ap (λ b. cond b (Some text) None) ((track_tells text).1 is)

pub other_left : (text : List ℕ) → (IsTrack text → ⊥) → track_in (Some text) ≡ None
other_left text isnt = ap (λ b. cond b (Some text) None) (false_from_ne_true (track_test text) (λ q. isnt ((track_tells text).0 q)))
