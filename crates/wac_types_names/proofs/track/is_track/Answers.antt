use Rattle.std.proofs.Common.{◌≡◌, ℕ, List, ◌∷◌, get_or, drop, sym, ap, ◌∙◌, subst, arith, inl, inr}
use Rattle.wac_types_names.specs.Tracks.{IsTrackNumber}
use Rattle.wac_types_names.proofs.TrackNames.{begins_above_zero}
use Rattle.wac_types_names.proofs.track.is_track.Goals as goal

pub returns-in-Some : goal.returns-in-Some
returns-in-Some c =
    let s = c.in-Some.ensures.cases in
    let text : c.args.text.now ≡ 48 ∷ 46 ∷ c.in-Some.minor.now = s.1.1 ∙ ap (λ (d : List ℕ). 48 ∷ 46 ∷ d) (sym s.2) in (
      λ e. inr (c.in-Some.minor.now, c.is_track_number.ensures.0 e, text),
      λ t. elim t [
        | inl m ↦ absurd (omega (arith, begins_above_zero c.args.text.now m, ap (λ (l : List ℕ). get_or l 0 0) text))
        | inr m ↦ c.is_track_number.ensures.1 (subst IsTrackNumber (ap (drop 2) (sym m.2 ∙ text)) m.1)
      ],
    )
