-- A text is a track exactly where it ends the lookup key of a name's version.
use Rattle.std.proofs.Common.{◌≡◌, ◌↔◌, ◌+◌, ℕ, Bool, true, false, List, [], ◌∷◌, ◌++◌, length, length-append, take, drop, refl, sym, ap, ◌∙◌, arith, inl, inr, lit<}
use Rattle.std.specs.Prelude.{Option, Some, None, nat_lt, ◌||◌, if◌then◌else◌}
use Rattle.std.specs.List.{list_any}
use Rattle.std.specs.Result.{result_ok}
use Rattle.std.specs.Fmt.{decimal}
use Rattle.std.proofs.lemmas.Bool.{lt-ltb, ltb-true}
use Rattle.std.proofs.lemmas.List.{append_cancel_left}
use Rattle.std.proofs.lemmas.Option.{same_Some}
use Rattle.std.proofs.Math.Seq.{take-append_seam, drop-append-add}
use Rattle.semver.specs.Parse.{Parts}
use Rattle.semver.specs.Grammar.{IsValid}
use Rattle.semver.specs.Identifiers.{parts_text}
use Rattle.semver.proofs.Grammar.{version_parts-complete}
use Rattle.wac_names.proofs.NameForms.{first_place}
use Rattle.wac_types_base.specs.Entries.{Name}
use Rattle.wac_types_names.specs.Tracks.{read_version, is_at, track_text, key_with, key_from, lookup_key, IsTrack}
use Rattle.wac_types_names.proofs.Places.{NoByte}
use Rattle.wac_types_names.proofs.TrackTexts.{read-text, ParsedAt, key_at}

no_at_in : (n : Name) → list_any is_at n ≡ false → NoByte 64 n
no_at_in [] e = tt
no_at_in (b ∷ n) e = by (is_at b) refl e (no_at_in n)
  where
    by : (t : Bool) → is_at b ≡ t → (t || list_any is_at n) ≡ false → (list_any is_at n ≡ false → NoByte 64 n) → NoByte 64 (b ∷ n)
    by true q h more = absurd (cc h)
    by false q h more = (q, more h)

-- a name and what stands behind its `@`
parsed : (n text : List ℕ) → list_any is_at n ≡ false → ParsedAt (n ++ 64 ∷ text) n text
parsed n text e =
    let place = first_place 64 n text (no_at_in n e) in (
      omega (arith, place, length-append n (64 ∷ text)),
      sym (ap (λ (k : ℕ). take k (n ++ 64 ∷ text)) place ∙ take-append_seam n (64 ∷ text)),
      sym (ap (λ (k : ℕ). drop (k + 1) (n ++ 64 ∷ text)) place ∙ drop-append-add n (64 ∷ text) 1),
    )

reads : (p : Parts) → IsValid p → read_version (parts_text p) ≡ Some p
unfolding read_version
reads p v = ap (λ r. result_ok r) (version_parts-complete p v)

ends : (n t : List ℕ) (p : Parts) → list_any is_at n ≡ false → IsValid p → track_text p ≡ Some t
    → lookup_key (n ++ 64 ∷ parts_text p) ≡ Some (n ++ 64 ∷ t, p)
ends n t p none v is = key_at (n ++ 64 ∷ parts_text p) n (parts_text p) (parsed n (parts_text p) none) ∙ ap (key_from n) (reads p v) ∙ ap (key_with n p) is

major_parts : ℕ → Parts
major_parts m = (m, 0, 0, [], [])

minor_parts : ℕ → Parts
minor_parts m = (0, m, 0, [], [])

tracks_end : (n t : List ℕ) → list_any is_at n ≡ false → IsTrack t → (text : List ℕ) × (p : Parts) × (lookup_key (n ++ 64 ∷ text) ≡ Some (n ++ 64 ∷ t, p))
tracks_end n t none (inl m) =
    let p : Parts = (m.0, 0, 0, [], []) in
    (parts_text p, p, ends n t p none (m.2, lit< tt, lit< tt, refl, refl) (rw (lt-ltb 0 m.0 m.1) (ap (λ (d : List ℕ). Some d) (sym m.3))))
tracks_end n t none (inr m) =
    let p : Parts = (0, m.1.0, 0, [], []) in
    (parts_text p, p, ends n t p none (lit< tt, m.1.2, lit< tt, refl, refl) (rw (lt-ltb 0 m.1.0 m.1.1) (ap (λ (d : List ℕ). Some (48 ∷ 46 ∷ d)) (sym m.1.3) ∙ ap (λ (d : List ℕ). Some d) (sym m.2))))

track_of : (p : Parts) (t : List ℕ) → IsValid p → track_text p ≡ Some t → IsTrack t
track_of p t v e = pre (nat_lt 0 (length p.3)) refl e
  where
    minor : (b : Bool) → nat_lt 0 p.1 ≡ b → (if b then Some (48 ∷ 46 ∷ decimal p.1) else None) ≡ Some t → IsTrack t
    minor true q h = inr (decimal p.1, (p.1, ltb-true _ _ q, v.1, refl), sym (cc h))
    minor false q h = absurd (cc h)

    major : (b : Bool) → nat_lt 0 p.0 ≡ b → (if b then Some (decimal p.0) else (if nat_lt 0 p.1 then Some (48 ∷ 46 ∷ decimal p.1) else None)) ≡ Some t → IsTrack t
    major true q h = inl (p.0, ltb-true _ _ q, v.0, sym (cc h))
    major false q h = minor (nat_lt 0 p.1) refl h

    pre : (b : Bool) → nat_lt 0 (length p.3) ≡ b
        → (if b then None else (if nat_lt 0 p.0 then Some (decimal p.0) else (if nat_lt 0 p.1 then Some (48 ∷ 46 ∷ decimal p.1) else None))) ≡ Some t → IsTrack t
    pre true q h = absurd (cc h)
    pre false q h = major (nat_lt 0 p.0) refl h

ended : (n t text : List ℕ) (p : Parts) → list_any is_at n ≡ false → lookup_key (n ++ 64 ∷ text) ≡ Some (n ++ 64 ∷ t, p) → IsTrack t
ended n t text p none e = by (read_version text) refl (sym (key_at (n ++ 64 ∷ text) n text (parsed n text none)) ∙ e)
  where
    by : (o : Option Parts) → read_version text ≡ o → key_from n o ≡ Some (n ++ 64 ∷ t, p) → IsTrack t
    by None q h = absurd (cc h)
    by (Some s) q h = on (track_text s) refl h
      where
        on : (u : Option (List ℕ)) → track_text s ≡ u → key_with n s u ≡ Some (n ++ 64 ∷ t, p) → IsTrack t
        on None k g = absurd (cc g)
        on (Some x) k g =
            let same : n ++ 64 ∷ x ≡ n ++ 64 ∷ t = ap (λ (y : Name × Parts). y.0) (same_Some _ _ g) in
            track_of s t (read-text text s q).1 (k ∙ ap (λ (l : List ℕ). Some (drop 1 l)) (append_cancel_left n (64 ∷ x) (64 ∷ t) same))

pub tracks_end_keys : (n : Name) (t : List ℕ) → list_any is_at n ≡ false → IsTrack t ↔ ((text : List ℕ) × (p : Parts) × (lookup_key (n ++ 64 ∷ text) ≡ Some (n ++ 64 ∷ t, p)))
tracks_end_keys n t none = (tracks_end n t none, λ e. ended n t e.0 e.1 none e.2)
