-- The laws of tracks, and of what a map gives.
use Rattle.std.proofs.Common.{◌≡◌, ℕ, List, [], ◌∷◌, ◌++◌, length, refl, sym, ap, ◌∙◌, subst, arith, inl, inr}
use Rattle.std.specs.Prelude.{Option, Some, None}
use Rattle.std.specs.List.{position_or_len, before_first, after_first}
use Rattle.std.proofs.lemmas.Bool.{cases_lt}
use Rattle.wac_names.proofs.NameForms.{place_le}
use Rattle.semver.specs.Parse.{Parts}
use Rattle.semver.specs.Identifiers.{parts_text}
use Rattle.wac_types_base.specs.Graph.{Among}
use Rattle.wac_types_base.specs.Entries.{Name, names_of, AreDistinct}
use Rattle.wac_types_names.specs.Tracks.{read_version, is_at, track_text, key_with, key_from, IsOnTrack, ShareTrack, AreCompatible}
use Rattle.wac_types_names.specs.NameMaps.{Gives, exactly, on_track, nothing, IsLatest, SameEntries}
use Rattle.wac_types_names.proofs.VersionOrder.{level}
use Rattle.wac_types_names.proofs.TrackTexts.{read-text, no_at, around_at, key_at, ParsedAt}
use Rattle.wac_types_names.proofs.Giving.{one_key}
use Rattle.std.proofs.lemmas.List.{append_cancel_right}

-- ---- compatible names

pub compatible_itself : (a : Name) → AreCompatible a a
compatible_itself a = inl refl

share_turned : (a b : Name) → ShareTrack a b → ShareTrack b a
share_turned a b s = (s.0, s.2, s.1, s.4, s.3)

share_joined : (a b c : Name) → ShareTrack a b → ShareTrack b c → ShareTrack a c
share_joined a b c s t =
    let same = (one_key b s.0 t.0 s.2 t.1 s.4 t.3).0 in
    (t.0, s.1, t.2, subst (λ (k : Name). IsOnTrack k a s.1) same s.3, t.4)

pub compatible_turned : (a b : Name) → AreCompatible a b → AreCompatible b a
compatible_turned a b (inl e) = inl (sym e)
compatible_turned a b (inr s) = inr (share_turned a b s)

pub compatible_joined : (a b c : Name) → AreCompatible a b → AreCompatible b c → AreCompatible a c
compatible_joined a b c (inl e) t = subst (λ (x : Name). AreCompatible x c) (sym e) t
compatible_joined a b c (inr s) (inl e) = subst (λ (x : Name). AreCompatible a x) e (inr s)
compatible_joined a b c (inr s) (inr t) = inr (share_joined a b c s t)

-- ---- one name for each version of a track

-- a name on a track, by its text
pub record Spelled (n track : Name) (p : Parts) : Type 0 where
  pub front : Name
  pub text : List ℕ
  pub names : track_text p ≡ Some text
  pub key : track ≡ front ++ 64 ∷ text
  pub whole : n ≡ front ++ 64 ∷ parts_text p

abbrev pub keyed : Name → Parts → Option (Name × Parts)
keyed k p = Some (k, p)

spelled : (n track : Name) (p : Parts) → IsOnTrack track n p → Spelled n track p
spelled n track p on = elim (cases_lt (position_or_len is_at n) (length n)) [
  | inl lt ↦ let s : ParsedAt n (before_first is_at n) (after_first is_at n) = (lt, refl, refl) in read (read_version (after_first is_at n)) refl s (sym (key_at n _ _ s) ∙ on)
  | inr le ↦ absurd (none_some (sym (no_at n (omega (arith, place_le 64 n))) ∙ on))
]
  where
    none_some : {x : Name × Parts} → None ≡ Some x → ⊥
    none_some h = cc h

    cut : (q : Parts) (t : Option (List ℕ)) → read_version (after_first is_at n) ≡ Some q → track_text q ≡ t → ParsedAt n (before_first is_at n) (after_first is_at n) → key_with (before_first is_at n) q t ≡ Some (track, p) → Spelled n track p
    cut q None r e s h = absurd (none_some h)
    cut q (Some t) r e s h =
        let k = pair_in h in
        let same : q ≡ p = k.1 in
        record {
          front = before_first is_at n;
          text = t;
          names = ap track_text (sym same) ∙ e;
          key = sym k.0;
          whole = around_at n _ _ s ∙ ap (λ (x : List ℕ). before_first is_at n ++ 64 ∷ x) ((read-text (after_first is_at n) q r).0 ∙ ap parts_text same);
        }
      where
        pair_in : keyed (before_first is_at n ++ 64 ∷ t) q ≡ keyed track p → (before_first is_at n ++ 64 ∷ t ≡ track) × (q ≡ p)
        pair_in e = (ap key_in e, ap version_in e)
          where
            key_in : Option (Name × Parts) → Name
            key_in None = track
            key_in (Some x) = x.0

            version_in : Option (Name × Parts) → Parts
            version_in None = p
            version_in (Some x) = x.1

    read : (r : Option Parts) → read_version (after_first is_at n) ≡ r → ParsedAt n (before_first is_at n) (after_first is_at n) → key_from (before_first is_at n) (read_version (after_first is_at n)) ≡ Some (track, p) → Spelled n track p
    read None r s h = absurd (none_some (sym (ap (key_from (before_first is_at n)) r) ∙ h))
    read (Some q) r s h = cut q (track_text q) r refl s (sym (ap (key_from (before_first is_at n)) r) ∙ h)

pub one_name : (m n track : Name) (p : Parts) → IsOnTrack track m p → IsOnTrack track n p → m ≡ n
one_name m n track p a b =
    let x = spelled m track p a in
    let y = spelled n track p b in
    let same : x.text ≡ y.text = text_in (sym x.names ∙ y.names) in
    let keys : x.front ++ 64 ∷ x.text ≡ y.front ++ 64 ∷ x.text = sym x.key ∙ y.key ∙ ap (λ (t : List ℕ). y.front ++ 64 ∷ t) (sym same) in
    x.whole ∙ ap (λ (f : List ℕ). f ++ 64 ∷ parts_text p) (append_cancel_right x.front y.front (64 ∷ x.text) keys) ∙ sym y.whole
  where
    text_in : {s t : List ℕ} → Some s ≡ Some t → s ≡ t
    text_in e = cc e

-- ---- the order of insertion

pub name_among : {V : Type 0} (es : List (Name × V)) (n : Name) (v : V) → Among (n, v) es → Among n (names_of es)
name_among [] n v a = a
name_among (e ∷ es) n v (inl s) = inl (ap (λ x. x.0) s)
name_among (e ∷ es) n v (inr a) = inr (name_among es n v a)

same_value : {V : Type 0} (es : List (Name × V)) (n : Name) (v w : V) → AreDistinct (names_of es) → Among (n, v) es → Among (n, w) es → v ≡ w
same_value [] n v w d a b = absurd a
same_value (e ∷ es) n v w d (inl s) (inl t) = ap (λ x. x.1) (s ∙ sym t)
same_value (e ∷ es) n v w d (inl s) (inr b) = absurd (d.0 (subst (λ (x : Name). Among x (names_of es)) (ap (λ x. x.0) s) (name_among es n w b)))
same_value (e ∷ es) n v w d (inr a) (inl t) = absurd (d.0 (subst (λ (x : Name). Among x (names_of es)) (ap (λ x. x.0) t) (name_among es n v a)))
same_value (e ∷ es) n v w d (inr a) (inr b) = same_value es n v w d.1 a b

-- two latest names are one
one_latest : {V : Type 0} (es fs : List (Name × V)) (asked m n : Name) → IsLatest es asked m → IsLatest fs asked n → Among n (names_of es) → Among m (names_of fs) → m ≡ n
one_latest es fs asked m n a b n_in m_in =
    let s = a.track in
    let t = b.track in
    let track = (one_key asked t.0 s.0 t.1 s.1 t.3 s.3).0 in
    let on : IsOnTrack s.0 n t.2 = subst (λ (k : Name). IsOnTrack k n t.2) track t.4 in
    let same : s.2 ≡ t.2 = level s.2 t.2 (λ g. b.latest m m_in s (s.0, s.2, t.2, s.4, on, g)) (λ g. a.latest n n_in t (s.0, t.2, s.2, on, s.4, g)) in
    one_name m n s.0 t.2 (subst (λ (p : Parts). IsOnTrack s.0 m p) same s.4) on

some_of_value : {V : Type 0} (v w : V) → v ≡ w → Some v ≡ Some w
some_of_value {V} v w e = ap (λ (x : V). Some x) e

pub order_ignored : {V : Type 0} (es fs : List (Name × V)) (asked : Name) (r s : Option V) → AreDistinct (names_of es) → SameEntries es fs → Gives es asked r → Gives fs asked s → r ≡ s
order_ignored es fs asked (Some v) (Some w) d same (exactly a) (exactly b) = some_of_value v w (same_value es asked v w d a ((same (asked, w)).1 b))
order_ignored es fs asked (Some v) (Some w) d same (exactly a) (on_track n off b l) = absurd (off (name_among fs asked v ((same (asked, v)).0 a)))
order_ignored es fs asked (Some v) None d same (exactly a) (nothing off h) = absurd (off (name_among fs asked v ((same (asked, v)).0 a)))
order_ignored es fs asked (Some v) (Some w) d same (on_track m off a l) (exactly b) = absurd (off (name_among es asked w ((same (asked, w)).1 b)))
order_ignored es fs asked (Some v) (Some w) d same (on_track m off a l) (on_track n out b k) =
    let here = (same (n, w)).1 b in
    let there = (same (m, v)).0 a in
    let one = one_latest es fs asked m n l k (name_among es n w here) (name_among fs m v there) in
    some_of_value v w (same_value es n v w d (subst (λ (x : Name). Among (x, v) es) one a) here)
order_ignored es fs asked (Some v) None d same (on_track m off a l) (nothing out h) = absurd (h m (name_among fs m v ((same (m, v)).0 a)) l.track)
order_ignored es fs asked None (Some w) d same (nothing off h) (exactly b) = absurd (off (name_among es asked w ((same (asked, w)).1 b)))
order_ignored es fs asked None (Some w) d same (nothing off h) (on_track n out b k) = absurd (h n (name_among es n w ((same (n, w)).1 b)) k.track)
order_ignored es fs asked None None d same (nothing off h) (nothing out k) = refl
