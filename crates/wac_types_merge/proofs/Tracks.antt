-- Names on tracks, and the imports that stand on them.
use Rattle.std.proofs.Common.{◌≡◌, ℕ, zero, suc, ◌<◌, List, [], ◌∷◌, ◌++◌, length, Some, IsSome, refl, sym, ap, subst, ◌∙◌, ◌⊎◌, inl, inr}
use Rattle.std.specs.Prelude.{slice_get, slice_set}
use Rattle.std.specs.declared.cmp.Ordering.TheVariants as order
use Rattle.semver.specs.Parse.{Parts}
use Rattle.wac_types_base.specs.Graph.{Among}
use Rattle.wac_types_base.specs.Entries.{Name}
use Rattle.wac_types_base.proofs.GraphLemmas.{is_there}
use Rattle.wac_types_base.proofs.Replacing.{slice_get-set_other, slice_get-set_same}
use Rattle.wac_types_base.proofs.Walking.{slice_get-Among, some_place}
use Rattle.wac_types_names.specs.Tracks.{lookup_key, AreCompatible, IsOnTrack, IsLater}
use Rattle.wac_types_names.specs.Versions.{version_cmp}
use Rattle.wac_types_names.proofs.TrackLaws.{compatible_itself, compatible_turned, compatible_joined}
use Rattle.wac_types_names.proofs.VersionOrder.{greater_trans, not_above_self}
use Rattle.wac_types_merge.specs.declared.family.Import.{Import}
use Rattle.wac_types_merge.specs.Imports.{AreApart, IsGreater}
use Rattle.wac_types_base.proofs.Looked.{among-get}
use Rattle.wac_types_base.proofs.Lists.{among_split}

-- ---- later names

same_key : (track other : Name) (n : Name) (p q : Parts) → IsOnTrack track n p → IsOnTrack other n q → (track ≡ other) × (p ≡ q)
same_key track other n p q e f = let both : ◌≡◌ {A = Name × Parts} (track, p) (other, q) = cc (e, f) in (ap (λ z. z.0) both, ap (λ z. z.1) both)

pub not_later : (n : Name) → IsLater n n → ⊥
not_later n h =
    let same = same_key h.0 h.0 n h.1 h.2 h.3 h.4 in
    not_above_self h.2 (subst (λ p. version_cmp p h.2 ≡ order.Greater) same.1 h.5)

pub later_trans : (l m n : Name) → IsLater l m → IsLater m n → IsLater l n
later_trans l m n h k =
    let same = same_key h.0 k.0 m h.2 k.1 h.4 k.3 in (
      h.0,
      h.1,
      k.2,
      h.3,
      subst (λ t. IsOnTrack t n k.2) (sym same.0) k.4,
      greater_trans h.1 h.2 k.2 h.5 (subst (λ p. version_cmp p k.2 ≡ order.Greater) (sym same.1) k.5),
    )

pub later_shares : (m n : Name) → IsLater m n → AreCompatible m n
later_shares m n h = inr (h.0, h.1, h.2, h.3, h.4)

-- ---- the greater of two names

pub greater_before : (old name s : Name) → AreCompatible old name → IsGreater old name s → AreCompatible s old
greater_before old name s t (inl h) = subst (λ z. AreCompatible z old) (sym h.1) (compatible_turned old name t)
greater_before old name s t (inr h) = subst (λ z. AreCompatible z old) (sym h.1) (compatible_itself old)

pub greater_asked : (old name s : Name) → AreCompatible old name → IsGreater old name s → AreCompatible s name
greater_asked old name s t g = compatible_joined s old name (greater_before old name s t g) t

-- no name that was not later than the old one is later than the greater, nor is the name asked
pub greater_still : (old name s x : Name) → IsGreater old name s → (IsLater x old → ⊥) → IsLater x s → ⊥
greater_still old name s x (inl h) k l = k (later_trans x name old (subst (IsLater x) h.1 l) h.0)
greater_still old name s x (inr h) k l = k (subst (IsLater x) h.1 l)

pub greater_than_asked : (old name s : Name) → IsGreater old name s → IsLater name s → ⊥
greater_than_asked old name s (inl h) l = not_later name (subst (IsLater name) h.1 l)
greater_than_asked old name s (inr h) l = h.0 (subst (IsLater name) h.1 l)

-- what is on a track, if a compatible name is
pub on_track_with : (m n : Name) → AreCompatible m n → IsSome (lookup_key m) → IsSome (lookup_key n)
on_track_with m n (inl e) h = subst (λ z. IsSome (lookup_key z)) e h
on_track_with m n (inr t) h = is_there (lookup_key n) (t.0, t.2) t.4

-- ---- imports apart

-- one more import, on a track of its own
pub apart_more : (ms : List Import) (x : Import) → AreApart ms → ((m : Import) → Among m ms → AreCompatible m.name x.name → ⊥) → AreApart (ms ++ x ∷ [])
apart_more [] x a h = (λ l m c. absurd m, tt)
apart_more (m ∷ ms) x a h = (
  (λ l k c. elim (among_split l ms (x ∷ []) k) [
    | inl n ↦ a.0 l n c
    | inr n ↦ last_only l n (λ e. h m (inl refl) (subst (λ (z : Import). AreCompatible m.name z.name) e c))
  ]),
  apart_more ms x a.1 (λ l n. h l (inr n)),
)
  where
    last_only : (l : Import) → Among l (x ∷ []) → (l ≡ x → ⊥) → ⊥
    last_only l (inl e) g = g e
    last_only l (inr e) g = absurd e

-- an import in the place of another on its track
set_member : (ms : List Import) (i : ℕ) (x l : Import) → Among l (slice_set ms i x) → (l ≡ x) ⊎ Among l ms
set_member [] i x l m = inr m
set_member (m ∷ ms) zero x l (inl e) = inl e
set_member (m ∷ ms) zero x l (inr n) = inr (inr n)
set_member (m ∷ ms) (suc i) x l (inl e) = inr (inl e)
set_member (m ∷ ms) (suc i) x l (inr n) = elim (set_member ms i x l n) [ inl e ↦ inl e | inr k ↦ inr (inr k) ]

pub apart_set : (ms : List Import) (i : ℕ) (m x : Import) → slice_get ms i ≡ Some m → AreCompatible x.name m.name → AreApart ms → AreApart (slice_set ms i x)
apart_set [] i m x at c a = absurd (cc at)
apart_set (l ∷ ms) zero m x at c a =
    let is : l ≡ m = cc at in
    (λ k n d. a.0 k n (compatible_joined l.name x.name k.name (compatible_turned x.name l.name (subst (λ (z : Import). AreCompatible x.name z.name) (sym is) c)) d), a.1)
apart_set (l ∷ ms) (suc i) m x at c a = (
  (λ k n d. elim (set_member ms i x k n) [
    | inl e ↦ a.0 m (among-get ms i m at) (compatible_joined l.name x.name m.name (subst (λ (z : Import). AreCompatible l.name z.name) e d) c)
    | inr p ↦ a.0 k p d
  ]),
  apart_set ms i m x at c a.1,
)

-- two imports on one track stand in one place
pub one_place : (ms : List Import) (i j : ℕ) (m l : Import) → AreApart ms → slice_get ms i ≡ Some m → slice_get ms j ≡ Some l → AreCompatible m.name l.name → i ≡ j
one_place [] i j m l a e f c = absurd (cc e)
one_place (x ∷ ms) zero zero m l a e f c = refl
one_place (x ∷ ms) zero (suc j) m l a e f c = let is : x ≡ m = cc e in absurd (a.0 l (among-get ms j l f) (subst (λ (z : Import). AreCompatible z.name l.name) (sym is) c))
one_place (x ∷ ms) (suc i) zero m l a e f c = let is : x ≡ l = cc f in absurd (a.0 m (among-get ms i m e) (compatible_turned m.name x.name (subst (λ (z : Import). AreCompatible m.name z.name) (sym is) c)))
one_place (x ∷ ms) (suc i) (suc j) m l a e f c = ap suc (one_place ms i j m l a.1 e f c)

-- what stands in a list in which one was set: that one, or another from another place
pub same_or_not : (i j : ℕ) → (j ≡ i) ⊎ (j ≡ i → ⊥)
same_or_not zero zero = inl refl
same_or_not zero (suc j) = inr (λ e. absurd (cc e))
same_or_not (suc i) zero = inr (λ e. absurd (cc e))
same_or_not (suc i) (suc j) = elim (same_or_not i j) [ inl e ↦ inl (ap suc e) | inr h ↦ inr (λ e. h (cc e)) ]

pub record Elsewhere (ms : List Import) (i : ℕ) (l : Import) : Type 0 where
  pub place : ℕ
  pub other : place ≡ i → ⊥
  pub there : slice_get ms place ≡ Some l

set_place : (ms : List Import) (i j : ℕ) (x l : Import) → i < length ms → slice_get (slice_set ms i x) j ≡ Some l → (l ≡ x) ⊎ Elsewhere ms i l
set_place ms i j x l lt at = elim (same_or_not i j) [
  | inl e ↦ inl (let here = subst (λ z. slice_get (slice_set ms i x) z ≡ Some l) e at in let set = slice_get-set_same ms i x lt in cc (here, set))
  | inr h ↦ inr (record { place = j; other = h; there = sym (slice_get-set_other ms i j x h) ∙ at })
]

pub set_among : (ms : List Import) (i : ℕ) (m x l : Import) → slice_get ms i ≡ Some m → Among l (slice_set ms i x) → (l ≡ x) ⊎ Elsewhere ms i l
set_among ms i m x l at n =
    let p = slice_get-Among (slice_set ms i x) l n in
    set_place ms i p.0 x l (some_place ms i m at) p.2

pub set_there : (ms : List Import) (i : ℕ) (m x : Import) → slice_get ms i ≡ Some m → Among x (slice_set ms i x)
set_there ms i m x at = among-get (slice_set ms i x) i x (slice_get-set_same ms i x (some_place ms i m at))

pub other_there : (ms : List Import) (i : ℕ) (x l : Import) → Elsewhere ms i l → Among l (slice_set ms i x)
other_there ms i x l h = among-get (slice_set ms i x) h.place l (slice_get-set_other ms i h.place x h.other ∙ h.there)
