-- The latest of names on a track, place by place.
use Rattle.std.proofs.Common.{◌≡◌, ◌≢◌, ℕ, ◌+◌, ◌<◌, ◌≤◌, Bool, true, false, List, length, map, refl, sym, ap, ◌∙◌, subst, arith, inl, inr}
use Rattle.std.specs.Prelude.{◌==◌, Option, Some, None, slice_get, if◌then◌else◌}
use Rattle.std.specs.Ordering.{is_gt}
use Rattle.std.specs.Cmp.Lexicographic.{pointwise}
use Rattle.std.specs.declared.cmp.Ordering.{Ordering}
use Rattle.std.specs.declared.cmp.Ordering.TheVariants.{Less, Equal, Greater}
use Rattle.std.proofs.lemmas.Bool.{cases_lt}
use Rattle.std.proofs.lemmas.List.{length-map}
use Rattle.std.proofs.lemmas.Slice.Eq.{bytes_eq-Decides}
use Rattle.semver.specs.Parse.{Parts}
use Rattle.wac_types_base.specs.Entries.{Name}
use Rattle.wac_types_names.specs.Versions.{version_cmp}
use Rattle.wac_types_names.specs.Spellings.{version_on, later_of, IsBest, IsBestPlace}
use Rattle.wac_types_names.proofs.VersionOrder.{greater_trans, not_above_self}

abbrev pub Kept : Type 0
Kept = Option (Name × Parts)

kept_is : (x y : Kept) → Some x ≡ Some y → x ≡ y
kept_is x y e = cc e

abbrev some_kept : Kept → Option Kept
some_kept x = Some x

abbrev at_track : Name → Parts → Kept
at_track key p = Some (key, p)

same_key : (t : Name × Parts) (key : Name) (p : Parts) → at_track t.0 t.1 ≡ at_track key p → (t.0 ≡ key) × (t.1 ≡ p)
same_key t key p e = (ap key_in e, ap version_in e)
  where
    key_in : Kept → Name
    key_in None = key
    key_in (Some x) = x.0

    version_in : Kept → Parts
    version_in None = p
    version_in (Some x) = x.1

pub gt_is : (r : Ordering) → is_gt r ≡ true → r ≡ Greater
gt_is Less e = cc e
gt_is Equal e = cc e
gt_is Greater e = refl

pub gt_not : (r : Ordering) → is_gt r ≡ false → r ≢ Greater
gt_not Less e g = cc g
gt_not Equal e g = cc g
gt_not Greater e g = cc e

-- one place more: it is before the last, or the last
last_or : {P : ℕ → Type 0} (n : ℕ) → ((i : ℕ) → i < n → P i) → P n → (i : ℕ) → i < n + 1 → P i
last_or {P} n h here i lt = elim (cases_lt i n) [
  | inl below ↦ h i below
  | inr above ↦ let e : n ≡ i = omega arith in subst P e here
]

-- a place that is not on the track changes nothing
off_track : (ts : List Kept) (key : Name) (n : ℕ) (best : Option (ℕ × Parts)) (x : Kept) → IsBest ts key n best → slice_get ts n ≡ Some x → ((p : Parts) → x ≡ at_track key p → ⊥) → IsBest ts key (n + 1) best
off_track ts key n None x b at off =
    λ i p lt e. last_or {P = λ i. slice_get ts i ≡ Some (at_track key p) → ⊥} n (λ i lt e. b i p lt e) (λ e. off p (kept_is x (at_track key p) (sym at ∙ e))) i lt e
off_track ts key n (Some c) x b at off =
    (b.0, λ i p lt e. last_or {P = λ i. slice_get ts i ≡ Some (at_track key p) → version_cmp p c.1 ≢ Greater} n (λ i lt e. b.1 i p lt e) (λ e. absurd (off p (kept_is x (at_track key p) (sym at ∙ e)))) i lt e)

-- a place on the track
pub best_step : (ts : List Kept) (key : Name) (n : ℕ) (best : Option (ℕ × Parts)) (x : Kept) → IsBest ts key n best → slice_get ts n ≡ Some x → IsBest ts key (n + 1) (later_of best n (version_on key x))
best_step ts key n best None b at = off_track ts key n best None b at (λ p e. cc e)
best_step ts key n best (Some t) b at = by_key (pointwise ◌==◌ t.0 key) refl
  where
    here : t.0 ≡ key → (p : Parts) → slice_get ts n ≡ Some (at_track key p) → p ≡ t.1
    here k p e = sym (same_key t key p (kept_is (Some t) (at_track key p) (sym at ∙ e))).1

    on_it : t.0 ≡ key → slice_get ts n ≡ Some (at_track key t.1)
    on_it k = at ∙ ap (λ (m : Name). some_kept (at_track m t.1)) k

    no_more : (k : t.0 ≡ key) (p : Parts) → slice_get ts n ≡ Some (at_track key p) → version_cmp p t.1 ≢ Greater
    no_more k p e = subst (λ (q : Parts). version_cmp q t.1 ≢ Greater) (sym (here k p e)) (not_above_self t.1)

    by_best : (best : Option (ℕ × Parts)) → IsBest ts key n best → t.0 ≡ key → IsBest ts key (n + 1) (later_of best n (Some t.1))
    by_best None b k =
        (on_it k, λ i p lt e. last_or {P = λ i. slice_get ts i ≡ Some (at_track key p) → version_cmp p t.1 ≢ Greater} n (λ i lt e. absurd (b i p lt e)) (λ e. no_more k p e) i lt e)
    by_best (Some c) b k = by_order (is_gt (version_cmp t.1 c.1)) refl
      where
        by_order : (g : Bool) → is_gt (version_cmp t.1 c.1) ≡ g → IsBest ts key (n + 1) (if g then Some (n, t.1) else Some c)
        by_order true g = (
          on_it k,
          λ i p lt e. last_or {P = λ i. slice_get ts i ≡ Some (at_track key p) → version_cmp p t.1 ≢ Greater} n
              (λ i lt e h. b.1 i p lt e (greater_trans p t.1 c.1 h (gt_is (version_cmp t.1 c.1) g))) (λ e. no_more k p e) i lt e,
        )
        by_order false g = (
          b.0,
          λ i p lt e. last_or {P = λ i. slice_get ts i ≡ Some (at_track key p) → version_cmp p c.1 ≢ Greater} n
              (λ i lt e. b.1 i p lt e) (λ e. subst (λ (q : Parts). version_cmp q c.1 ≢ Greater) (sym (here k p e)) (gt_not (version_cmp t.1 c.1) g)) i lt e,
        )

    by_key : (s : Bool) → pointwise ◌==◌ t.0 key ≡ s → IsBest ts key (n + 1) (later_of best n (if s then Some t.1 else None))
    by_key true s = by_best best b ((bytes_eq-Decides t.0 key).0 s)
    by_key false s = off_track ts key n best (Some t) b at (λ p e. cc ((bytes_eq-Decides t.0 key).1 (same_key t key p e).0, s))

-- nothing is before the first
pub best_init : (ts : List Kept) (key : Name) → IsBest ts key 0 None
best_init ts key i p lt e = absurd (omega arith)

-- the place of the best, at the end
pub best_none : {X : Type 0} (f : X → Kept) (xs : List X) (key : Name) (n : ℕ) (best : Option (ℕ × Parts)) → IsBest (map f xs) key n best → best ≡ None → length xs ≤ n → IsBestPlace (map f xs) key None
best_none f xs key n best b is le = λ i p lt e. subst (IsBest (map f xs) key n) is b i p (omega (arith, lt, le, length-map xs f)) e

pub best_some : {X : Type 0} (f : X → Kept) (xs : List X) (key : Name) (n : ℕ) (best : Option (ℕ × Parts)) (c : ℕ × Parts) → IsBest (map f xs) key n best → best ≡ Some c → length xs ≤ n → IsBestPlace (map f xs) key (Some c.0)
best_some f xs key n best c b is le =
    let d = subst (IsBest (map f xs) key n) is b in
    (c.1, (d.0, λ i p lt e. d.1 i p (omega (arith, lt, le, length-map xs f)) e))
