-- The first name that is like an earlier one, by the places of what names share.
use Rattle.std.specs.Prelude.{bytes_eq, find}
use Rattle.std.specs.Char.{to_ascii_lowercase}
use Rattle.std.specs.Cmp.Lexicographic.{pointwise}
use Rattle.std.proofs.Common.{◌≡◌, ◌==◌, ℕ, zero, suc, ◌+◌, ◌<◌, ◌≤◌, Bool, true, false, cond, List, [], ◌∷◌, ◌++◌, map, take, drop, length, slice_get, Some, None, option_map, refl, sym, ap, subst, ◌∙◌, arith}
use Rattle.std.proofs.lemmas.List.{length-take-le}
use Rattle.std.proofs.lemmas.Option.{none-some, same_Some, slice_get_within}
use Rattle.wac_types_base.specs.Entries.{Name, value_at}
use Rattle.wac_types_base.proofs.Looked.{take-one_more}
use Rattle.wac_types_base.proofs.Used.{drop_next}
use Rattle.wac_types_base.proofs.Lists.{drop_all}
use Rattle.std.specs.Option.{option_or}
use Rattle.wac_composition.specs.Conflicts.{lower, alike, twins}
use Rattle.wac_graph_causes.specs.Firsts.{AddsFirst, AreFirst}
use Rattle.wac_graph_causes.specs.Alike.{likeness, places_from, AreTwinsAt}
use Rattle.wac_graph_causes.proofs.Firsts.{more_first}

-- ---- what names share

lowered : (c : ℕ) → to_ascii_lowercase c ≡ lower c
lowered c = grind arith

pub all_lowered : (n : Name) → map to_ascii_lowercase n ≡ map lower n
all_lowered [] = refl
all_lowered (c ∷ n) = ap (λ d. d ∷ map to_ascii_lowercase n) (lowered c) ∙ ap (λ l. lower c ∷ l) (all_lowered n)

alike_is : (v : Bool) (m n : Name) → alike v m n ≡ bytes_eq (likeness v m) (likeness v n)
alike_is true m n = refl
alike_is false m n = refl

-- ---- the first place under what a name shares

pub record IsFirstAt (v : Bool) (n : Name) (k : ℕ) (ns : List Name) (place : ℕ) : Type 0 where
  pub behind : ℕ
  pub is : place ≡ k + behind
  pub first : Name
  pub there : slice_get ns behind ≡ Some first
  pub found : find (alike v n) ns ≡ Some first

module _ (v : Bool) (n : Name) where
  first_place : (k : ℕ) (ns : List Name) (place : ℕ) → value_at (places_from v k ns) (likeness v n) ≡ Some place → IsFirstAt v n k ns place
  first_place k [] place e = absurd (none-some _ e)
  first_place k (m ∷ ns) place e = go (pointwise ◌==◌ (likeness v n) (likeness v m)) refl e (first_place (k + 1) ns place)
    where
      go : (b : Bool) → pointwise ◌==◌ (likeness v n) (likeness v m) ≡ b → cond b (Some k) (value_at (places_from v (k + 1) ns) (likeness v n)) ≡ Some place
          → (value_at (places_from v (k + 1) ns) (likeness v n) ≡ Some place → IsFirstAt v n (k + 1) ns place) → IsFirstAt v n k (m ∷ ns) place
      go true q r later = let same = same_Some _ _ r in record {
        behind = 0;
        is = omega (arith, same);
        first = m;
        there = refl;
        found = ap (λ b. cond b (Some m) (find (alike v n) ns)) (alike_is v n m ∙ q);
      }
      go false q r later =
          let f = later r in
          let is = f.is in record {
            behind = suc f.behind;
            is = omega (arith, is);
            first = f.first;
            there = f.there;
            found = ap (λ b. cond b (Some m) (find (alike v n) ns)) (alike_is v n m ∙ q) ∙ f.found;
          }

  no_place : (k : ℕ) (ns : List Name) → value_at (places_from v k ns) (likeness v n) ≡ None → find (alike v n) ns ≡ None
  no_place k [] e = refl
  no_place k (m ∷ ns) e = go (pointwise ◌==◌ (likeness v n) (likeness v m)) refl e (no_place (k + 1) ns)
    where
      go : (b : Bool) → pointwise ◌==◌ (likeness v n) (likeness v m) ≡ b → cond b (Some k) (value_at (places_from v (k + 1) ns) (likeness v n)) ≡ None
          → (value_at (places_from v (k + 1) ns) (likeness v n) ≡ None → find (alike v n) ns ≡ None) → cond (alike v n m) (Some m) (find (alike v n) ns) ≡ None
      go true q r later = absurd (none-some _ (sym r))
      go false q r later = ap (λ b. cond b (Some m) (find (alike v n) ns)) (alike_is v n m ∙ q) ∙ later r

places_next : (v : Bool) (k : ℕ) (ns : List Name) (n : Name) → places_from v k (ns ++ n ∷ []) ≡ places_from v k ns ++ (likeness v n, k + length ns) ∷ []
places_next v k [] n = let e : k ≡ k + 0 = omega arith in ap (λ i. (likeness v n, i) ∷ []) e
places_next v k (m ∷ ns) n =
    let e : (k + 1) + length ns ≡ k + suc (length ns) = omega arith in
    ap (λ l. (likeness v m, k) ∷ l) (places_next v (k + 1) ns n ∙ ap (λ i. places_from v (k + 1) ns ++ (likeness v n, i) ∷ []) e)

taken_there : {X : Type 0} (xs : List X) (i k : ℕ) (x : X) → slice_get (take i xs) k ≡ Some x → slice_get xs k ≡ Some x
taken_there [] zero k x e = e
taken_there [] (suc i) k x e = e
taken_there (y ∷ xs) zero k x e = absurd (none-some _ e)
taken_there (y ∷ xs) (suc i) zero x e = e
taken_there (y ∷ xs) (suc i) (suc k) x e = taken_there xs i k x e

-- ---- names one after another

module _ (v : Bool) (names : List Name) where
  -- up to this place no name is like an earlier one, and the first ones are there
  pub record TwinsLeft (at : ℕ) (firsts : List (Name × ℕ)) : Type 0 where
    pub are : AreFirst firsts (places_from v 0 (take at names))
    pub left : twins (alike v) (take at names) (drop at names) ≡ twins (alike v) [] names

  pub twins_begin : (firsts : List (Name × ℕ)) → firsts ≡ [] → TwinsLeft 0 firsts
  twins_begin firsts is = record { are = λ n. ap (λ l. value_at l n) is; left = refl }

  module _ (at : ℕ) (n : Name) (there : slice_get names at ≡ Some n) (firsts : List (Name × ℕ)) (h : TwinsLeft at firsts) where
    -- what is left begins with it
    begins : option_or (option_map (λ m. (m, n)) (find (alike v n) (take at names))) (twins (alike v) (take at names ++ n ∷ []) (drop (at + 1) names)) ≡ twins (alike v) [] names
    begins = ap (twins (alike v) (take at names)) (sym (drop_next names at n there)) ∙ h.left

    places : places_from v 0 (take at names) ++ (likeness v n, at) ∷ [] ≡ places_from v 0 (take (at + 1) names)
    places =
        let within : at < length names = slice_get_within names at n there in
        let taken : length (take at names) ≡ at = length-take-le at names (omega (arith, within)) in
        let long : 0 + length (take at names) ≡ at = omega (arith, taken) in
        sym (ap (places_from v 0) (take-one_more names at n there) ∙ places_next v 0 (take at names) n ∙ ap (λ i. places_from v 0 (take at names) ++ (likeness v n, i) ∷ []) long)

    pub twins_next : (new : List (Name × ℕ)) → None ≡ value_at firsts (likeness v n) → AddsFirst firsts new ((likeness v n, at) ∷ []) → TwinsLeft (at + 1) new
    twins_next new none adds = record {
      are = subst (AreFirst new) places (more_first firsts new (places_from v 0 (take at names)) ((likeness v n, at) ∷ []) h.are adds);
      left =
          ap (λ l. twins (alike v) l (drop (at + 1) names)) (take-one_more names at n there)
          ∙ sym (ap (λ o. option_or (option_map (λ m. (m, n)) o) (twins (alike v) (take at names ++ n ∷ []) (drop (at + 1) names))) (no_place v n 0 (take at names) (sym (h.are (likeness v n)) ∙ sym none)))
          ∙ begins;
    }

    pub twins_found : (first : ℕ) → Some first ≡ value_at firsts (likeness v n) → AreTwinsAt v names first at
    twins_found first found =
        let f = first_place v n 0 (take at names) first (sym (h.are (likeness v n)) ∙ sym found) in
        let is = f.is in
        let place : first ≡ f.behind = omega (arith, is) in record {
          name = f.first;
          twin = n;
          name_at = ap (slice_get names) place ∙ taken_there names at f.behind f.first f.there;
          twin_at = there;
          are = sym begins ∙ ap (λ o. option_or (option_map (λ m. (m, n)) o) (twins (alike v) (take at names ++ n ∷ []) (drop (at + 1) names))) f.found;
        }

  pub no_twins : (at : ℕ) (firsts : List (Name × ℕ)) → length names ≤ at → TwinsLeft at firsts → twins (alike v) [] names ≡ None
  no_twins at firsts all h = sym h.left ∙ ap (twins (alike v) (take at names)) (drop_all names at all)

-- ---- copies of both

pub both_copied : (v : Bool) (names : List Name) (first second : ℕ) (m n : Name) (t : Name × Name) → AreTwinsAt v names first second → slice_get names first ≡ Some m → slice_get names second ≡ Some n → t ≡ (m, n) → Some t ≡ twins (alike v) [] names
both_copied v names first second m n t h a b is =
    ap Some is ∙ ap (λ k. Some (k, n)) (same_Some m h.name (sym a ∙ h.name_at)) ∙ ap (λ k. Some (h.name, k)) (same_Some n h.twin (sym b ∙ h.twin_at)) ∙ sym h.are
