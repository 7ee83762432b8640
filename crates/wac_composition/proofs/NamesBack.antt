-- The tests of names say yes of each two names that are compatible, and of each that is later.
use Rattle.std.proofs.Common.{◌≡◌, ℕ, ◌+◌, take, ◌<◌, ◌^◌, Bool, true, false, true≢false, List, [], ◌∷◌, ◌++◌, length, Option, Some, None, refl, sym, ap, subst, ◌∙◌, inl, inr}
use Rattle.std.specs.Cmp.Derive.{both_true}
use Rattle.std.proofs.lemmas.Option.{none-some, same_Some}
use Rattle.std.specs.Prelude.{◌==◌, bytes_eq, nat_lt, if◌then◌else◌}
use Rattle.std.specs.List.{position_or_len, before_first, after_first, list_any}
use Rattle.std.specs.Fmt.{decimal}
use Rattle.std.proofs.lemmas.Fmt.{decimal_injective}
use Rattle.std.proofs.lemmas.Slice.Eq.{bytes_eq-Decides}
use Rattle.std.proofs.lemmas.Bool.Decides.{Decides-eqb}
use Rattle.std.proofs.lemmas.Bool.{or_right, or_left}
use Rattle.semver.specs.Parse.{Parts}
use Rattle.semver.specs.Grammar.{IsValid}
use Rattle.wac_types_base.specs.Entries.{Name}
use Rattle.wac_types_names.specs.Tracks.{is_at, read_version, before_at, version_of, track_text, key_with, key_from, lookup_key, IsOnTrack, AreCompatible, IsLater}
use Rattle.wac_types_names.proofs.Places.{NoByte}
use Rattle.wac_types_names.proofs.TrackTexts.{read-text, decimal_no_dot, one_longer}
use Rattle.wac_composition.specs.Names.{track_number, numbers_agree, tracks_agree, same_track, compatible, is_greater, later_version, is_later}

head_is : {x y : ℕ} {xs ys : List ℕ} → x ∷ xs ≡ y ∷ ys → x ≡ y
head_is e = cc

tail_is : {x y : ℕ} {xs ys : List ℕ} → x ∷ xs ≡ y ∷ ys → xs ≡ ys
tail_is e = cc

number_itself : (a : ℕ) → (a == a) ≡ true
number_itself a = (Decides-eqb a a).1 refl

-- ---- what stands before the first `@`, and behind it

none_before : (xs : List ℕ) → NoByte 64 (before_first is_at xs)
none_before [] = tt
none_before (x ∷ xs) = by (is_at x) refl (none_before xs)
  where
    by : (t : Bool) → is_at x ≡ t → NoByte 64 (before_first is_at xs) → NoByte 64 (before_first is_at (x ∷ xs))
    by true e h = rw e tt
    by false e h = rw e (subst (λ (k : ℕ). NoByte 64 (take k (x ∷ xs))) (sym (one_longer (position_or_len is_at xs))) (e, h))

not_the_byte : (y : ℕ) → 64 ≡ y → (y == 64) ≡ false → ⊥
not_the_byte y e f = true≢false (sym (ap (λ n. n == 64) (sym e)) ∙ f)

seam : (f g s t : List ℕ) → NoByte 64 f → NoByte 64 g → f ++ 64 ∷ s ≡ g ++ 64 ∷ t → (f ≡ g) × (s ≡ t)
seam [] [] s t a b e = (refl, tail_is e)
seam [] (y ∷ g) s t a b e = absurd (not_the_byte y (head_is e) b.0)
seam (x ∷ f) [] s t a b e = absurd (not_the_byte x (sym (head_is e)) a.0)
seam (x ∷ f) (y ∷ g) s t a b e =
    let h = seam f g s t a.1 b.1 (tail_is e) in
    let first : x ≡ y = head_is e in
    ((λ i. first i ∷ h.0 i), h.1)

-- ---- a name on a track, by its parts

record IsRead (n track : Name) (p : Parts) : Type 0 where
  text : List ℕ
  version : version_of n ≡ Some p
  names : track_text p ≡ Some text
  key : track ≡ before_at n ++ 64 ∷ text

abbrev key_in : Name → Option (Name × Parts) → Name
key_in k None = k
key_in k (Some x) = x.0

abbrev parts_in : Parts → Option (Name × Parts) → Parts
parts_in p None = p
parts_in p (Some x) = x.1

read_on : (n track : Name) (p : Parts) → IsOnTrack track n p → IsRead n track p
unfolding lookup_key
read_on n track p on = read (version_of n) refl on
  where
    cut : (q : Parts) (o : Option (List ℕ)) → version_of n ≡ Some q → track_text q ≡ o → key_with (before_at n) q o ≡ Some (track, p) → IsRead n track p
    cut q None v e h = absurd (none-some _ h)
    cut q (Some t) v e h =
        let same : q ≡ p = ap (parts_in p) h in
        record { text = t; version = v ∙ ap Some same; names = ap track_text (sym same) ∙ e; key = sym (ap (key_in track) h) }

    read : (o : Option Parts) → version_of n ≡ o → key_from (before_at n) o ≡ Some (track, p) → IsRead n track p
    read None v h = absurd (none-some _ h)
    read (Some q) v h = cut q (track_text q) v refl h

valid_read : (text : List ℕ) (p : Parts) → read_version text ≡ Some p → IsValid p
valid_read text p e = (read-text text p e).1

valid_in : (n : Name) (p : Parts) → version_of n ≡ Some p → IsValid p
unfolding version_of
valid_in n p e = by (list_any is_at n) e
  where
    by : (b : Bool) → (if b then read_version (after_first is_at n) else None) ≡ Some p → IsValid p
    by true h = valid_read (after_first is_at n) p h
    by false h = absurd (none-some _ h)

-- ---- equal texts of tracks have equal numbers

no_dot_second : (x : ℕ) (ds rest : List ℕ) → NoByte 46 ds → ds ≡ x ∷ 46 ∷ rest → ⊥
no_dot_second x ds rest n e = let h : NoByte 46 (x ∷ 46 ∷ rest) = subst (NoByte 46) e n in true≢false h.1.0

agree : (x y z x' y' z' : Bool) (a b a' b' : ℕ) (t : List ℕ) → a < 2 ^ 64 → b < 2 ^ 64 → a' < 2 ^ 64 → b' < 2 ^ 64
    → (if x then None else if y then Some (decimal a) else if z then Some (48 ∷ 46 ∷ decimal b) else None) ≡ Some t
    → (if x' then None else if y' then Some (decimal a') else if z' then Some (48 ∷ 46 ∷ decimal b') else None) ≡ Some t
    → numbers_agree (if x then None else if y then Some (a, 0) else if z then Some (0, b) else None) (if x' then None else if y' then Some (a', 0) else if z' then Some (0, b') else None) ≡ true
agree true y z x' y' z' a b a' b' t k l m n e f = absurd (none-some _ e)
agree false y z true y' z' a b a' b' t k l m n e f = absurd (none-some _ f)
agree false true z false true z' a b a' b' t k l m n e f =
    both_true ((Decides-eqb a a').1 (decimal_injective a a' k m (same_Some _ _ (e ∙ sym f)))) refl
agree false true z false false true a b a' b' t k l m n e f = absurd (no_dot_second 48 (decimal a) (decimal b') (decimal_no_dot a k) (same_Some _ _ (e ∙ sym f)))
agree false true z false false false a b a' b' t k l m n e f = absurd (none-some _ f)
agree false false true false true z' a b a' b' t k l m n e f = absurd (no_dot_second 48 (decimal a') (decimal b) (decimal_no_dot a' m) (same_Some _ _ (f ∙ sym e)))
agree false false true false false true a b a' b' t k l m n e f =
    both_true refl ((Decides-eqb b b').1 (decimal_injective b b' l n (tail_is (tail_is (same_Some _ _ (e ∙ sym f))))))
agree false false true false false false a b a' b' t k l m n e f = absurd (none-some _ f)
agree false false false x' y' z' a b a' b' t k l m n e f = absurd (none-some _ e)

numbers_of_text : (p q : Parts) (t : List ℕ) → IsValid p → IsValid q → track_text p ≡ Some t → track_text q ≡ Some t → numbers_agree (track_number p) (track_number q) ≡ true
numbers_of_text p q t v w e f =
    agree (nat_lt 0 (length p.3)) (nat_lt 0 p.0) (nat_lt 0 p.1) (nat_lt 0 (length q.3)) (nat_lt 0 q.0) (nat_lt 0 q.1) p.0 p.1 q.0 q.1 t v.0 v.1 w.0 w.1 e f

-- ---- the tests

pub on_one_track : (m n track : Name) (p q : Parts) → IsOnTrack track m p → IsOnTrack track n q → same_track m n ≡ true
on_one_track m n track p q a b =
    let x = read_on m track p a in
    let y = read_on n track q b in
    let s = seam (before_at m) (before_at n) x.text y.text (none_before m) (none_before n) (sym x.key ∙ y.key) in
    let agreed = numbers_of_text p q x.text (valid_in m p x.version) (valid_in n q y.version) x.names (y.names ∙ ap Some (sym s.1)) in
    both_true ((bytes_eq-Decides (before_at m) (before_at n)).1 s.0)
    (ap (λ o. tracks_agree o (version_of n)) x.version ∙ ap (tracks_agree (Some p)) y.version ∙ agreed)

pub is_compatible : (m n : Name) → AreCompatible m n → compatible m n ≡ true
is_compatible m n (inl e) = or_left (bytes_eq m n) (same_track m n) ((bytes_eq-Decides m n).1 e)
is_compatible m n (inr s) = or_right (bytes_eq m n) (same_track m n) (on_one_track m n s.0 s.1 s.2 s.3 s.4)

pub later_on_track : (m n : Name) → IsLater m n → is_later m n ≡ true
later_on_track m n s =
    let x = read_on m s.0 s.1 s.3 in
    let y = read_on n s.0 s.2 s.4 in
    both_true (on_one_track m n s.0 s.1 s.2 s.3 s.4)
    (ap (λ o. later_version o (version_of n)) x.version ∙ ap (later_version (Some s.1)) y.version ∙ ap is_greater s.5)
