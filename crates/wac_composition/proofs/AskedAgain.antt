-- An ask that comes again changes no class and no spelling.
use Rattle.std.specs.Prelude.{◌==◌, cond, filter, find, option_map, unwrap_or, bytes_eq, if◌then◌else◌, ◌&&◌, ◌||◌}
use Rattle.std.proofs.lemmas.Bool.{and_parts}
use Rattle.std.specs.Cmp.Derive.{both_true}
use Rattle.std.specs.List.{list_any}
use Rattle.std.specs.declared.cmp.Ordering.{Ordering}
use Rattle.std.proofs.lemmas.Slice.Eq.{bytes_eq-Decides}
use Rattle.std.proofs.lemmas.Bool.Decides.{Decides-eqb}
use Rattle.std.proofs.lemmas.List.{map-append}
use Rattle.std.proofs.Common.{◌≡◌, ℕ, List, [], ◌∷◌, ◌++◌, map, Bool, true, false, true≢false, Option, Some, None, ◌⊎◌, inl, inr, refl, sym, ap, subst, ◌∙◌}
use Rattle.semver.specs.Parse.{Parts}
use Rattle.wac_types_base.specs.Entries.{Name}
use Rattle.wac_types_base.specs.Graph.{Among}
use Rattle.wac_types_base.specs.Stated.{kind_of, identifier_of}
use Rattle.wac_types_base.proofs.Lists.{among_mapped}
use Rattle.wac_types_names.specs.Tracks.{before_at, version_of}
use Rattle.wac_types_names.specs.Versions.{version_cmp}
use Rattle.wac_types_names.proofs.VersionOrder.{greater_trans, not_above_self}
use Rattle.wac_composition.specs.Names.{track_number, numbers_agree, tracks_agree, same_track, compatible, is_greater, later_version, is_later, greatest}
use Rattle.wac_types_names.specs.InterfaceNames.{is_interface_name}
use Rattle.wac_composition.specs.Asks.{Ask}
use Rattle.wac_composition.specs.Classes.{same_text, identifier_asked, class, Linked, itself, joined_to, spelled, spelling, is_instance_kind, akin}
use Rattle.wac_composition.specs.Merging.{Asked, kept}
use Rattle.wac_composition.specs.OuterImports.{asked_in}
use Rattle.wac_composition.specs.Again.{IsWell, KeepsClasses, Asked_again}
use Rattle.wac_composition.proofs.Again.{asking_twice}
use Rattle.wac_composition.proofs.Closures.{any_among, among_any, filter_among, among_filter, filter_same, closed}
use Rattle.wac_composition.proofs.OuterClasses.{itself as joined_itself, turned, class_is, class_itself}
use Rattle.wac_composition.proofs.ClassLaws.{in_class_linked, linked_in_class}
use Rattle.wac_composition.proofs.Lists.{mapped_among}
use Rattle.wac_types_fit.proofs.Caching.{found-among}

-- ---- later names

numbers_through : (o u v : Option (ℕ × ℕ)) → numbers_agree o u ≡ true → numbers_agree u v ≡ true → numbers_agree o v ≡ true
numbers_through (Some a) (Some b) (Some c) e f =
    let x = and_parts (a.0 == b.0) (a.1 == b.1) e in
    let y = and_parts (b.0 == c.0) (b.1 == c.1) f in
    both_true ((Decides-eqb a.0 c.0).1 ((Decides-eqb a.0 b.0).0 x.0 ∙ (Decides-eqb b.0 c.0).0 y.0)) ((Decides-eqb a.1 c.1).1 ((Decides-eqb a.1 b.1).0 x.1 ∙ (Decides-eqb b.1 c.1).0 y.1))
numbers_through (Some a) (Some b) None e f = absurd (true≢false (sym f))
numbers_through (Some a) None v e f = absurd (true≢false (sym e))
numbers_through None u v e f = absurd (true≢false (sym e))

tracks_through : (o u v : Option Parts) → tracks_agree o u ≡ true → tracks_agree u v ≡ true → tracks_agree o v ≡ true
tracks_through (Some p) (Some q) (Some r) e f = numbers_through (track_number p) (track_number q) (track_number r) e f
tracks_through (Some p) (Some q) None e f = absurd (true≢false (sym f))
tracks_through (Some p) None v e f = absurd (true≢false (sym e))
tracks_through None u v e f = absurd (true≢false (sym e))

track_through : (k m n : Name) → same_track k m ≡ true → same_track m n ≡ true → same_track k n ≡ true
track_through k m n e f =
    let x = and_parts (bytes_eq (before_at k) (before_at m)) (tracks_agree (version_of k) (version_of m)) e in
    let y = and_parts (bytes_eq (before_at m) (before_at n)) (tracks_agree (version_of m) (version_of n)) f in
    both_true
    ((bytes_eq-Decides (before_at k) (before_at n)).1 ((bytes_eq-Decides (before_at k) (before_at m)).0 x.0 ∙ (bytes_eq-Decides (before_at m) (before_at n)).0 y.0))
    (tracks_through (version_of k) (version_of m) (version_of n) x.1 y.1)

pub greater_is : (o : Ordering) → is_greater o ≡ true → o ≡ Ordering.Greater
greater_is Ordering.Greater e = refl
greater_is Ordering.Less e = absurd (true≢false (sym e))
greater_is Ordering.Equal e = absurd (true≢false (sym e))

version_through : (o u v : Option Parts) → later_version o u ≡ true → later_version u v ≡ true → later_version o v ≡ true
version_through (Some p) (Some q) (Some r) e f = ap is_greater (greater_trans p q r (greater_is (version_cmp p q) e) (greater_is (version_cmp q r) f))
version_through (Some p) (Some q) None e f = absurd (true≢false (sym f))
version_through (Some p) None v e f = absurd (true≢false (sym e))
version_through None u v e f = absurd (true≢false (sym e))

later_through : (k m n : Name) → is_later k m ≡ true → is_later m n ≡ true → is_later k n ≡ true
later_through k m n e f =
    let x = and_parts (same_track k m) (later_version (version_of k) (version_of m)) e in
    let y = and_parts (same_track m n) (later_version (version_of m) (version_of n)) f in
    both_true (track_through k m n x.0 y.0) (version_through (version_of k) (version_of m) (version_of n) x.1 y.1)

not_later_version : (o : Option Parts) → later_version o o ≡ true → ⊥
not_later_version (Some p) e = not_above_self p (greater_is (version_cmp p p) e)
not_later_version None e = true≢false (sym e)

later_itself : (n : Name) → is_later n n ≡ false
later_itself n = go (is_later n n) refl
  where
    go : (b : Bool) → is_later n n ≡ b → b ≡ false
    go true e = absurd (not_later_version (version_of n) (and_parts (same_track n n) (later_version (version_of n) (version_of n)) e).1)
    go false e = refl

-- what is not later than the first is not later than the greatest
below_greatest : (k m : Name) (ns : List Name) → is_later k m ≡ false → is_later k (greatest m ns) ≡ false
below_greatest k m [] e = e
below_greatest k m (n ∷ ns) e = below_greatest k (if is_later n m then n else m) ns (go (is_later n m) refl)
  where
    no : is_later n m ≡ true → (b : Bool) → is_later k n ≡ b → b ≡ false
    no f true q = absurd (true≢false (sym (later_through k n m q f) ∙ e))
    no f false q = refl

    go : (b : Bool) → is_later n m ≡ b → is_later k (if b then n else m) ≡ false
    go true f = no f (is_later k n) refl
    go false f = e

not_later : (n m : Name) (ns : List Name) → Among n (m ∷ ns) → is_later n (greatest m ns) ≡ false
not_later n m ns (inl e) = subst (λ k. is_later k (greatest m ns) ≡ false) (sym e) (below_greatest m m ns (later_itself m))
not_later n m [] (inr k) = absurd k
not_later n m (o ∷ ns) (inr (inr k)) = not_later n (if is_later o m then o else m) ns (inr k)
not_later n m (o ∷ ns) (inr (inl e)) = subst (λ k. is_later k (greatest (if is_later o m then o else m) ns) ≡ false) (sym e) (below_greatest o (if is_later o m then o else m) ns (go (is_later o m) refl))
  where
    go : (b : Bool) → is_later o m ≡ b → is_later o (if b then o else m) ≡ false
    go true f = later_itself o
    go false f = f

greatest_append : (m : Name) (ns ks : List Name) → greatest m (ns ++ ks) ≡ greatest (greatest m ns) ks
greatest_append m [] ks = refl
greatest_append m (n ∷ ns) ks = greatest_append (if is_later n m then n else m) ns ks

greatest_again : (n m : Name) (ns ks : List Name) → Among n (m ∷ ns) → greatest m (ns ++ n ∷ ks) ≡ greatest m (ns ++ ks)
greatest_again n m ns ks k =
    greatest_append m ns (n ∷ ks) ∙ ap (λ b. greatest (if b then n else greatest m ns) ks) (not_later n m ns k) ∙ sym (greatest_append m ns ks)

-- ---- lists

pub filter_append : {X : Type 0} (p : X → Bool) (xs ys : List X) → filter p (xs ++ ys) ≡ filter p xs ++ filter p ys
filter_append p [] ys = refl
filter_append p (x ∷ xs) ys = go (filter_append p xs ys) (p x)
  where
    go : filter p (xs ++ ys) ≡ filter p xs ++ filter p ys → (b : Bool) → cond b (x ∷ filter p (xs ++ ys)) (filter p (xs ++ ys)) ≡ cond b (x ∷ filter p xs) (filter p xs) ++ filter p ys
    go e true = ap (λ l. x ∷ l) e
    go e false = e

find_again : {X : Type 0} (p : X → Bool) (xs ys : List X) (a b : X) → Among b xs → p b ≡ p a → find p (xs ++ a ∷ ys) ≡ find p (xs ++ ys)
find_again p [] ys a b m e = absurd m
find_again p (x ∷ xs) ys a b m e = go (λ k. find_again p xs ys a b k e) m (p x) refl
  where
    behind : (zs : List _) → p a ≡ false → find p (zs ++ a ∷ ys) ≡ find p (zs ++ ys)
    behind [] f = ap (λ c. cond c (Some a) (find p ys)) f
    behind (z ∷ zs) f = ap (λ o. cond (p z) (Some z) o) (behind zs f)

    go : (Among b xs → find p (xs ++ a ∷ ys) ≡ find p (xs ++ ys)) → Among b (x ∷ xs) → (c : Bool) → p x ≡ c → cond c (Some x) (find p (xs ++ a ∷ ys)) ≡ cond c (Some x) (find p (xs ++ ys))
    go rest k true q = refl
    go rest (inr k) false q = rest k
    go rest (inl d) false q = behind xs (sym e ∙ ap p d ∙ q)

module _ {X : Type 0} (before after : List X) (a : X) where
  pub among_more : (x : X) → Among x (before ++ after) → Among x (before ++ a ∷ after)
  among_more = go before
    where
      go : (bs : List X) (x : X) → Among x (bs ++ after) → Among x (bs ++ a ∷ after)
      go [] x m = inr m
      go (b ∷ bs) x (inl e) = inl e
      go (b ∷ bs) x (inr m) = inr (go bs x m)

  pub among_fewer : (x : X) → Among x (before ++ a ∷ after) → Among x (before ++ after) ⊎ (x ≡ a)
  among_fewer = go before
    where
      go : (bs : List X) (x : X) → Among x (bs ++ a ∷ after) → Among x (bs ++ after) ⊎ (x ≡ a)
      go [] x (inl e) = inr e
      go [] x (inr m) = inl m
      go (b ∷ bs) x (inl e) = inl (inl e)
      go (b ∷ bs) x (inr m) = elim (go bs x m) [ inl k ↦ inl (inr k) | inr e ↦ inr e ]

pub among_first : {X : Type 0} (xs ys : List X) (x : X) → Among x xs → Among x (xs ++ ys)
among_first [] ys x m = absurd m
among_first (z ∷ xs) ys x (inl e) = inl e
among_first (z ∷ xs) ys x (inr m) = inr (among_first xs ys x m)

-- ---- spellings and what is kept

module _ {A : Type 0} where
  abbrev name_in : Ask A → Name
  name_in a = a.name

  pub spelled_again : (xs ys : List (Ask A)) (a b : Ask A) → Among b xs → b.name ≡ a.name → spelled (xs ++ a ∷ ys) ≡ spelled (xs ++ ys)
  spelled_again [] ys a b m e = absurd m
  spelled_again (x ∷ xs) ys a b m e =
      ap (greatest x.name) (map-append name_in xs (a ∷ ys))
      ∙ greatest_again a.name x.name (map name_in xs) (map name_in ys) (subst (λ n. Among n (x.name ∷ map name_in xs)) e (among_mapped name_in (x ∷ xs) b m))
      ∙ ap (greatest x.name) (sym (map-append name_in xs ys))

  abbrev pair_in : Ask A → Asked
  pair_in a = (a.name, a.item)

  pub kept_again : (xs ys : List (Ask A)) (a b : Ask A) → Among b xs → b.name ≡ a.name → b.item ≡ a.item → ((c : Ask A) → Among c xs → IsWell c.item) → kept (asked_in (xs ++ a ∷ ys)) ≡ kept (asked_in (xs ++ ys))
  kept_again xs ys a b m e f v =
      ap kept (map-append pair_in xs (a ∷ ys))
      ∙ asking_twice (asked_in xs) (asked_in ys) (pair_in a) (subst (λ p. Among p (asked_in xs)) (λ i. (e i, f i)) (among_mapped pair_in xs b m))
      (λ p k. let r = mapped_among pair_in xs p k in subst (λ (q : Asked). IsWell q.1) (sym r.2) (v r.0 r.1))
      ∙ ap kept (sym (map-append pair_in xs ys))

  class_filter : (asks : List (Ask A)) (c : Ask A) → Among c asks → class asks c ≡ filter (λ d. list_any (akin d) (class asks c)) asks
  class_filter asks c there =
      class_is asks c ∙ sym (closed akin asks joined_itself turned c there) ∙ ap (λ ms. filter (λ d. list_any (akin d) ms) asks) (sym (class_is asks c))

  module _ (before after : List (Ask A)) (a b : Ask A) (there : Among b before) (names : b.name ≡ a.name) (items : b.item ≡ a.item) where
    abbrev pub asks : List (Ask A)
    asks = before ++ after

    abbrev pub more : List (Ask A)
    more = before ++ a ∷ after

    same_asked : identifier_asked b ≡ identifier_asked a
    same_asked = λ j. if is_instance_kind (kind_of (items j)) && is_interface_name (names j) then identifier_of (items j) else None

    joined_twin : (d : Ask A) → akin d a ≡ true → akin d b ≡ true
    joined_twin d e = (λ j. compatible d.name (names j) || same_text (identifier_asked d) (same_asked j)) ∙ e

    module _ (c : Ask A) (own : Among c asks) where
      abbrev pub P : Ask A → Bool
      P d = list_any (akin d) (class asks c)

      passes_twin : P b ≡ P a
      passes_twin = λ j. list_any (λ x. compatible (names j) x.name || same_text (same_asked j) (identifier_asked x)) (class asks c)

      in_class : (d : Ask A) → Among d asks → P d ≡ true → Among d (class asks c)
      in_class d m p = subst (Among d) (sym (class_filter asks c own)) (among_filter P asks d m p)

      spread : (e d : Ask A) → Among e more → P e ≡ true → akin d e ≡ true → P d ≡ true
      spread e d m p j = elim (among_fewer before after a e m) [
        | inl k ↦ among_any (akin d) (class asks c) e (in_class e k p) j
        | inr q ↦
            let p_twin : P b ≡ true = passes_twin ∙ ap P (sym q) ∙ p in
            among_any (akin d) (class asks c) b (in_class b (among_first before after b there) p_twin) (joined_twin d (subst (λ x. akin d x ≡ true) q j))
      ]

      linked_passes : (d : Ask A) → Linked more c d → Among d more × (P d ≡ true)
      linked_passes d itself = (among_more before after a c own, among_any (akin c) (class asks c) c (class_itself asks c own) (joined_itself c))
      linked_passes f (joined_to e d l n j) = let r = linked_passes e l in (n, spread e d r.0 r.1 j)

      more_linked : (d : Ask A) → Linked asks c d → Linked more c d
      more_linked d itself = itself
      more_linked f (joined_to e d l n j) = joined_to e d (more_linked e l) (among_more before after a d n) j

      own_more : Among c more
      own_more = among_more before after a c own

      class_more : class more c ≡ filter P more
      class_more = class_filter more c own_more ∙ filter_same (λ d. list_any (akin d) (class more c)) P more
          (λ d m e. let x = any_among (akin d) (class more c) e in
          let l = linked_passes x.0 (in_class_linked more c x.0 own_more x.1) in
          spread x.0 d l.0 l.1 x.2)
          (λ d m e. let x = any_among (akin d) (class asks c) e in
          among_any (akin d) (class more c) x.0 (linked_in_class more c x.0 own_more (more_linked x.0 (in_class_linked asks c x.0 own x.1))) x.2)

      pub parts_asks : class asks c ≡ filter P before ++ filter P after
      parts_asks = class_filter asks c own ∙ filter_append P before after

      parts_more : class more c ≡ filter P before ++ cond (P a) (a ∷ filter P after) (filter P after)
      parts_more = class_more ∙ filter_append P before (a ∷ after)

      pub class_changes : (F : List (Ask A) → Type 0) → (P a ≡ true → F (filter P before ++ a ∷ filter P after)) → (P a ≡ false → F (class asks c)) → F (class more c)
      class_changes F g h = go (P a) refl
        where
          go : (k : Bool) → P a ≡ k → F (class more c)
          go true q = subst F (sym (parts_more ∙ ap (λ k. filter P before ++ cond k (a ∷ filter P after) (filter P after)) q)) (g q)
          go false q = subst F (parts_asks ∙ sym (parts_more ∙ ap (λ k. filter P before ++ cond k (a ∷ filter P after) (filter P after)) q)) (h q)

      pub twin_there : P a ≡ true → Among b (filter P before)
      twin_there q = among_filter P before b there (passes_twin ∙ q)

      class_spelled : spelled (class more c) ≡ spelled (class asks c)
      class_spelled = class_changes (λ ms. spelled ms ≡ spelled (class asks c))
          (λ q. spelled_again (filter P before) (filter P after) a b (twin_there q) names ∙ ap spelled (sym parts_asks))
          (λ q. refl)

      class_kept : ((d : Ask A) → Among d before → IsWell d.item) → kept (asked_in (class more c)) ≡ kept (asked_in (class asks c))
      class_kept v = class_changes (λ ms. kept (asked_in ms) ≡ kept (asked_in (class asks c)))
          (λ q. kept_again (filter P before) (filter P after) a b (twin_there q) names items (λ d m. v d (filter_among P before d m).0) ∙ ap (λ ms. kept (asked_in ms)) (sym parts_asks))
          (λ q. refl)

    spelling_again : (n : Name) → spelling more n ≡ spelling asks n
    spelling_again n =
        ap (λ o. unwrap_or (option_map (λ d. spelled (class more d)) o) n) (find_again (λ d. bytes_eq d.name n) before after a b there (ap (λ m. bytes_eq m n) names))
        ∙ go (find (λ d. bytes_eq d.name n) asks) refl
      where
        go : (o : Option (Ask A)) → find (λ d. bytes_eq d.name n) asks ≡ o → unwrap_or (option_map (λ d. spelled (class more d)) o) n ≡ unwrap_or (option_map (λ d. spelled (class asks d)) o) n
        go None e = refl
        go (Some d) e = class_spelled d (found-among (λ d. bytes_eq d.name n) asks d e)

    again : ((d : Ask A) → Among d before → IsWell d.item) → KeepsClasses asks more
    again v = record {
      classes = λ c d m n. (
        λ k. subst (Among d) (sym (class_filter asks c m)) (among_filter (P c m) asks d n (filter_among (P c m) more d (subst (Among d) (class_more c m) k)).1),
        λ k. linked_in_class more c d (among_more before after a c m) (more_linked c m d (in_class_linked asks c d m k)),
      );
      kept = λ c m. class_kept c m v;
      spelled = spelling_again;
    }

pub asked_again : {A : Type 0} → Asked_again A
asked_again before after a b m e f v = again before after a b m e f v
