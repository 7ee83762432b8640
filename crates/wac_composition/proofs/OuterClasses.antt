-- The outer import of an ask: under the spelling of its class there is one, and it fits the ask.
use Rattle.std.specs.Prelude.{◌==◌, option_map, unwrap_or, is_some, find, cond, bytes_eq, if◌then◌else◌}
use Rattle.std.proofs.lemmas.Bool.{and_parts, or_right, or_cases, or_left}
use Rattle.std.specs.Cmp.Derive.{both_true}
use Rattle.std.proofs.lemmas.Option.{none-some, same_Some}
use Rattle.std.specs.Cmp.Lexicographic.{pointwise}
use Rattle.std.proofs.lemmas.Slice.Eq.{bytes_eq-Decides}
use Rattle.std.proofs.lemmas.Bool.Decides.{Decides-eqb}
use Rattle.std.proofs.Common.{◌≡◌, ℕ, zero, suc, List, [], ◌∷◌, ◌++◌, map, length, Bool, true, false, true≢false, Option, Some, None, ◌⊎◌, inl, inr, refl, sym, ap, subst, ◌∙◌}
use Rattle.semver.specs.Parse.{Parts}
use Rattle.wac_types_base.proofs.Lists.{value_append, value_behind}
use Rattle.wac_types_base.specs.Entries.{Name, value_at}
use Rattle.wac_types_base.specs.Graph.{Among}
use Rattle.wac_types_base.specs.Stated.{Stated}
use Rattle.wac_types_base.specs.Tree.{tree}
use Rattle.wac_types_base.specs.Fits.{Fits}
use Rattle.wac_types_names.specs.Tracks.{before_at, version_of}
use Rattle.wac_composition.specs.Names.{track_number, numbers_agree, tracks_agree, same_track, compatible, is_later, greatest}
use Rattle.wac_composition.specs.Asks.{Ask}
use Rattle.wac_composition.specs.Classes.{same_text, identifier_asked, near, within_steps, class, spelled, spelling, akin}
use Rattle.wac_composition.specs.Merging.{kept, identified}
use Rattle.wac_composition.specs.OuterImports.{asked_in, with_new, outer_of, outers_from, outer_imports}
use Rattle.wac_composition.proofs.KeptFits.{outer_fits}
use Rattle.wac_composition.proofs.Closures.{steps, reached, reached_within, reached_itself, reached_next, reached_same}

-- ---- asks are akin to themselves, and both ways

names_itself : (n : Name) → bytes_eq n n ≡ true
names_itself n = (bytes_eq-Decides n n).1 refl

names_turned : (m n : Name) → bytes_eq m n ≡ true → bytes_eq n m ≡ true
names_turned m n e = (bytes_eq-Decides n m).1 (sym ((bytes_eq-Decides m n).0 e))

number_turned : (a b : ℕ) → (a == b) ≡ true → (b == a) ≡ true
number_turned a b e = (Decides-eqb b a).1 (sym ((Decides-eqb a b).0 e))

numbers_turned : (o u : Option (ℕ × ℕ)) → numbers_agree o u ≡ true → numbers_agree u o ≡ true
numbers_turned (Some a) (Some b) e =
    let h = and_parts (a.0 == b.0) (a.1 == b.1) e in
    both_true (number_turned a.0 b.0 h.0) (number_turned a.1 b.1 h.1)
numbers_turned None u e = absurd (cc e)
numbers_turned (Some a) None e = absurd (cc e)

tracks_turned : (o u : Option Parts) → tracks_agree o u ≡ true → tracks_agree u o ≡ true
tracks_turned (Some p) (Some q) e = numbers_turned (track_number p) (track_number q) e
tracks_turned None u e = absurd (cc e)
tracks_turned (Some p) None e = absurd (cc e)

track_turned : (m n : Name) → same_track m n ≡ true → same_track n m ≡ true
track_turned m n e =
    let h = and_parts (bytes_eq (before_at m) (before_at n)) (tracks_agree (version_of m) (version_of n)) e in
    both_true (names_turned (before_at m) (before_at n) h.0) (tracks_turned (version_of m) (version_of n) h.1)

compatible_turned : (m n : Name) → compatible m n ≡ true → compatible n m ≡ true
compatible_turned m n e = elim (or_cases (bytes_eq m n) (same_track m n) e) [
  | inl h ↦ or_left (bytes_eq n m) (same_track n m) (names_turned m n h)
  | inr h ↦ or_right (bytes_eq n m) (same_track n m) (track_turned m n h)
]

text_turned : (o u : Option Name) → same_text o u ≡ true → same_text u o ≡ true
text_turned (Some m) (Some n) e = names_turned m n e
text_turned None u e = absurd (cc e)
text_turned (Some m) None e = absurd (cc e)

-- asks of one name are akin
pub joined_by_name : {A : Type 0} (a b : Ask A) → a.name ≡ b.name → akin a b ≡ true
joined_by_name a b e =
    or_left (compatible a.name b.name) (same_text (identifier_asked a) (identifier_asked b)) (or_left (bytes_eq a.name b.name) (same_track a.name b.name) ((bytes_eq-Decides a.name b.name).1 e))

pub itself : {A : Type 0} (a : Ask A) → akin a a ≡ true
itself a = joined_by_name a a refl

pub turned : {A : Type 0} (a b : Ask A) → akin a b ≡ true → akin b a ≡ true
turned a b e = elim (or_cases (compatible a.name b.name) (same_text (identifier_asked a) (identifier_asked b)) e) [
  | inl h ↦ or_left (compatible b.name a.name) (same_text (identifier_asked b) (identifier_asked a)) (compatible_turned a.name b.name h)
  | inr h ↦ or_right (compatible b.name a.name) (same_text (identifier_asked b) (identifier_asked a)) (text_turned (identifier_asked a) (identifier_asked b) h)
]

-- ---- classes

module _ {A : Type 0} (asks : List (Ask A)) where
  steps_are : (k : ℕ) (ms : List (Ask A)) → within_steps k asks ms ≡ steps akin asks k ms
  steps_are zero ms = refl
  steps_are (suc k) ms = steps_are k (near asks ms)

  pub class_is : (a : Ask A) → class asks a ≡ reached akin asks itself turned a
  unfolding reached
  class_is a = steps_are (length asks) (a ∷ [])

  -- asks of one class have one class
  pub class_same : (a b : Ask A) → Among a asks → Among b (class asks a) → class asks a ≡ class asks b
  class_same a b there m = class_is a ∙ reached_same akin asks itself turned a b there (subst (Among b) (class_is a) m) ∙ sym (class_is b)

  pub within : (a b : Ask A) → Among a asks → Among b (class asks a) → Among b asks
  within a b there m = reached_within akin asks itself turned a b there (subst (Among b) (class_is a) m)

  pub class_itself : (a : Ask A) → Among a asks → Among a (class asks a)
  class_itself a there = subst (Among a) (sym (class_is a)) (reached_itself akin asks itself turned a there)

  -- asks of one name have one class
  pub class_by_name : (a b : Ask A) → Among a asks → Among b asks → a.name ≡ b.name → class asks a ≡ class asks b
  class_by_name a b there m e =
      class_same a b there (subst (Among b) (sym (class_is a)) (reached_next akin asks itself turned a b a there m (reached_itself akin asks itself turned a there) (joined_by_name b a (sym e))))

  -- ---- spellings

  greatest_among : (m : Name) (as_ : List (Ask A)) → (greatest m (map (λ b. b.name) as_) ≡ m) ⊎ ((b : Ask A) × Among b as_ × (b.name ≡ greatest m (map (λ b. b.name) as_)))
  greatest_among m [] = inl refl
  greatest_among m (a ∷ as_) = go (is_later a.name m) (greatest_among a.name as_) (greatest_among m as_)
    where
      go : (t : Bool) → (greatest a.name (map (λ b. b.name) as_) ≡ a.name) ⊎ ((b : Ask A) × Among b as_ × (b.name ≡ greatest a.name (map (λ b. b.name) as_))) → (greatest m (map (λ b. b.name) as_) ≡ m) ⊎ ((b : Ask A) × Among b as_ × (b.name ≡ greatest m (map (λ b. b.name) as_)))
          → (greatest (if t then a.name else m) (map (λ b. b.name) as_) ≡ m) ⊎ ((b : Ask A) × Among b (a ∷ as_) × (b.name ≡ greatest (if t then a.name else m) (map (λ b. b.name) as_)))
      go true (inl e) r = inr (a, inl refl, sym e)
      go true (inr h) r = inr (h.0, inr h.1, h.2)
      go false l (inl e) = inl e
      go false l (inr h) = inr (h.0, inr h.1, h.2)

  -- the spelling is a name that is asked in the class
  spelled_among : (as_ : List (Ask A)) (a : Ask A) → Among a as_ → (b : Ask A) × Among b as_ × (b.name ≡ spelled as_)
  spelled_among [] a m = absurd m
  spelled_among (b ∷ as_) a m = elim (greatest_among b.name as_) [
    | inl e ↦ (b, inl refl, sym e)
    | inr h ↦ (h.0, inr h.1, h.2)
  ]

  -- classes of one spelling are one
  pub class_by_spelling : (a b : Ask A) → Among a asks → Among b asks → spelled (class asks a) ≡ spelled (class asks b) → class asks a ≡ class asks b
  class_by_spelling a b m n e =
      let c = spelled_among (class asks a) a (class_itself a m) in
      let d = spelled_among (class asks b) b (class_itself b n) in
      class_same a c.0 m c.1 ∙ class_by_name c.0 d.0 (within a c.0 m c.1) (within b d.0 n d.1) (c.2 ∙ e ∙ sym d.2) ∙ sym (class_same b d.0 n d.1)

  -- ---- the list of outer imports

  -- each is that of an ask
  abbrev pub AreOfAsks : List (Name × Stated) → Type 0
  AreOfAsks found = (n : Name) (x : Stated) → value_at found n ≡ Some x → (b : Ask A) × Among b asks × (outer_of (class asks b) ≡ Some (n, x)) × (n ≡ spelled (class asks b))

  value_last : (xs : List (Name × Stated)) (m : Name) (y : Stated) (n : Name) (x : Stated) → value_at (xs ++ (m, y) ∷ []) n ≡ Some x → (value_at xs n ≡ Some x) ⊎ ((n ≡ m) × (y ≡ x))
  value_last [] m y n x e = go (pointwise ◌==◌ n m) refl e
    where
      go : (b : Bool) → pointwise ◌==◌ n m ≡ b → (if b then Some y else None) ≡ Some x → (None ≡ Some x) ⊎ ((n ≡ m) × (y ≡ x))
      go true q e = inr ((bytes_eq-Decides n m).0 q, same_Some _ _ e)
      go false q e = absurd (none-some _ e)
  value_last (z ∷ xs) m y n x e = go (value_last xs m y n x) (pointwise ◌==◌ n z.0) e
    where
      go : (value_at (xs ++ (m, y) ∷ []) n ≡ Some x → (value_at xs n ≡ Some x) ⊎ ((n ≡ m) × (y ≡ x))) → (b : Bool) → (if b then Some z.1 else value_at (xs ++ (m, y) ∷ []) n) ≡ Some x → ((if b then Some z.1 else value_at xs n) ≡ Some x) ⊎ ((n ≡ m) × (y ≡ x))
      go rest true q = inl q
      go rest false q = rest q

  value_there : (xs : List (Name × Stated)) (m : Name) (y : Stated) → value_at xs m ≡ None → value_at (xs ++ (m, y) ∷ []) m ≡ Some y
  value_there xs m y e = value_behind xs ((m, y) ∷ []) m e ∙ ap (λ (b : Bool). if b then Some y else None) (names_itself m)

  -- under an outer import's name, no other one
  one_outer : (a b : Ask A) (n : Name) (x y : Stated) → Among a asks → Among b asks → outer_of (class asks a) ≡ Some (n, x) → outer_of (class asks b) ≡ Some (n, y) → n ≡ spelled (class asks a) → n ≡ spelled (class asks b) → x ≡ y
  one_outer a b n x y m k e f p q =
      let same = class_by_spelling a b m k (sym p ∙ q) in
      ap (λ (z : Name × Stated). z.1) (same_Some _ _ (sym e ∙ ap outer_of same ∙ f))

  pub spelled_outer : (as_ : List (Ask A)) (n : Name) (x : Stated) → outer_of as_ ≡ Some (n, x) → n ≡ spelled as_
  spelled_outer as_ n x e = go (kept (asked_in as_)) e
    where
      go : (o : Option Stated) → option_map {U = Name × Stated} (λ (z : Stated). (spelled as_, identified (spelled as_) (asked_in as_) z)) o ≡ Some (n, x) → n ≡ spelled as_
      go None q = absurd (none-some _ q)
      go (Some z) q = sym (ap (λ (w : Name × Stated). w.0) (same_Some _ _ q))

  -- what one more ask adds
  record Added (found more : List (Name × Stated)) (a : Ask A) : Type 0 where
    of_asks : AreOfAsks more
    kept : (n : Name) (x : Stated) → value_at found n ≡ Some x → value_at more n ≡ Some x
    there : (n : Name) (x : Stated) → outer_of (class asks a) ≡ Some (n, x) → value_at more n ≡ Some x

  added : (found : List (Name × Stated)) → AreOfAsks found → (a : Ask A) → Among a asks → Added found (with_new found (outer_of (class asks a))) a
  added found h a m = go (outer_of (class asks a)) refl
    where
      new : (n : Name) (x : Stated) → outer_of (class asks a) ≡ Some (n, x) → (o : Option Stated) → value_at found n ≡ o → Added found (if is_some o then found else found ++ (n, x) ∷ []) a
      new n x e (Some y) q = record {
        of_asks = h;
        kept = λ k z r. r;
        there = λ k z r.
            let own : (n, x) ≡ (k, z) = same_Some _ _ (sym e ∙ r) in
            let b = h n y q in
            let same : y ≡ x = one_outer b.0 a n y x b.1 m b.2 e b.3 (spelled_outer (class asks a) n x e) in
            subst (λ (w : Name × Stated). value_at found w.0 ≡ Some w.1) own (q ∙ ap Some same);
      }
      new n x e None q = record {
        of_asks = λ k z r. elim (value_last found n x k z r) [
          | inl f ↦ h k z f
          | inr f ↦ (a, m, e ∙ ap Some (λ i. (sym f.0 i, f.1 i)), f.0 ∙ spelled_outer (class asks a) n x e)
        ];
        kept = λ k z r. value_append found ((n, x) ∷ []) k z r;
        there = λ k z r.
            let own : (n, x) ≡ (k, z) = same_Some _ _ (sym e ∙ r) in
            subst (λ (w : Name × Stated). value_at (found ++ (n, x) ∷ []) w.0 ≡ Some w.1) own (value_there found n x q);
      }

      go : (o : Option (Name × Stated)) → outer_of (class asks a) ≡ o → Added found (with_new found o) a
      go None e = record { of_asks = h; kept = λ n x r. r; there = λ n x r. absurd (none-some _ (sym e ∙ r)) }
      go (Some o) e = new o.0 o.1 e (value_at found o.0) refl

  pub all_there : (found : List (Name × Stated)) (as_ : List (Ask A)) → AreOfAsks found → ((b : Ask A) → Among b as_ → Among b asks)
      → ((n : Name) (x : Stated) → value_at found n ≡ Some x → value_at (outers_from found asks as_) n ≡ Some x) × ((a : Ask A) (n : Name) (x : Stated) → Among a as_ → outer_of (class asks a) ≡ Some (n, x) → value_at (outers_from found asks as_) n ≡ Some x)
  all_there found [] h sub = (λ n x e. e, λ a n x m e. absurd m)
  all_there found (b ∷ as_) h sub =
      let one = added found h b (sub b (inl refl)) in
      let rest = all_there (with_new found (outer_of (class asks b))) as_ one.of_asks (λ c m. sub c (inr m)) in (
        λ n x e. rest.0 n x (one.kept n x e),
        λ a n x m e. elim m [
          | inl d ↦ rest.0 n x (one.there n x (ap (λ (c : Ask A). outer_of (class asks c)) (sym d) ∙ e))
          | inr k ↦ rest.1 a n x k e
        ],
      )

  all_of : (found : List (Name × Stated)) (as_ : List (Ask A)) → AreOfAsks found → ((b : Ask A) → Among b as_ → Among b asks) → AreOfAsks (outers_from found asks as_)
  all_of found [] h sub = h
  all_of found (b ∷ as_) h sub = all_of (with_new found (outer_of (class asks b))) as_ (added found h b (sub b (inl refl))).of_asks (λ c m. sub c (inr m))

  -- an outer import is that of an ask's class
  pub outer_of_ask : (n : Name) (x : Stated) → value_at (outer_imports asks) n ≡ Some x → (a : Ask A) × Among a asks × (outer_of (class asks a) ≡ Some (n, x))
  outer_of_ask n x e = let b = all_of [] asks (λ k z r. absurd (none-some _ r)) (λ b k. k) n x e in (b.0, b.1, b.2)

  -- two outer imports whose names are compatible are one
  apart : (n m : Name) (x y : Stated) → value_at (outer_imports asks) n ≡ Some x → value_at (outer_imports asks) m ≡ Some y → compatible n m ≡ true → n ≡ m
  apart n m x y e f h =
      let all = all_of [] asks (λ k z r. absurd (none-some _ r)) (λ b k. k) in
      let a = all n x e in
      let b = all m y f in
      let c = spelled_among (class asks a.0) a.0 (class_itself a.0 a.1) in
      let d = spelled_among (class asks b.0) b.0 (class_itself b.0 b.1) in
      let near_ : akin c.0 d.0 ≡ true = or_left (compatible c.0.name d.0.name) (same_text (identifier_asked c.0) (identifier_asked d.0)) (subst (λ k. compatible k d.0.name ≡ true) (sym (c.2 ∙ sym a.3)) (subst (λ k. compatible n k ≡ true) (sym (d.2 ∙ sym b.3)) h)) in
      let cs = within a.0 c.0 a.1 c.1 in
      let ds = within b.0 d.0 b.1 d.1 in
      let same = class_same d.0 c.0 ds (subst (Among c.0) (sym (class_is d.0)) (reached_next akin asks itself turned d.0 c.0 d.0 ds cs (reached_itself akin asks itself turned d.0 ds) near_)) in
      a.3 ∙ ap spelled (class_same a.0 c.0 a.1 c.1 ∙ sym same ∙ sym (class_same b.0 d.0 b.1 d.1)) ∙ sym b.3

  -- the spelling of an asked name is that of its class
  spelling_in : (a : Ask A) → Among a asks → (bs : List (Ask A)) → ((b : Ask A) → Among b bs → Among b asks) → Among a bs → unwrap_or (option_map (λ b. spelled (class asks b)) (find (λ b. bytes_eq b.name a.name) bs)) a.name ≡ spelled (class asks a)
  spelling_in a m [] sub k = absurd k
  spelling_in a m (b ∷ bs) sub k = go (λ n. spelling_in a m bs (λ c h. sub c (inr h)) n) (bytes_eq b.name a.name) refl k
    where
      go : (Among a bs → unwrap_or (option_map (λ c. spelled (class asks c)) (find (λ c. bytes_eq c.name a.name) bs)) a.name ≡ spelled (class asks a)) → (t : Bool) → bytes_eq b.name a.name ≡ t → Among a (b ∷ bs)
          → unwrap_or (option_map (λ c. spelled (class asks c)) (cond t (Some b) (find (λ c. bytes_eq c.name a.name) bs))) a.name ≡ spelled (class asks a)
      go rest true e k = ap spelled (class_by_name b a (sub b (inl refl)) m ((bytes_eq-Decides b.name a.name).0 e))
      go rest false e (inl d) = absurd (true≢false (sym ((bytes_eq-Decides b.name a.name).1 (ap (λ (c : Ask A). c.name) (sym d))) ∙ e))
      go rest false e (inr n) = rest n

  spelling_is : (a : Ask A) → Among a asks → spelling asks a.name ≡ spelled (class asks a)
  spelling_is a m = spelling_in a m asks (λ b k. k) m

pub asks_are_met : {A : Type 0} (asks : List (Ask A)) (a : Ask A) (n : Name) (x : Stated) → Among a asks → outer_of (class asks a) ≡ Some (n, x) → (spelling asks a.name ≡ n) × (value_at (outer_imports asks) n ≡ Some x) × Fits (tree x) (tree a.item)
asks_are_met asks a n x m e =
    let found = (all_there asks [] asks (λ k z r. absurd (none-some _ r)) (λ b k. k)).1 a n x m e in
    (spelling_is asks a m ∙ sym (spelled_outer asks (class asks a) n x e), found, outer_fits (class asks a) n x e a (class_itself asks a m))

pub outers_are_apart : {A : Type 0} (asks : List (Ask A)) (n m : Name) (x y : Stated) → value_at (outer_imports asks) n ≡ Some x → value_at (outer_imports asks) m ≡ Some y → compatible n m ≡ true → n ≡ m
outers_are_apart asks n m x y e f h = apart asks n m x y e f h
