-- Places in a list of kept entries.
use Rattle.std.proofs.Common.{◌≡◌, ℕ, zero, suc, ◌<◌, List, [], ◌∷◌, ◌++◌, length, Option, Some, None, Bool, true, false, ◌||◌, refl, sym, ap, subst, ◌∙◌, ◌⊎◌, inl, inr, arith, slice_get, slice_set, get_or, if◌then◌else◌, length-append}
use Rattle.std.specs.Prelude.{filter_map}
use Rattle.std.specs.List.{AllByRecursion, list_any, cons_option, IsDistinct}
use Rattle.std.proofs.lemmas.Bool.{or_cases, or_parts}
use Rattle.std.proofs.lemmas.Option.{get_or_from_slice_get}
use Rattle.indexmap.specs.IndexSet.{insert_key}
use Rattle.wac_types_base.specs.Graph.{Among}
use Rattle.wac_types_base.proofs.Looked.{among-get}
use Rattle.wac_types_base.specs.Entries.{AreDistinct, EachAmong}
use Rattle.wac_types_base.specs.Kept.{ArePlaces, KeepsOnce, was_kept, is_new}

module _ {T : Type 0} where
  -- what is at a place
  pub got : (xs : List T) (i : ℕ) → i < length xs → (x : T) × (slice_get xs i ≡ Some x)
  got [] i h = absurd (omega (arith, h))
  got (x ∷ xs) zero h = (x, refl)
  got (x ∷ xs) (suc i) h = got xs i (omega (arith, h))

  pub read : (xs : List T) (i : ℕ) (x : T) → i < length xs → x ≡ get_or xs i x → slice_get xs i ≡ Some x
  read xs i x h e = let g = got xs i h in g.1 ∙ ap Some (sym (e ∙ get_or_from_slice_get xs i g.0 x g.1))

  get_left : (ks ls : List T) (p : ℕ) (x : T) → slice_get ks p ≡ Some x → slice_get (ks ++ ls) p ≡ Some x
  get_left [] ls p x e = absurd (cc e)
  get_left (k ∷ ks) ls zero x e = e
  get_left (k ∷ ks) ls (suc p) x e = get_left ks ls p x e

  pub length_given : (ks : List T) (ps : List ℕ) → ArePlaces ks ps → length (filter_map (slice_get ks) ps) ≡ length ps
  length_given ks [] h = refl
  length_given ks (p ∷ ps) h =
      let g = got ks p h.0 in
      ap (λ o. length (cons_option o (filter_map (slice_get ks) ps))) g.1 ∙ ap (λ n. suc n) (length_given ks ps h.1)

  pub place_at : (ks : List T) (ps : List ℕ) (i p : ℕ) → ArePlaces ks ps → slice_get ps i ≡ Some p → p < length ks
  place_at ks [] i p h e = absurd (cc e)
  place_at ks (q ∷ ps) zero p h e = let same : q ≡ p = cc e in subst (λ n. n < length ks) same h.0
  place_at ks (q ∷ ps) (suc i) p h e = place_at ks ps i p h.1 e

  pub given_at : (ks : List T) (ps : List ℕ) (i p : ℕ) → ArePlaces ks ps → slice_get ps i ≡ Some p → slice_get (filter_map (slice_get ks) ps) i ≡ slice_get ks p
  given_at ks [] i p h e = absurd (cc e)
  given_at ks (q ∷ ps) zero p h e =
      let g = got ks q h.0 in
      let same : q ≡ p = cc e in
      ap (λ o. slice_get (cons_option o (filter_map (slice_get ks) ps)) 0) g.1 ∙ sym g.1 ∙ ap (slice_get ks) same
  given_at ks (q ∷ ps) (suc i) p h e =
      let g = got ks q h.0 in
      ap (λ o. slice_get (cons_option o (filter_map (slice_get ks) ps)) (suc i)) g.1 ∙ given_at ks ps i p h.1 e

  -- ---- where more is kept

  given_longer : (ks ls : List T) (ps : List ℕ) → ArePlaces ks ps → filter_map (slice_get (ks ++ ls)) ps ≡ filter_map (slice_get ks) ps
  given_longer ks ls [] h = refl
  given_longer ks ls (p ∷ ps) h =
      let g = got ks p h.0 in
      ap (λ o. cons_option o (filter_map (slice_get (ks ++ ls)) ps)) (get_left ks ls p g.0 g.1 ∙ sym g.1)
      ∙ ap (λ l. cons_option (slice_get ks p) l) (given_longer ks ls ps h.1)

  places_longer : (ks ls : List T) (ps : List ℕ) → ArePlaces ks ps → ArePlaces (ks ++ ls) ps
  places_longer ks ls [] h = tt
  places_longer ks ls (p ∷ ps) h = (omega (arith, h.0, length-append ks ls), places_longer ks ls ps h.1)

  pub once_given : (x : T) (ks new : List T) (ps : List ℕ) → KeepsOnce x ks new → ArePlaces ks ps → filter_map (slice_get new) ps ≡ filter_map (slice_get ks) ps
  once_given x ks new ps (was_kept m) h = refl
  once_given x ks new ps (is_new n) h = given_longer ks (x ∷ []) ps h

  pub once_places : (x : T) (ks new : List T) (ps : List ℕ) → KeepsOnce x ks new → ArePlaces ks ps → ArePlaces new ps
  once_places x ks new ps (was_kept m) h = h
  once_places x ks new ps (is_new n) h = places_longer ks (x ∷ []) ps h

  -- ---- one place more, and another place

  pub given_more : (ks : List T) (ps : List ℕ) (p : ℕ) (x : T) → slice_get ks p ≡ Some x → filter_map (slice_get ks) (ps ++ p ∷ []) ≡ filter_map (slice_get ks) ps ++ x ∷ []
  given_more ks [] p x e = ap (λ o. cons_option o []) e
  given_more ks (q ∷ ps) p x e = by (slice_get ks q) (given_more ks ps p x e)
    where
      by : (o : Option T) → filter_map (slice_get ks) (ps ++ p ∷ []) ≡ filter_map (slice_get ks) ps ++ x ∷ [] → cons_option o (filter_map (slice_get ks) (ps ++ p ∷ [])) ≡ cons_option o (filter_map (slice_get ks) ps) ++ x ∷ []
      by None h = h
      by (Some y) h = ap (λ l. y ∷ l) h

  pub places_more : (ks : List T) (ps : List ℕ) (p : ℕ) → ArePlaces ks ps → p < length ks → ArePlaces ks (ps ++ p ∷ [])
  places_more ks [] p h l = (l, tt)
  places_more ks (q ∷ ps) p h l = (h.0, places_more ks ps p h.1 l)

  pub given_set : (ks : List T) (ps : List ℕ) (i p : ℕ) (x : T) → ArePlaces ks ps → slice_get ks p ≡ Some x → filter_map (slice_get ks) (slice_set ps i p) ≡ slice_set (filter_map (slice_get ks) ps) i x
  given_set ks [] i p x h e = refl
  given_set ks (q ∷ ps) zero p x h e =
      let g = got ks q h.0 in
      ap (λ o. cons_option o (filter_map (slice_get ks) ps)) e ∙ sym (ap (λ o. slice_set (cons_option o (filter_map (slice_get ks) ps)) 0 x) g.1)
  given_set ks (q ∷ ps) (suc i) p x h e =
      let g = got ks q h.0 in
      ap (λ o. cons_option o (filter_map (slice_get ks) (slice_set ps i p))) g.1 ∙ ap (λ l. g.0 ∷ l) (given_set ks ps i p x h.1 e)
      ∙ sym (ap (λ o. slice_set (cons_option o (filter_map (slice_get ks) ps)) (suc i) x) g.1)

  pub places_set : (ks : List T) (ps : List ℕ) (i p : ℕ) → ArePlaces ks ps → p < length ks → ArePlaces ks (slice_set ps i p)
  places_set ks [] i p h l = tt
  places_set ks (q ∷ ps) zero p h l = (l, h.1)
  places_set ks (q ∷ ps) (suc i) p h l = (h.0, places_set ks ps i p h.1 l)

-- ---- where `==` is equality

module _ {T : Type 0} (eq : T → T → Bool) (one : (x y : T) → eq x y ≡ true → x ≡ y) (itself : (x : T) → eq x x ≡ true) where
  found : (x : T) (ks : List T) → list_any (eq x) ks ≡ true → Among x ks
  found x [] e = absurd (cc e)
  found x (k ∷ ks) e = elim (or_cases (eq x k) (list_any (eq x) ks) e) [ inl p ↦ inl (one x k p) | inr p ↦ inr (found x ks p) ]

  not_found : (x : T) (ks : List T) → list_any (eq x) ks ≡ false → Among x ks → ⊥
  not_found x [] e m = m
  not_found x (k ∷ ks) e (inl p) = let t : eq x k ≡ true = subst (λ y. eq x y ≡ true) p (itself x) in absurd (cc (t, (or_parts (eq x k) (list_any (eq x) ks) e).0))
  not_found x (k ∷ ks) e (inr m) = not_found x ks (or_parts (eq x k) (list_any (eq x) ks) e).1 m

  keeps_once : (x : T) (ks : List T) → KeepsOnce x ks (insert_key eq ks x)
  keeps_once x ks = by (list_any (eq x) ks) refl
    where
      by : (b : Bool) → list_any (eq x) ks ≡ b → KeepsOnce x ks (if b then ks else ks ++ x ∷ [])
      by true e = was_kept (found x ks e)
      by false e = is_new (not_found x ks e)

  -- what `insert_full` keeps
  pub inserts_once : (x : T) (ks new : List T) → new ≡ insert_key eq ks x → KeepsOnce x ks new
  inserts_once x ks new e = subst (KeepsOnce x ks) (sym e) (keeps_once x ks)

  off : (x : T) (ks : List T) → AllByRecursion (λ y. eq x y ≡ false) ks → Among x ks → ⊥
  off x [] h m = m
  off x (k ∷ ks) h (inl p) = let t : eq x k ≡ true = subst (λ y. eq x y ≡ true) p (itself x) in absurd (cc (t, h.0))
  off x (k ∷ ks) h (inr m) = off x ks h.1 m

  pub are_distinct : (ks : List T) → IsDistinct eq ks → AreDistinct ks
  unfolding IsDistinct
  are_distinct [] h = tt
  are_distinct (k ∷ ks) h = (off k ks h.0, are_distinct ks h.1)

-- an entry that is kept once has one place
pub one_place : {T : Type 0} (ks : List T) (p q : ℕ) (x : T) → AreDistinct ks → slice_get ks p ≡ Some x → slice_get ks q ≡ Some x → p ≡ q
one_place [] p q x d e f = absurd (cc e)
one_place (k ∷ ks) zero zero x d e f = refl
one_place (k ∷ ks) zero (suc q) x d e f = let same : k ≡ x = cc e in absurd (d.0 (subst (λ y. Among y ks) (sym same) (among-get ks q x f)))
one_place (k ∷ ks) (suc p) zero x d e f = let same : k ≡ x = cc f in absurd (d.0 (subst (λ y. Among y ks) (sym same) (among-get ks p x e)))
one_place (k ∷ ks) (suc p) (suc q) x d e f = ap (λ n. suc n) (one_place ks p q x d.1 e f)

-- what is given is kept
pub given_kept : {T : Type 0} (ks : List T) (ps : List ℕ) → ArePlaces ks ps → EachAmong ks (filter_map (slice_get ks) ps)
given_kept ks [] h = tt
given_kept ks (p ∷ ps) h =
    let g = got ks p h.0 in
    subst (λ o. EachAmong ks (cons_option o (filter_map (slice_get ks) ps))) (sym g.1) (among-get ks p g.0 g.1, given_kept ks ps h.1)
