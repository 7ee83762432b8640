-- What the places of two items state.
use Rattle.std.proofs.Common.{◌≡◌, ℕ, ◌<◌, List, map, Option, Some, None, is_some, Bool, not, IsTrue, ◌↔◌, slice_get, sym, ap, ◌∙◌, arith}
use Rattle.std.proofs.lemmas.Option.{slice_get-map}
use Rattle.std.specs.Option.{option_map}
use Rattle.wac_types_base.specs.declared.item.ItemKind.{ItemKind}
use Rattle.wac_types_base.specs.Record.{Collection}
use Rattle.wac_types_base.specs.Graph.{node, nodes}
use Rattle.wac_types_base.specs.Collection.{Slot, SlotStands, Stands, IsAcyclic, size_of, slots_in, slots_of}
use Rattle.wac_types_base.specs.Stated.{row, places_of, shape_of, stated_of}
use Rattle.wac_types_base.proofs.GraphLemmas.{value_of}
use Rattle.wac_types_base.proofs.Telling.{stated_step, size_stated}
use Rattle.wac_types_base.proofs.Made.{row_places}
use Rattle.wac_types_base.proofs.Walking.{child_smaller}
use Rattle.wac_types_base.proofs.Lists.{none_test}
use Rattle.wac_types_fit.proofs.ValueTrees.{same_to_end}
use Rattle.wac_types_same.specs.Same.{label_in, label_of, slot_stated, places_stated}

abbrev pub slot_size : Collection → Slot → ℕ
slot_size c None = 0
slot_size c (Some k) = size_of c k

-- ---- lists of what is said of entries

module _ {X Y : Type 0} (f : X → Y) (xs ys : List X) where
  module _ (i : ℕ) (x : X) (p : slice_get xs i ≡ Some x) where
    said_at : slice_get (map f xs) i ≡ Some (f x)
    said_at = slice_get-map f xs i ∙ ap (option_map f) p

  said_end : (zs : List X) (i : ℕ) → slice_get zs i ≡ None → slice_get (map f zs) i ≡ None
  said_end zs i p = slice_get-map f zs i ∙ ap (option_map f) p

  pub extra_said : (i : ℕ) (x : X) → slice_get xs i ≡ Some x → slice_get ys i ≡ None → map f xs ≡ map f ys → ⊥
  extra_said i x p q h = absurd (cc (said_at i x p, ap (λ l. slice_get l i) h, said_end ys i q))

-- a place of both
pub said_step : {X Y : Type 0} (f : X → Y) (xs ys : List X) (i : ℕ) (x y : X) → slice_get xs i ≡ Some x → slice_get ys i ≡ Some y → f x ≡ f y → slice_get (map f xs) i ≡ slice_get (map f ys) i
said_step f xs ys i x y p q e = said_at f xs ys i x p ∙ ap Some e ∙ sym (said_at f ys xs i y q)

pub said_agrees : {X Y : Type 0} (f : X → Y) (xs ys : List X) (i : ℕ) (x y : X) → slice_get xs i ≡ Some x → slice_get ys i ≡ Some y → map f xs ≡ map f ys → f x ≡ f y
said_agrees f xs ys i x y p q h =
    let same : Some (f x) ≡ Some (f y) = sym (said_at f xs ys i x p) ∙ ap (λ l. slice_get l i) h ∙ said_at f ys xs i y q in
    cc same

-- where the one has ended
pub ends_decided : {X Y : Type 0} (f : X → Y) (xs ys : List X) (n : ℕ) (o : Option X) (b : Bool) → slice_get xs n ≡ None → o ≡ slice_get ys n → is_some o ≡ not b → ((i : ℕ) → i < n → slice_get (map f xs) i ≡ slice_get (map f ys) i) → IsTrue b ↔ (map f xs ≡ map f ys)
ends_decided f xs ys n o b p q e h =
    let t = none_test o b e in (
      λ y. same_to_end (map f xs) (map f ys) n (said_end f xs ys xs n p) (said_end f xs ys ys n (sym q ∙ t.0 y)) h,
      λ z. t.1 (λ x is. extra_said f ys xs n x (sym q ∙ is) p (sym z)),
    )

-- ---- an item

module _ (c : Collection) (acyclic : IsAcyclic c) where
  -- an item states its label over what its places state
  states : (k : ItemKind) → Stands c k → stated_of c k ≡ node (label_of c k) (row (places_stated c k))
  states k stands =
      let n = value_of _ stands in
      stated_step c acyclic k n.0 n.1 ∙ ap (λ o. node (label_in o) (row (map (slot_stated c) (slots_in o)))) (sym n.1)

  label_stated : (k : ItemKind) → Stands c k → shape_of (stated_of c k) ≡ label_of c k
  label_stated k stands = ap shape_of (states k stands)

  places_said : (k : ItemKind) → Stands c k → places_of (stated_of c k) ≡ places_stated c k
  places_said k stands = ap places_of (states k stands) ∙ row_places (places_stated c k)

  module _ (a b : ItemKind) (first : Stands c a) (second : Stands c b) where
    pub same_label : stated_of c a ≡ stated_of c b → label_of c a ≡ label_of c b
    same_label e = sym (label_stated a first) ∙ ap shape_of e ∙ label_stated b second

    pub same_said : (t : Bool) → label_of c a ≡ label_of c b → IsTrue t ↔ (places_stated c a ≡ places_stated c b) → IsTrue t ↔ (stated_of c a ≡ stated_of c b)
    same_said t l h = (
      λ x. states a first ∙ ap (λ s. node s (row (places_stated c a))) l ∙ ap (λ os. node (label_of c b) (row os)) (h.0 x) ∙ sym (states b second),
      λ e. h.1 (sym (places_said a first) ∙ ap places_of e ∙ places_said b second),
    )

  some_size : (k : ItemKind) → Stands c k → 0 < size_of c k
  some_size k stands =
      let n = size_stated c acyclic k stands in
      let m = ap nodes (states k stands) in
      omega (arith, n, m)

  -- a place of an item stands, and is smaller
  pub place_inside : (k : ItemKind) → Stands c k → (i : ℕ) (s : Slot) → slice_get (slots_of c k) i ≡ Some s → SlotStands c s × (slot_size c s < size_of c k)
  place_inside k stands i None at = (tt, some_size k stands)
  place_inside k stands i (Some j) at = child_smaller c acyclic k stands i j at
