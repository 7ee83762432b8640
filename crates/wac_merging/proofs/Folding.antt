-- What a fold over stated types says of an item: what its label says over what it says of the items inside; and when
-- that is that the item reaches another.
use Rattle.std.proofs.Common.{◌≡◌, ℕ, zero, suc, ◌<◌, List, [], ◌∷◌, map, Option, Some, None, refl, sym, ap, subst, ◌∙◌, inl, inr, arith}
use Rattle.std.specs.Prelude.{◌⊎◌}
use Rattle.std.specs.Option.{option_map}
use Rattle.std.proofs.lemmas.Option.{same_Some}
use Rattle.wac_types_base.specs.declared.item.ItemKind.{ItemKind}
use Rattle.wac_types_base.specs.Record.{Collection}
use Rattle.wac_types_base.specs.Graph.{Among}
use Rattle.wac_types_base.specs.Reaching.{Reaches, here, below}
use Rattle.wac_types_base.specs.Collection.{Shape, Entry, Slot, Stands, IsAcyclic, item_node, labelled, slots_in, size_of}
use Rattle.wac_types_base.specs.Stated.{Stated, folded, stated_of}
use Rattle.wac_types_base.proofs.GraphLemmas.{is_there}
use Rattle.wac_types_base.proofs.Telling.{stated_step, folded_places}
use Rattle.wac_types_fit.specs.Trees.{IsInside}
use Rattle.wac_types_fit.proofs.Items.{slot_inside}

-- an item inside another stands, and is smaller
pub inside : (c : Collection) → IsAcyclic c → (k : ItemKind) (e : Entry) → item_node c k ≡ Some e → (j : ItemKind) → Among (Some j) e.1 → IsInside c j k
inside c a k e is j m = slot_inside c a k e.1 (is_there _ e is) (ap slots_in is) j m

module _ {A : Type 0} (f : Shape → List (Option (Stated × A)) → A) (c : Collection) where
  -- what stands in places, each with what the fold says of it
  abbrev pub found_in : List Slot → List (Option (Stated × A))
  found_in xs = map (option_map (λ j. (stated_of c j, folded f (stated_of c j)))) xs

  found_twice : (xs : List Slot) → map (option_map (λ t. (t, folded f t))) (map (option_map (stated_of c)) xs) ≡ found_in xs
  found_twice [] = refl
  found_twice (None ∷ xs) = ap (λ l. None ∷ l) (found_twice xs)
  found_twice (Some j ∷ xs) = ap (λ l. Some (stated_of c j, folded f (stated_of c j)) ∷ l) (found_twice xs)

  pub folded_step : IsAcyclic c → (k : ItemKind) (e : Entry) → item_node c k ≡ Some e → folded f (stated_of c k) ≡ f e.0 (found_in e.1)
  folded_step a k e is = ap (folded f) (stated_step c a k e is) ∙ ap (f e.0) (folded_places f (map (option_map (stated_of c)) e.1) ∙ found_twice e.1)

-- a fold that collects, and what it is to have something collected
module _ {A X : Type 0} (f : Shape → List (Option (Stated × A)) → A) (Has : X → A → Type 0) (c : Collection) where
  abbrev pub HasAt : X → ItemKind → Type 0
  HasAt x k = Has x (folded f (stated_of c k))

  -- a label over these places has what it has itself, and what is in the places
  pub record Says (x : X) (s : Shape) (xs : List Slot) (P : Type 0) : Type 0 where
    pub itself : P → Has x (f s (found_in f c xs))
    pub further : (j : ItemKind) → Among (Some j) xs → HasAt x j → Has x (f s (found_in f c xs))
    pub only : Has x (f s (found_in f c xs)) → P ⊎ ((j : ItemKind) × Among (Some j) xs × HasAt x j)

  pub says_as : (x : X) (s t : Shape) (xs : List Slot) (P Q : Type 0) → f t (found_in f c xs) ≡ f s (found_in f c xs) → (P → Q) → (Q → P) → Says x s xs P → Says x t xs Q
  says_as x s t xs P Q e g h w = record {
    itself = λ q. subst (Has x) (sym e) (w.itself (h q));
    further = λ j m r. subst (Has x) (sym e) (w.further j m r);
    only = λ r. elim (w.only (subst (Has x) e r)) [ inl p ↦ inl (g p) | inr j ↦ inr j ];
  }

  module _ (T : X → ItemKind → Type 0) where
    pub record Step (x : X) (k : ItemKind) : Type 0 where
      pub entry : Entry
      pub is : item_node c k ≡ Some entry
      pub says : Says x entry.0 entry.1 (T x k)

    -- a type item is as the thing that it is the type of, and a handle as its resource
    pub labelled_step : (x : X) (k j : ItemKind) (l : Shape → Shape) → ((s : Shape) (os : List (Option (Stated × A))) → f (l s) os ≡ f s os) → item_node c k ≡ labelled l (item_node c j) → (T x j → T x k) → (T x k → T x j) → Step x j → Step x k
    labelled_step x k j l same is g h s = record {
      entry = (l s.entry.0, s.entry.1);
      is = is ∙ ap (labelled l) s.is;
      says = says_as x s.entry.0 (l s.entry.0) s.entry.1 (T x j) (T x k) (same s.entry.0 (found_in f c s.entry.1)) g h s.says;
    }

    module _ (a : IsAcyclic c) (x : X) (step : (k : ItemKind) → Stands c k → Step x k) where
      pub reaches_has : (k : ItemKind) → Stands c k → Reaches (item_node c) (T x) k → HasAt x k
      reaches_has k s (here p) = let t = step k s in subst (Has x) (sym (folded_step f c a k t.entry t.is)) (t.says.itself p)
      reaches_has k s (below {c = j} {s = l} {rs = xs} e m r) =
          let t = step k s in
          let same : (l, xs) ≡ t.entry = same_Some _ _ (sym e ∙ t.is) in
          let there : Among (Some j) t.entry.1 = subst (λ (y : Entry). Among (Some j) y.1) same m in
          subst (Has x) (sym (folded_step f c a k t.entry t.is)) (t.says.further j there (reaches_has j (inside c a k t.entry t.is j there).0 r))

      has_below : (n : ℕ) (k : ItemKind) → size_of c k < n → Stands c k → HasAt x k → Reaches (item_node c) (T x) k
      has_below zero k lt s e = absurd (omega arith)
      has_below (suc n) k lt s e =
          let t = step k s in
          elim (t.says.only (subst (Has x) (folded_step f c a k t.entry t.is) e)) [
            | inl p ↦ here p
            | inr j ↦
                let i = inside c a k t.entry t.is j.0 j.1 in
                let less = i.1 in
                below t.is j.1 (has_below n j.0 (omega (arith, lt, less)) i.0 j.2)
          ]

      pub has_reaches : (k : ItemKind) → Stands c k → HasAt x k → Reaches (item_node c) (T x) k
      has_reaches k s e = has_below (suc (size_of c k)) k (omega arith) s e
