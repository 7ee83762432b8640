-- Steps of a walk over the interfaces that are used.
use Rattle.std.proofs.Common.{◌≡◌, ℕ, List, [], ◌∷◌, ◌++◌, Some, None, is_some, Bool, true, false, nat_eq, cond, if◌then◌else◌, slice_get, refl, sym, ap, subst, ◌∙◌, inl, inr}
use Rattle.std.specs.HashSet.{contains, Updates}
use Rattle.std.proofs.lemmas.Bool.{eqb-true}
use Rattle.wac_types_base.specs.declared.item.ItemKind.{ItemKind}
use Rattle.wac_types_base.specs.declared.ids.InterfaceId.{InterfaceId}
use Rattle.wac_types_base.specs.declared.defined.Interface.{Interface}
use Rattle.wac_types_base.specs.Record.{Collection}
use Rattle.wac_types_base.specs.Entries.{Name, value_at, with_values}
use Rattle.wac_types_base.specs.Collection.{IsAcyclic, Stands}
use Rattle.wac_types_base.specs.Copies.{interface_at}
use Rattle.wac_types_base.specs.Stated.{Stated, identifier_of, stated_of}
use Rattle.wac_types_base.proofs.Loops.{mapped_next}
use Rattle.wac_types_written.specs.declared.uses.Walk.{Walk}
use Rattle.wac_types_written.specs.Forms.{Covers, FoundStand, stated_found, through}
use Rattle.wac_types_written.specs.Walked.{IsWalk, Walks}
use Rattle.wac_types_written.specs.Written.{under_identifier, with_firsts}
use Rattle.wac_types_written.proofs.Firsts.{IsFound, firsts_append, firsts_found, firsts_same, kept_firsts}
use Rattle.wac_types_written.proofs.Ids.{interface_states}

pub found_with : {T U : Type 0} (f : T → U) (es : List (Name × T)) (n : Name) → is_some (value_at (with_values f es) n) ≡ is_some (value_at es n)
found_with f [] n = refl
found_with {T} {U} f (e ∷ es) n = by_test _ (found_with f es n)
  where
    by_test : (b : Bool) → is_some (value_at (with_values f es) n) ≡ is_some (value_at es n) → is_some (if b then Some (f e.1) else value_at (with_values f es) n) ≡ is_some (if b then Some e.1 else value_at es n)
    by_test true h = refl
    by_test false h = h

module _ (c : Collection) where
  -- what was found before is found, so what was walked was
  pub walk_more : (xs : List (Name × Stated)) (old new : Walk) → stated_found c new.found ≡ with_firsts (stated_found c old.found) xs → FoundStand c new.found → new.walked ≡ old.walked → IsWalk c old → Walks c xs old new
  walk_more xs old new found stand same is = record {
    found = found;
    is = record {
      stand = stand;
      walked = λ i w s x m. subst (λ l. IsFound l x.0) (sym found) (kept_firsts (stated_found c old.found) xs x.0 (is.walked i (ap (λ t. contains nat_eq t i) (sym same) ∙ w) s x m));
    };
  }

  pub walks_then : (xs ys : List (Name × Stated)) (a b d : Walk) → Walks c xs a b → Walks c ys b d → Walks c (xs ++ ys) a d
  walks_then xs ys a b d h k = record { found = k.found ∙ ap (λ s. with_firsts s ys) h.found ∙ sym (firsts_append (stated_found c a.found) xs ys); is = k.is }

  pub walks_same : (xs : List (Name × Stated)) (w : Walk) → xs ≡ [] → IsWalk c w → Walks c xs w w
  walks_same xs w e is = record { found = ap (with_firsts (stated_found c w.found)) (sym e); is = is }

  -- what was walked adds nothing
  pub walks_walked : (id : InterfaceId) (w : Walk) → id.collection ≡ c.number → contains nat_eq w.walked id.index ≡ true → Stands c (ItemKind.Instance id) → IsWalk c w → Walks c (through (stated_of c (ItemKind.Instance id))) w w
  walks_walked id w own walked stands is =
      let at : ItemKind.Instance id ≡ interface_at c.number id.index = ap (λ n. interface_at n id.index) own in
      record {
        found = sym (firsts_same (stated_found c w.found) (through (stated_of c (ItemKind.Instance id)))
            (subst (λ k. Covers (stated_found c w.found) (through (stated_of c k))) (sym at) (is.walked id.index walked (subst (Stands c) at stands))));
        is = is;
      }

  -- it is walked now
  pub walks_marked : (id : InterfaceId) (old mid new : Walk) → id.collection ≡ c.number → Walks c (through (stated_of c (ItemKind.Instance id))) old mid → new.found ≡ mid.found → Updates nat_eq mid.walked new.walked id.index true → Walks c (through (stated_of c (ItemKind.Instance id))) old new
  walks_marked id old mid new own h same u =
      let x = through (stated_of c (ItemKind.Instance id)) in
      let at : ItemKind.Instance id ≡ interface_at c.number id.index = ap (λ n. interface_at n id.index) own in
      let here : Covers (stated_found c mid.found) (through (stated_of c (interface_at c.number id.index))) =
      subst (λ k. Covers (stated_found c mid.found) (through (stated_of c k))) at (λ y m. subst (λ l. IsFound l y.0) (sym h.found) (firsts_found (stated_found c old.found) x y m)) in
      record {
        found = ap (stated_found c) same ∙ h.found;
        is = record {
          stand = subst (FoundStand c) (sym same) h.is.stand;
          walked = λ i w s. subst (λ f. Covers (stated_found c f) (through (stated_of c (interface_at c.number i)))) (sym same) (by_test i here (nat_eq id.index i) refl w s);
        };
      }
    where
      by_test : (i : ℕ) → Covers (stated_found c mid.found) (through (stated_of c (interface_at c.number id.index))) → (b : Bool) → nat_eq id.index i ≡ b → contains nat_eq new.walked i ≡ true → Stands c (interface_at c.number i) → Covers (stated_found c mid.found) (through (stated_of c (interface_at c.number i)))
      by_test i here true e w s = subst (λ n. Covers (stated_found c mid.found) (through (stated_of c (interface_at c.number n)))) (eqb-true id.index i e) here
      by_test i here false e w s = h.is.walked i (ap (λ b. cond b true (contains nat_eq mid.walked i)) (sym e) ∙ sym (u.0 i) ∙ w) s

  module _ (a : IsAcyclic c) (id : InterfaceId) (i : Interface) (at : slice_get c.interfaces id.index ≡ Some i) (own : id.collection ≡ c.number) where
    abbrev x : Stated
    x = stated_of c (ItemKind.Instance id)

    -- what it is called
    pub named_as : identifier_of x ≡ i.id
    named_as = ap identifier_of (interface_states c a id i at own)

    pub walks_unnamed : (w : Walk) → i.id ≡ None → IsWalk c w → Walks c (under_identifier x (identifier_of x)) w w
    walks_unnamed w e is = walks_same (under_identifier x (identifier_of x)) w (ap (under_identifier x) (named_as ∙ e)) is

    pub walks_named : (w : Walk) (n : Name) → i.id ≡ Some n → is_some (value_at w.found n) ≡ true → IsWalk c w → Walks c (under_identifier x (identifier_of x)) w w
    walks_named w n e there is =
        let s = stated_found c w.found in
        walk_more (under_identifier x (identifier_of x)) w w
        (sym (ap (λ o. with_firsts s (under_identifier x o)) (named_as ∙ e) ∙ ap (λ b. if b then s else s ++ (n, x) ∷ []) (found_with (λ j. stated_of c (ItemKind.Instance j)) w.found n ∙ there)))
        is.stand refl is

    pub walks_new : (old new : Walk) (n m : Name) → i.id ≡ Some n → is_some (value_at old.found n) ≡ false → m ≡ n → new.found ≡ old.found ++ (m, id) ∷ [] → new.walked ≡ old.walked → Stands c (ItemKind.Instance id) → IsWalk c old → Walks c (under_identifier x (identifier_of x)) old new
    walks_new old new n m e none is_n made same stands is =
        let s = stated_found c old.found in
        walk_more (under_identifier x (identifier_of x)) old new
        (ap (stated_found c) made ∙ mapped_next (λ (e : Name × InterfaceId). (e.0, stated_of c (ItemKind.Instance e.1))) old.found (m, id) ∙ ap (λ k. s ++ (k, x) ∷ []) is_n
        ∙ sym (ap (λ o. with_firsts s (under_identifier x o)) (named_as ∙ e) ∙ ap (λ b. if b then s else s ++ (n, x) ∷ []) (found_with (λ j. stated_of c (ItemKind.Instance j)) old.found n ∙ none)))
        (subst (FoundStand c) (sym made) (last_stands old.found m is.stand stands)) same is
      where
        last_stands : (es : List (Name × InterfaceId)) (m : Name) → FoundStand c es → Stands c (ItemKind.Instance id) → FoundStand c (es ++ (m, id) ∷ [])
        last_stands [] m h s y (inl e) = subst (λ (z : Name × InterfaceId). Stands c (ItemKind.Instance z.1)) (sym e) s
        last_stands [] m h s y (inr k) = absurd k
        last_stands (e ∷ es) m h s y (inl p) = h y (inl p)
        last_stands (e ∷ es) m h s y (inr k) = last_stands es m (λ z l. h z (inr l)) s y k
