-- An entry with the same label, whose places are copies, is a copy; and what that gives for the entries that are copied.
use Rattle.std.proofs.Common.{◌≡◌, ℕ, zero, suc, ◌<◌, List, [], ◌∷◌, ◌++◌, All, length, Option, Some, None, IsSome, get_or, refl, sym, ap, subst, ◌∙◌, arith, inl, inr, slice_get, map, Bool, true, false, nat_eq, cond}
use Rattle.std.proofs.lemmas.Bool.Decides.{nat_tests}
use Rattle.std.specs.Option.{option_map}
use Rattle.std.specs.declared.hash.FoldHasher.{FoldHasher}
use Rattle.std.specs.declared.hash.BuildHasherDefault.{BuildHasherDefault}
use Rattle.std.specs.HashMap.{HashMap, get, Updates, IsEmpty, IsUnchanged}
use Rattle.std.specs.Map.{lookup}
use Rattle.wac_types_base.specs.declared.copies.Copies.{Copies}
use Rattle.wac_types_base.specs.declared.item.ItemKind.{ItemKind}
use Rattle.wac_types_base.specs.declared.item.ValueType.{ValueType}
use Rattle.wac_types_base.specs.declared.item.«Type».{«Type» as TypeKind}
use Rattle.wac_types_base.specs.declared.defined.DefinedType.{DefinedType}
use Rattle.wac_types_base.specs.declared.defined.Resource.{Resource}
use Rattle.wac_types_base.specs.declared.defined.FuncType.{FuncType}
use Rattle.wac_types_base.specs.declared.defined.Interface.{Interface}
use Rattle.wac_types_base.specs.declared.defined.World.{World}
use Rattle.wac_types_base.specs.declared.core_types.ModuleType.{ModuleType}
use Rattle.wac_types_base.specs.declared.ids.DefinedTypeId.{DefinedTypeId}
use Rattle.wac_types_base.specs.declared.ids.ResourceId.{ResourceId}
use Rattle.wac_types_base.specs.declared.ids.FuncTypeId.{FuncTypeId}
use Rattle.wac_types_base.specs.declared.ids.InterfaceId.{InterfaceId}
use Rattle.wac_types_base.specs.declared.ids.WorldId.{WorldId}
use Rattle.wac_types_base.specs.declared.ids.ModuleTypeId.{ModuleTypeId}
use Rattle.wac_types_base.specs.Record.{Collection}
use Rattle.wac_types_base.specs.Kept.{keeping}
use Rattle.wac_types_base.specs.Graph.{Whole, Wholes, node, skip, wholes_by, close, grow, whole, Among}
use Rattle.wac_types_base.specs.Collection.{Shape, Entry, Slot, SlotStands, HasChildren, item_node, labelled, Stands, depth, IsAcyclic, unfolding_of, Grows, defined_entry, resource_entry, func_entry, interface_entry, world_entry, module_entry, slots_in, slots_of, primitive, type_of, own_of, borrow_of}
use Rattle.wac_types_base.specs.Copying.{IsCopy, SlotsCopied, none_copied, hole_copied, place_copied}
use Rattle.wac_types_base.specs.Copies.{copy_or, copied_ids, defined_id, resource_id, func_id, interface_id, world_id, module_id, value_copy, type_copy, kind_copy, Knows, defined_copy, resource_copy, func_copy, interface_copy, world_copy, defined_at, resource_at, func_at, interface_at, world_at, module_at, EachCopied, AreCopies, HasNone, KnowsPlaces}
use Rattle.wac_types_base.proofs.GraphLemmas.{value_of, is_there, no_depth, grow-extends, whole-extends}
use Rattle.wac_types_base.proofs.Walking.{child_smaller, slice_get-Among}
use Rattle.wac_types_base.proofs.Standing.{defined_found, resource_found, func_found, interface_found, world_found, module_found}
use Rattle.wac_types_base.proofs.Slots.{entry_at-is, stands_borrow, stands_own, stands_typed_func, stands_typed_value, stands_typed_interface, stands_typed_world, stands_typed_module, slots_borrow, slots_own, slots_typed_func, slots_typed_value, slots_typed_interface, slots_typed_world, slots_typed_module}
use Rattle.wac_types_base.proofs.Replacing.{labelled_there}
use Rattle.wac_types_base.proofs.Renamed.{defined_entry_renamed, resource_entry_renamed, func_entry_renamed, interface_entry_renamed, world_entry_renamed, module_entry_renamed}

-- at the full depth the unfolding of a node is its label over the unfoldings of its children
unfold_step : {R S : Type 0} (g : R → Option (S × List (Option R))) (n : ℕ) (r : R) → IsSome (whole g n r) → whole g n r ≡ grow (g r) (whole g n)
unfolding whole
unfold_step g zero r h = absurd (no_depth g r h)
unfold_step g (suc n) r h =
    let v = value_of (grow (g r) (whole g n)) h in
    let w = grow-extends (g r) (g r) (whole g n) (whole g (suc n)) (whole-extends g g (λ r e x. x) n (suc n) (omega arith)) (λ e x. x) v.0 v.1 in
    v.1 ∙ sym w

pub unfolding_step : (c : Collection) → IsAcyclic c → (k : ItemKind) → Stands c k → unfolding_of c k ≡ grow (item_node c k) (unfolding_of c)
unfolding IsAcyclic unfolding_of
unfolding_step c h k stands = unfold_step (item_node c) (depth c) k (h k stands)

pub get_or-Among : {X : Type 0} (xs : List X) (i : ℕ) (d : X) → i < length xs → Among (get_or xs i d) xs
get_or-Among [] i d h = absurd (omega arith)
get_or-Among (x ∷ xs) zero d h = inl refl
get_or-Among (x ∷ xs) (suc i) d h = inr (get_or-Among xs i d (omega arith))

pub Among-All : {X : Type 0} (P : X → Type 0) (xs : List X) → ((x : X) → Among x xs → P x) → All P xs
Among-All P xs h i d lt = h (get_or xs i d) (get_or-Among xs i d lt)

module _ (c d : Collection) where
  same_row : {xs ys : List Slot} → SlotsCopied c d xs ys → wholes_by (unfolding_of d) ys ≡ wholes_by (unfolding_of c) xs
  same_row none_copied = refl
  same_row (hole_copied h) = ap skip (same_row h)
  same_row (place_copied k h) = rw (k.same, same_row h) refl

  -- the entry that was copied, and the copy's own
  pub copied : IsAcyclic c → IsAcyclic d → (k k' : ItemKind) (s : Shape) (xs ys : List Slot) → item_node c k ≡ Some (s, xs) → item_node d k' ≡ Some (s, ys) → SlotsCopied c d xs ys → IsCopy c d k k'
  copied ha hb k k' s xs ys e f h = record {
    stands = is_there _ (s, ys) f;
    same = unfolding_step d hb k' (is_there _ (s, ys) f) ∙ rw (f, e, same_row h) refl ∙ sym (unfolding_step c ha k (is_there _ (s, xs) e));
  }

  pub SlotsCopied-stand : {xs ys : List Slot} → SlotsCopied c d xs ys → (y : Slot) → Among y ys → SlotStands d y
  SlotsCopied-stand none_copied y m = absurd m
  SlotsCopied-stand (hole_copied h) y (inl e) = subst (SlotStands d) (sym e) tt
  SlotsCopied-stand (hole_copied h) y (inr m) = SlotsCopied-stand h y m
  SlotsCopied-stand (place_copied k h) y (inl e) = subst (SlotStands d) (sym e) k.stands
  SlotsCopied-stand (place_copied k h) y (inr m) = SlotsCopied-stand h y m

-- copies stay copies while the collection grows
pub IsCopy-kept : (c d e : Collection) (k k' : ItemKind) → Grows d e → IsCopy c d k k' → IsCopy c e k k'
IsCopy-kept c d e k k' g h = record { stands = g.stand k' h.stands; same = g.keep k' h.stands ∙ h.same }

SlotsCopied-kept : (c d e : Collection) → Grows d e → {xs ys : List Slot} → SlotsCopied c d xs ys → SlotsCopied c e xs ys
SlotsCopied-kept c d e g none_copied = none_copied
SlotsCopied-kept c d e g (hole_copied h) = hole_copied (SlotsCopied-kept c d e g h)
SlotsCopied-kept c d e g (place_copied k h) = place_copied (IsCopy-kept c d e _ _ g k) (SlotsCopied-kept c d e g h)

-- ---- another label over the same places

relabel : (Shape → Shape) → Whole Shape → Whole Shape
relabel l (node s ts) = node (l s) ts

labelled_grow : (l : Shape → Shape) (o : Option Entry) (w : ItemKind → Option (Whole Shape)) → grow (labelled l o) w ≡ option_map (relabel l) (grow o w)
unfolding relabel
labelled_grow l None w = refl
labelled_grow l (Some e) w = by_row e.0 (wholes_by w e.1)
  where
    by_row : (s : Shape) (r : Option (Wholes Shape)) → close (l s) r ≡ option_map (relabel l) (close s r)
    by_row s None = refl
    by_row s (Some ts) = refl

IsCopy-labelled : (c d : Collection) → IsAcyclic c → IsAcyclic d → (l : Shape → Shape) (k k' j j' : ItemKind) → item_node c j ≡ labelled l (item_node c k) → item_node d j' ≡ labelled l (item_node d k') → Stands c k → IsCopy c d k k' → IsCopy c d j j'
IsCopy-labelled c d ha hb l k k' j j' e f stands h =
    let there : Stands d j' = subst (λ o. IsSome o) (sym f) (labelled_there l (item_node d k') h.stands) in
    let here : Stands c j = subst (λ o. IsSome o) (sym e) (labelled_there l (item_node c k) stands) in
    record {
      stands = there;
      same = unfolding_step d hb j' there ∙ ap (λ o. grow o (unfolding_of d)) f ∙ labelled_grow l (item_node d k') (unfolding_of d)
          ∙ ap (option_map (relabel l)) (sym (unfolding_step d hb k' h.stands) ∙ h.same ∙ unfolding_step c ha k stands)
          ∙ sym (unfolding_step c ha j here ∙ ap (λ o. grow o (unfolding_of c)) e ∙ labelled_grow l (item_node c k) (unfolding_of c));
    }

-- ---- what has a copy

in_table : (c d : Collection) {S : Type 0} (kind : ℕ → ℕ → ItemKind) (n : ℕ) (t : HashMap ℕ ℕ S) → EachCopied c d kind n t → (col i j : ℕ) → col ≡ c.number → get nat_eq t i ≡ Some j → Stands c (kind col i) → IsCopy c d (kind col i) (kind n j)
in_table c d kind n t h col i j own e = subst (λ k. Stands c (kind k i) → IsCopy c d (kind k i) (kind n j)) (sym own) (h i j e)

module _ (c d : Collection) (m : Copies) (ha : IsAcyclic c) (hb : IsAcyclic d) (a : AreCopies c d m) where
  defined_copied : (i : DefinedTypeId) → Stands c (ItemKind.Value (ValueType.Defined i)) → IsSome (get nat_eq m.defined_types i.index) → IsCopy c d (ItemKind.Value (ValueType.Defined i)) (ItemKind.Value (ValueType.Defined (defined_id m i)))
  defined_copied i stands h =
      let j = value_of _ h in
      subst (λ k. IsCopy c d (ItemKind.Value (ValueType.Defined i)) k) (sym (ap (λ o. ItemKind.Value (ValueType.Defined (record { collection = m.number; index = copy_or o i.index }))) j.1))
      (in_table c d defined_at m.number m.defined_types a.defined_types i.collection i.index j.0 (defined_found c i stands).own j.1 stands)

  resource_copied : (i : ResourceId) → Stands c (ItemKind.Ty (TypeKind.Resource i)) → IsSome (get nat_eq m.resources i.index) → IsCopy c d (ItemKind.Ty (TypeKind.Resource i)) (ItemKind.Ty (TypeKind.Resource (resource_id m i)))
  resource_copied i stands h =
      let j = value_of _ h in
      subst (λ k. IsCopy c d (ItemKind.Ty (TypeKind.Resource i)) k) (sym (ap (λ o. ItemKind.Ty (TypeKind.Resource (record { collection = m.number; index = copy_or o i.index }))) j.1))
      (in_table c d resource_at m.number m.resources a.resources i.collection i.index j.0 (resource_found c i stands).own j.1 stands)

  func_copied : (i : FuncTypeId) → Stands c (ItemKind.Func i) → IsSome (get nat_eq m.func_types i.index) → IsCopy c d (ItemKind.Func i) (ItemKind.Func (func_id m i))
  func_copied i stands h =
      let j = value_of _ h in
      subst (λ k. IsCopy c d (ItemKind.Func i) k) (sym (ap (λ o. ItemKind.Func (record { collection = m.number; index = copy_or o i.index })) j.1))
      (in_table c d func_at m.number m.func_types a.func_types i.collection i.index j.0 (func_found c i stands).own j.1 stands)

  interface_copied : (i : InterfaceId) → Stands c (ItemKind.Instance i) → IsSome (get nat_eq m.interfaces i.index) → IsCopy c d (ItemKind.Instance i) (ItemKind.Instance (interface_id m i))
  interface_copied i stands h =
      let j = value_of _ h in
      subst (λ k. IsCopy c d (ItemKind.Instance i) k) (sym (ap (λ o. ItemKind.Instance (record { collection = m.number; index = copy_or o i.index })) j.1))
      (in_table c d interface_at m.number m.interfaces a.interfaces i.collection i.index j.0 (interface_found c i stands).own j.1 stands)

  world_copied : (i : WorldId) → Stands c (ItemKind.Component i) → IsSome (get nat_eq m.worlds i.index) → IsCopy c d (ItemKind.Component i) (ItemKind.Component (world_id m i))
  world_copied i stands h =
      let j = value_of _ h in
      subst (λ k. IsCopy c d (ItemKind.Component i) k) (sym (ap (λ o. ItemKind.Component (record { collection = m.number; index = copy_or o i.index })) j.1))
      (in_table c d world_at m.number m.worlds a.worlds i.collection i.index j.0 (world_found c i stands).own j.1 stands)

  module_copied : (i : ModuleTypeId) → Stands c (ItemKind.Module i) → IsSome (get nat_eq m.modules i.index) → IsCopy c d (ItemKind.Module i) (ItemKind.Module (module_id m i))
  module_copied i stands h =
      let j = value_of _ h in
      subst (λ k. IsCopy c d (ItemKind.Module i) k) (sym (ap (λ o. ItemKind.Module (record { collection = m.number; index = copy_or o i.index })) j.1))
      (in_table c d module_at m.number m.modules a.modules i.collection i.index j.0 (module_found c i stands).own j.1 stands)

  value_copied : (v : ValueType) → Stands c (ItemKind.Value v) → Knows m (ItemKind.Value v) → IsCopy c d (ItemKind.Value v) (ItemKind.Value (value_copy m v))
  unfolding item_node
  value_copied (ValueType.Primitive p) stands h = copied c d ha hb (ItemKind.Value (ValueType.Primitive p)) (ItemKind.Value (ValueType.Primitive p)) (primitive p) [] [] refl refl none_copied
  value_copied (ValueType.Borrow r) stands h = IsCopy-labelled c d ha hb borrow_of (ItemKind.Ty (TypeKind.Resource r)) (ItemKind.Ty (TypeKind.Resource (resource_id m r))) _ _ refl refl (stands_borrow c r stands) (resource_copied r (stands_borrow c r stands) h)
  value_copied (ValueType.Own r) stands h = IsCopy-labelled c d ha hb own_of (ItemKind.Ty (TypeKind.Resource r)) (ItemKind.Ty (TypeKind.Resource (resource_id m r))) _ _ refl refl (stands_own c r stands) (resource_copied r (stands_own c r stands) h)
  value_copied (ValueType.Defined i) stands h = defined_copied i stands h

  type_copied : (t : TypeKind) → Stands c (ItemKind.Ty t) → Knows m (ItemKind.Ty t) → IsCopy c d (ItemKind.Ty t) (ItemKind.Ty (type_copy m t))
  unfolding item_node
  type_copied (TypeKind.Resource r) stands h = resource_copied r stands h
  type_copied (TypeKind.Func i) stands h = IsCopy-labelled c d ha hb type_of (ItemKind.Func i) (ItemKind.Func (func_id m i)) _ _ refl refl (stands_typed_func c i stands) (func_copied i (stands_typed_func c i stands) h)
  type_copied (TypeKind.Value v) stands h = IsCopy-labelled c d ha hb type_of (ItemKind.Value v) (ItemKind.Value (value_copy m v)) _ _ refl refl (stands_typed_value c v stands) (value_copied v (stands_typed_value c v stands) h)
  type_copied (TypeKind.Interface i) stands h = IsCopy-labelled c d ha hb type_of (ItemKind.Instance i) (ItemKind.Instance (interface_id m i)) _ _ refl refl (stands_typed_interface c i stands) (interface_copied i (stands_typed_interface c i stands) h)
  type_copied (TypeKind.World i) stands h = IsCopy-labelled c d ha hb type_of (ItemKind.Component i) (ItemKind.Component (world_id m i)) _ _ refl refl (stands_typed_world c i stands) (world_copied i (stands_typed_world c i stands) h)
  type_copied (TypeKind.Module i) stands h = IsCopy-labelled c d ha hb type_of (ItemKind.Module i) (ItemKind.Module (module_id m i)) _ _ refl refl (stands_typed_module c i stands) (module_copied i (stands_typed_module c i stands) h)

  -- the copy of what a kind names
  pub kind_copied : (k : ItemKind) → Stands c k → Knows m k → IsCopy c d k (kind_copy m k)
  kind_copied (ItemKind.Ty t) stands h = type_copied t stands h
  kind_copied (ItemKind.Func i) stands h = func_copied i stands h
  kind_copied (ItemKind.Instance i) stands h = interface_copied i stands h
  kind_copied (ItemKind.Component i) stands h = world_copied i stands h
  kind_copied (ItemKind.Module i) stands h = module_copied i stands h
  kind_copied (ItemKind.Value v) stands h = value_copied v stands h

  row_copied : (xs : List Slot) → ((k : ItemKind) → Among (Some k) xs → Stands c k × Knows m k) → SlotsCopied c d xs (map (option_map (kind_copy m)) xs)
  row_copied [] h = none_copied
  row_copied (None ∷ xs) h = hole_copied (row_copied xs (λ k n. h k (inr n)))
  row_copied (Some k ∷ xs) h = place_copied (kind_copied k (h k (inl refl)).0 (h k (inl refl)).1) (row_copied xs (λ k n. h k (inr n)))

  -- what is in the places of an entry, where each has a copy
  places_copied : (k : ItemKind) (e : Entry) → item_node c k ≡ Some e → KnowsPlaces c m k → SlotsCopied c d e.1 (map (option_map (kind_copy m)) e.1)
  places_copied k e is h = row_copied e.1 (λ j n.
      let row : slots_of c k ≡ e.1 = ap slots_in is in
      let at = slice_get-Among e.1 (Some j) n in
      ((child_smaller c ha k (is_there _ e is) at.0 j (ap (λ l. slice_get l at.0) row ∙ at.2)).0, h j (subst (λ l. Among (Some j) l) (sym row) n)))

  -- an entry with the copies in its places
  pub children_stand : (k : ItemKind) (e f : Entry) → item_node c k ≡ Some e → KnowsPlaces c m k → f ≡ (e.0, map (option_map (kind_copy m)) e.1) → HasChildren d f
  children_stand k e f is h same = subst (HasChildren d) (sym same) (Among-All (SlotStands d) (map (option_map (kind_copy m)) e.1) (SlotsCopied-stand c d (places_copied k e is h)))

  pub entry_copied : (g : Collection) → Grows d g → (k k' : ItemKind) (e f : Entry) → item_node c k ≡ Some e → KnowsPlaces c m k → f ≡ (e.0, map (option_map (kind_copy m)) e.1) → item_node g k' ≡ Some f → IsCopy c g k k'
  entry_copied g grows k k' e f is h same at =
      copied c g ha grows.acyclic k k' e.0 e.1 (map (option_map (kind_copy m)) e.1) is (at ∙ ap Some same) (SlotsCopied-kept c d g grows (places_copied k e is h))

-- ---- tables

same_index : (a b : ℕ) → nat_eq a b ≡ true → a ≡ b
same_index a b h = grind (arith, nat_tests)

EachCopied-kept : (c d e : Collection) {S : Type 0} (kind : ℕ → ℕ → ItemKind) (n : ℕ) (t : HashMap ℕ ℕ S) → Grows d e → EachCopied c d kind n t → EachCopied c e kind n t
EachCopied-kept c d e kind n t g h i j at stands = IsCopy-kept c d e _ _ g (h i j at stands)

-- one more entry in a table
EachCopied-more : (c e : Collection) {S : Type 0} (kind : ℕ → ℕ → ItemKind) (n : ℕ) (t t' : HashMap ℕ ℕ S) (i j : ℕ) → Updates nat_eq t t' i (Some j) → EachCopied c e kind n t → IsCopy c e (kind c.number i) (kind n j) → EachCopied c e kind n t'
EachCopied-more c e kind n t t' i j u h k i' j' at stands = by_test (nat_eq i i') refl
  where
    by_test : (b : Bool) → nat_eq i i' ≡ b → IsCopy c e (kind c.number i') (kind n j')
    by_test true same =
        let new : Some j ≡ Some j' = ap (λ b. cond b (Some j) (get nat_eq t i')) (sym same) ∙ sym (u.0 i') ∙ at in
        let is : i ≡ i' = same_index i i' same in
        let js : j ≡ j' = cc new in
        subst (λ x. IsCopy c e (kind c.number x) (kind n j')) is (subst (λ y. IsCopy c e (kind c.number i) (kind n y)) js k)
    by_test false other = h i' j' (ap (λ b. cond b (Some j) (get nat_eq t i')) (sym other) ∙ sym (u.0 i') ∙ at) stands

EachCopied-same : (c e : Collection) {S : Type 0} (kind : ℕ → ℕ → ItemKind) (n : ℕ) (t t' : HashMap ℕ ℕ S) → IsUnchanged t t' → EachCopied c e kind n t → EachCopied c e kind n t'
EachCopied-same c e kind n t t' u h i j at = h i j (sym (same_look_up t t' u i) ∙ at)
  where
    same_look_up : {S : Type 0} (t t' : HashMap ℕ ℕ S) → IsUnchanged t t' → (i : ℕ) → get nat_eq t' i ≡ get nat_eq t i
    same_look_up t t' u i = ap (lookup (nat_eq i)) u

pub AreCopies-kept : (c d e : Collection) (m : Copies) → Grows d e → d.number ≡ e.number → AreCopies c d m → AreCopies c e m
AreCopies-kept c d e m g n a = record {
  number = a.number ∙ n;
  defined_types = EachCopied-kept c d e defined_at m.number m.defined_types g a.defined_types;
  resources = EachCopied-kept c d e resource_at m.number m.resources g a.resources;
  func_types = EachCopied-kept c d e func_at m.number m.func_types g a.func_types;
  interfaces = EachCopied-kept c d e interface_at m.number m.interfaces g a.interfaces;
  worlds = EachCopied-kept c d e world_at m.number m.worlds g a.worlds;
  modules = EachCopied-kept c d e module_at m.number m.modules g a.modules;
}

pub last_place : {X : Type 0} (xs : List X) (x : X) → slice_get (xs ++ x ∷ []) (length xs) ≡ Some x
last_place [] x = refl
last_place (y ∷ xs) x = last_place xs x

nothing : (c d : Collection) {S : Type 0} (kind : ℕ → ℕ → ItemKind) (n : ℕ) (t : HashMap ℕ ℕ S) → IsEmpty t → EachCopied c d kind n t
nothing c d kind n t e i j at = let none = ap (lookup (nat_eq i)) e in absurd (cc (at, none))

pub AreCopies-none : (c d : Collection) (m : Copies) → m.number ≡ d.number → HasNone m → AreCopies c d m
AreCopies-none c d m n h = record {
  number = n;
  defined_types = nothing c d defined_at m.number m.defined_types h.0;
  resources = nothing c d resource_at m.number m.resources h.1;
  func_types = nothing c d func_at m.number m.func_types h.2;
  interfaces = nothing c d interface_at m.number m.interfaces h.3;
  worlds = nothing c d world_at m.number m.worlds h.4;
  modules = nothing c d module_at m.number m.modules h.5;
}

module _ (c d e : Collection) (m : Copies) (ha : IsAcyclic c) (hb : IsAcyclic d) (a : AreCopies c d m) (i : DefinedTypeId) (x y : DefinedType) (at : slice_get c.defined_types i.index ≡ Some x) (own : i.collection ≡ c.number) (places : KnowsPlaces c m (ItemKind.Value (ValueType.Defined i))) (same : y ≡ defined_copy m x) where
  defined_node : item_node c (ItemKind.Value (ValueType.Defined i)) ≡ Some (defined_entry x)
  unfolding item_node
  defined_node = entry_at-is defined_entry c.number c.defined_types i.collection i.index x at own

  defined_mapped : defined_entry y ≡ ((defined_entry x).0, map (option_map (kind_copy m)) (defined_entry x).1)
  defined_mapped = ap defined_entry same ∙ defined_entry_renamed (copied_ids m) x

  pub defined_children : HasChildren d (defined_entry y)
  defined_children = children_stand c d m ha hb a (ItemKind.Value (ValueType.Defined i)) (defined_entry x) (defined_entry y) defined_node places defined_mapped

  module _ (j : DefinedTypeId) (grows : Grows d e) (added : e ≡ keeping e.kept (record d { defined_types = d.defined_types ++ y ∷ [] })) (id : j ≡ record { collection = d.number; index = length d.defined_types }) where
    defined_there : item_node e (ItemKind.Value (ValueType.Defined j)) ≡ Some (defined_entry y)
    unfolding item_node
    defined_there = entry_at-is defined_entry e.number e.defined_types j.collection j.index y
        (ap (λ d. slice_get d.defined_types j.index) added ∙ ap (λ i. slice_get (d.defined_types ++ y ∷ []) i.index) id ∙ last_place d.defined_types y)
        (ap (λ i. i.collection) id ∙ sym (ap (λ d. d.number) added))

    defined_is_copy : IsCopy c e (defined_at c.number i.index) (defined_at m.number j.index)
    defined_is_copy =
        subst (λ a. IsCopy c e (defined_at a i.index) (defined_at m.number j.index)) own
        (subst (λ b. IsCopy c e (ItemKind.Value (ValueType.Defined i)) (defined_at b j.index)) (ap (λ i. i.collection) id ∙ sym a.number)
        (entry_copied c d m ha hb a e grows (ItemKind.Value (ValueType.Defined i)) (ItemKind.Value (ValueType.Defined j)) (defined_entry x) (defined_entry y) defined_node places defined_mapped defined_there))

    -- with the copy in its table
    pub defined_more : (t : HashMap ℕ ℕ (BuildHasherDefault FoldHasher)) → Updates nat_eq m.defined_types t i.index (Some j.index) → AreCopies c e (record m { defined_types = t })
    defined_more t u =
        let b = AreCopies-kept c d e m grows (sym (ap (λ d. d.number) added)) a in
        record {
          number = b.number;
          defined_types = EachCopied-more c e defined_at m.number m.defined_types t i.index j.index u b.defined_types defined_is_copy;
          resources = b.resources;
          func_types = b.func_types;
          interfaces = b.interfaces;
          worlds = b.worlds;
          modules = b.modules;
        }

    pub defined_same : (t : HashMap ℕ ℕ (BuildHasherDefault FoldHasher)) → IsUnchanged m.defined_types t → AreCopies c e (record m { defined_types = t })
    defined_same t u =
        let b = AreCopies-kept c d e m grows (sym (ap (λ d. d.number) added)) a in
        record {
          number = b.number;
          defined_types = EachCopied-same c e defined_at m.number m.defined_types t u b.defined_types;
          resources = b.resources;
          func_types = b.func_types;
          interfaces = b.interfaces;
          worlds = b.worlds;
          modules = b.modules;
        }

module _ (c d e : Collection) (m : Copies) (ha : IsAcyclic c) (hb : IsAcyclic d) (a : AreCopies c d m) (i : ResourceId) (x y : Resource) (at : slice_get c.resources i.index ≡ Some x) (own : i.collection ≡ c.number) (places : KnowsPlaces c m (ItemKind.Ty (TypeKind.Resource i))) (same : y ≡ resource_copy m x) where
  resource_node : item_node c (ItemKind.Ty (TypeKind.Resource i)) ≡ Some (resource_entry x)
  unfolding item_node
  resource_node = entry_at-is resource_entry c.number c.resources i.collection i.index x at own

  resource_mapped : resource_entry y ≡ ((resource_entry x).0, map (option_map (kind_copy m)) (resource_entry x).1)
  resource_mapped = ap resource_entry same ∙ resource_entry_renamed (copied_ids m) x

  pub resource_children : HasChildren d (resource_entry y)
  resource_children = children_stand c d m ha hb a (ItemKind.Ty (TypeKind.Resource i)) (resource_entry x) (resource_entry y) resource_node places resource_mapped

  module _ (j : ResourceId) (grows : Grows d e) (added : e ≡ keeping e.kept (record d { resources = d.resources ++ y ∷ [] })) (id : j ≡ record { collection = d.number; index = length d.resources }) where
    resource_there : item_node e (ItemKind.Ty (TypeKind.Resource j)) ≡ Some (resource_entry y)
    unfolding item_node
    resource_there = entry_at-is resource_entry e.number e.resources j.collection j.index y
        (ap (λ d. slice_get d.resources j.index) added ∙ ap (λ i. slice_get (d.resources ++ y ∷ []) i.index) id ∙ last_place d.resources y)
        (ap (λ i. i.collection) id ∙ sym (ap (λ d. d.number) added))

    resource_is_copy : IsCopy c e (resource_at c.number i.index) (resource_at m.number j.index)
    resource_is_copy =
        subst (λ a. IsCopy c e (resource_at a i.index) (resource_at m.number j.index)) own
        (subst (λ b. IsCopy c e (ItemKind.Ty (TypeKind.Resource i)) (resource_at b j.index)) (ap (λ i. i.collection) id ∙ sym a.number)
        (entry_copied c d m ha hb a e grows (ItemKind.Ty (TypeKind.Resource i)) (ItemKind.Ty (TypeKind.Resource j)) (resource_entry x) (resource_entry y) resource_node places resource_mapped resource_there))

    -- with the copy in its table
    pub resource_more : (t : HashMap ℕ ℕ (BuildHasherDefault FoldHasher)) → Updates nat_eq m.resources t i.index (Some j.index) → AreCopies c e (record m { resources = t })
    resource_more t u =
        let b = AreCopies-kept c d e m grows (sym (ap (λ d. d.number) added)) a in
        record {
          number = b.number;
          defined_types = b.defined_types;
          resources = EachCopied-more c e resource_at m.number m.resources t i.index j.index u b.resources resource_is_copy;
          func_types = b.func_types;
          interfaces = b.interfaces;
          worlds = b.worlds;
          modules = b.modules;
        }

    pub resource_same : (t : HashMap ℕ ℕ (BuildHasherDefault FoldHasher)) → IsUnchanged m.resources t → AreCopies c e (record m { resources = t })
    resource_same t u =
        let b = AreCopies-kept c d e m grows (sym (ap (λ d. d.number) added)) a in
        record {
          number = b.number;
          defined_types = b.defined_types;
          resources = EachCopied-same c e resource_at m.number m.resources t u b.resources;
          func_types = b.func_types;
          interfaces = b.interfaces;
          worlds = b.worlds;
          modules = b.modules;
        }

module _ (c d e : Collection) (m : Copies) (ha : IsAcyclic c) (hb : IsAcyclic d) (a : AreCopies c d m) (i : FuncTypeId) (x y : FuncType) (at : slice_get c.func_types i.index ≡ Some x) (own : i.collection ≡ c.number) (places : KnowsPlaces c m (ItemKind.Func i)) (same : y ≡ func_copy m x) where
  func_node : item_node c (ItemKind.Func i) ≡ Some (func_entry x)
  unfolding item_node
  func_node = entry_at-is func_entry c.number c.func_types i.collection i.index x at own

  func_mapped : func_entry y ≡ ((func_entry x).0, map (option_map (kind_copy m)) (func_entry x).1)
  func_mapped = ap func_entry same ∙ func_entry_renamed (copied_ids m) x

  pub func_children : HasChildren d (func_entry y)
  func_children = children_stand c d m ha hb a (ItemKind.Func i) (func_entry x) (func_entry y) func_node places func_mapped

  module _ (j : FuncTypeId) (grows : Grows d e) (added : e ≡ keeping e.kept (record d { func_types = d.func_types ++ y ∷ [] })) (id : j ≡ record { collection = d.number; index = length d.func_types }) where
    func_there : item_node e (ItemKind.Func j) ≡ Some (func_entry y)
    unfolding item_node
    func_there = entry_at-is func_entry e.number e.func_types j.collection j.index y
        (ap (λ d. slice_get d.func_types j.index) added ∙ ap (λ i. slice_get (d.func_types ++ y ∷ []) i.index) id ∙ last_place d.func_types y)
        (ap (λ i. i.collection) id ∙ sym (ap (λ d. d.number) added))

    func_is_copy : IsCopy c e (func_at c.number i.index) (func_at m.number j.index)
    func_is_copy =
        subst (λ a. IsCopy c e (func_at a i.index) (func_at m.number j.index)) own
        (subst (λ b. IsCopy c e (ItemKind.Func i) (func_at b j.index)) (ap (λ i. i.collection) id ∙ sym a.number)
        (entry_copied c d m ha hb a e grows (ItemKind.Func i) (ItemKind.Func j) (func_entry x) (func_entry y) func_node places func_mapped func_there))

    -- with the copy in its table
    pub func_more : (t : HashMap ℕ ℕ (BuildHasherDefault FoldHasher)) → Updates nat_eq m.func_types t i.index (Some j.index) → AreCopies c e (record m { func_types = t })
    func_more t u =
        let b = AreCopies-kept c d e m grows (sym (ap (λ d. d.number) added)) a in
        record {
          number = b.number;
          defined_types = b.defined_types;
          resources = b.resources;
          func_types = EachCopied-more c e func_at m.number m.func_types t i.index j.index u b.func_types func_is_copy;
          interfaces = b.interfaces;
          worlds = b.worlds;
          modules = b.modules;
        }

    pub func_same : (t : HashMap ℕ ℕ (BuildHasherDefault FoldHasher)) → IsUnchanged m.func_types t → AreCopies c e (record m { func_types = t })
    func_same t u =
        let b = AreCopies-kept c d e m grows (sym (ap (λ d. d.number) added)) a in
        record {
          number = b.number;
          defined_types = b.defined_types;
          resources = b.resources;
          func_types = EachCopied-same c e func_at m.number m.func_types t u b.func_types;
          interfaces = b.interfaces;
          worlds = b.worlds;
          modules = b.modules;
        }

module _ (c d e : Collection) (m : Copies) (ha : IsAcyclic c) (hb : IsAcyclic d) (a : AreCopies c d m) (i : InterfaceId) (x y : Interface) (at : slice_get c.interfaces i.index ≡ Some x) (own : i.collection ≡ c.number) (places : KnowsPlaces c m (ItemKind.Instance i)) (same : y ≡ interface_copy m x) where
  interface_node : item_node c (ItemKind.Instance i) ≡ Some (interface_entry x)
  unfolding item_node
  interface_node = entry_at-is interface_entry c.number c.interfaces i.collection i.index x at own

  interface_mapped : interface_entry y ≡ ((interface_entry x).0, map (option_map (kind_copy m)) (interface_entry x).1)
  interface_mapped = ap interface_entry same ∙ interface_entry_renamed (copied_ids m) x

  pub interface_children : HasChildren d (interface_entry y)
  interface_children = children_stand c d m ha hb a (ItemKind.Instance i) (interface_entry x) (interface_entry y) interface_node places interface_mapped

  module _ (j : InterfaceId) (grows : Grows d e) (added : e ≡ keeping e.kept (record d { interfaces = d.interfaces ++ y ∷ [] })) (id : j ≡ record { collection = d.number; index = length d.interfaces }) where
    interface_there : item_node e (ItemKind.Instance j) ≡ Some (interface_entry y)
    unfolding item_node
    interface_there = entry_at-is interface_entry e.number e.interfaces j.collection j.index y
        (ap (λ d. slice_get d.interfaces j.index) added ∙ ap (λ i. slice_get (d.interfaces ++ y ∷ []) i.index) id ∙ last_place d.interfaces y)
        (ap (λ i. i.collection) id ∙ sym (ap (λ d. d.number) added))

    interface_is_copy : IsCopy c e (interface_at c.number i.index) (interface_at m.number j.index)
    interface_is_copy =
        subst (λ a. IsCopy c e (interface_at a i.index) (interface_at m.number j.index)) own
        (subst (λ b. IsCopy c e (ItemKind.Instance i) (interface_at b j.index)) (ap (λ i. i.collection) id ∙ sym a.number)
        (entry_copied c d m ha hb a e grows (ItemKind.Instance i) (ItemKind.Instance j) (interface_entry x) (interface_entry y) interface_node places interface_mapped interface_there))

    -- with the copy in its table
    pub interface_more : (t : HashMap ℕ ℕ (BuildHasherDefault FoldHasher)) → Updates nat_eq m.interfaces t i.index (Some j.index) → AreCopies c e (record m { interfaces = t })
    interface_more t u =
        let b = AreCopies-kept c d e m grows (sym (ap (λ d. d.number) added)) a in
        record {
          number = b.number;
          defined_types = b.defined_types;
          resources = b.resources;
          func_types = b.func_types;
          interfaces = EachCopied-more c e interface_at m.number m.interfaces t i.index j.index u b.interfaces interface_is_copy;
          worlds = b.worlds;
          modules = b.modules;
        }

    pub interface_same : (t : HashMap ℕ ℕ (BuildHasherDefault FoldHasher)) → IsUnchanged m.interfaces t → AreCopies c e (record m { interfaces = t })
    interface_same t u =
        let b = AreCopies-kept c d e m grows (sym (ap (λ d. d.number) added)) a in
        record {
          number = b.number;
          defined_types = b.defined_types;
          resources = b.resources;
          func_types = b.func_types;
          interfaces = EachCopied-same c e interface_at m.number m.interfaces t u b.interfaces;
          worlds = b.worlds;
          modules = b.modules;
        }

module _ (c d e : Collection) (m : Copies) (ha : IsAcyclic c) (hb : IsAcyclic d) (a : AreCopies c d m) (i : WorldId) (x y : World) (at : slice_get c.worlds i.index ≡ Some x) (own : i.collection ≡ c.number) (places : KnowsPlaces c m (ItemKind.Component i)) (same : y ≡ world_copy m x) where
  world_node : item_node c (ItemKind.Component i) ≡ Some (world_entry x)
  unfolding item_node
  world_node = entry_at-is world_entry c.number c.worlds i.collection i.index x at own

  world_mapped : world_entry y ≡ ((world_entry x).0, map (option_map (kind_copy m)) (world_entry x).1)
  world_mapped = ap world_entry same ∙ world_entry_renamed (copied_ids m) x

  pub world_children : HasChildren d (world_entry y)
  world_children = children_stand c d m ha hb a (ItemKind.Component i) (world_entry x) (world_entry y) world_node places world_mapped

  module _ (j : WorldId) (grows : Grows d e) (added : e ≡ keeping e.kept (record d { worlds = d.worlds ++ y ∷ [] })) (id : j ≡ record { collection = d.number; index = length d.worlds }) where
    world_there : item_node e (ItemKind.Component j) ≡ Some (world_entry y)
    unfolding item_node
    world_there = entry_at-is world_entry e.number e.worlds j.collection j.index y
        (ap (λ d. slice_get d.worlds j.index) added ∙ ap (λ i. slice_get (d.worlds ++ y ∷ []) i.index) id ∙ last_place d.worlds y)
        (ap (λ i. i.collection) id ∙ sym (ap (λ d. d.number) added))

    world_is_copy : IsCopy c e (world_at c.number i.index) (world_at m.number j.index)
    world_is_copy =
        subst (λ a. IsCopy c e (world_at a i.index) (world_at m.number j.index)) own
        (subst (λ b. IsCopy c e (ItemKind.Component i) (world_at b j.index)) (ap (λ i. i.collection) id ∙ sym a.number)
        (entry_copied c d m ha hb a e grows (ItemKind.Component i) (ItemKind.Component j) (world_entry x) (world_entry y) world_node places world_mapped world_there))

    -- with the copy in its table
    pub world_more : (t : HashMap ℕ ℕ (BuildHasherDefault FoldHasher)) → Updates nat_eq m.worlds t i.index (Some j.index) → AreCopies c e (record m { worlds = t })
    world_more t u =
        let b = AreCopies-kept c d e m grows (sym (ap (λ d. d.number) added)) a in
        record {
          number = b.number;
          defined_types = b.defined_types;
          resources = b.resources;
          func_types = b.func_types;
          interfaces = b.interfaces;
          worlds = EachCopied-more c e world_at m.number m.worlds t i.index j.index u b.worlds world_is_copy;
          modules = b.modules;
        }

    pub world_same : (t : HashMap ℕ ℕ (BuildHasherDefault FoldHasher)) → IsUnchanged m.worlds t → AreCopies c e (record m { worlds = t })
    world_same t u =
        let b = AreCopies-kept c d e m grows (sym (ap (λ d. d.number) added)) a in
        record {
          number = b.number;
          defined_types = b.defined_types;
          resources = b.resources;
          func_types = b.func_types;
          interfaces = b.interfaces;
          worlds = EachCopied-same c e world_at m.number m.worlds t u b.worlds;
          modules = b.modules;
        }

module _ (c d e : Collection) (m : Copies) (ha : IsAcyclic c) (hb : IsAcyclic d) (a : AreCopies c d m) (i : ModuleTypeId) (x y : ModuleType) (at : slice_get c.modules i.index ≡ Some x) (own : i.collection ≡ c.number) (places : KnowsPlaces c m (ItemKind.Module i)) (same : y ≡ x) where
  module_node : item_node c (ItemKind.Module i) ≡ Some (module_entry x)
  unfolding item_node
  module_node = entry_at-is module_entry c.number c.modules i.collection i.index x at own

  module_mapped : module_entry y ≡ ((module_entry x).0, map (option_map (kind_copy m)) (module_entry x).1)
  module_mapped = ap module_entry same ∙ module_entry_renamed (copied_ids m) x

  pub module_children : HasChildren d (module_entry y)
  module_children = children_stand c d m ha hb a (ItemKind.Module i) (module_entry x) (module_entry y) module_node places module_mapped

  module _ (j : ModuleTypeId) (grows : Grows d e) (added : e ≡ keeping e.kept (record d { modules = d.modules ++ y ∷ [] })) (id : j ≡ record { collection = d.number; index = length d.modules }) where
    module_there : item_node e (ItemKind.Module j) ≡ Some (module_entry y)
    unfolding item_node
    module_there = entry_at-is module_entry e.number e.modules j.collection j.index y
        (ap (λ d. slice_get d.modules j.index) added ∙ ap (λ i. slice_get (d.modules ++ y ∷ []) i.index) id ∙ last_place d.modules y)
        (ap (λ i. i.collection) id ∙ sym (ap (λ d. d.number) added))

    module_is_copy : IsCopy c e (module_at c.number i.index) (module_at m.number j.index)
    module_is_copy =
        subst (λ a. IsCopy c e (module_at a i.index) (module_at m.number j.index)) own
        (subst (λ b. IsCopy c e (ItemKind.Module i) (module_at b j.index)) (ap (λ i. i.collection) id ∙ sym a.number)
        (entry_copied c d m ha hb a e grows (ItemKind.Module i) (ItemKind.Module j) (module_entry x) (module_entry y) module_node places module_mapped module_there))

    -- with the copy in its table
    pub module_more : (t : HashMap ℕ ℕ (BuildHasherDefault FoldHasher)) → Updates nat_eq m.modules t i.index (Some j.index) → AreCopies c e (record m { modules = t })
    module_more t u =
        let b = AreCopies-kept c d e m grows (sym (ap (λ d. d.number) added)) a in
        record {
          number = b.number;
          defined_types = b.defined_types;
          resources = b.resources;
          func_types = b.func_types;
          interfaces = b.interfaces;
          worlds = b.worlds;
          modules = EachCopied-more c e module_at m.number m.modules t i.index j.index u b.modules module_is_copy;
        }

    pub module_same : (t : HashMap ℕ ℕ (BuildHasherDefault FoldHasher)) → IsUnchanged m.modules t → AreCopies c e (record m { modules = t })
    module_same t u =
        let b = AreCopies-kept c d e m grows (sym (ap (λ d. d.number) added)) a in
        record {
          number = b.number;
          defined_types = b.defined_types;
          resources = b.resources;
          func_types = b.func_types;
          interfaces = b.interfaces;
          worlds = b.worlds;
          modules = EachCopied-same c e module_at m.number m.modules t u b.modules;
        }

-- the same places under another kind
module _ (c : Collection) (m : Copies) where
  pub places_borrow : (id : ResourceId) → KnowsPlaces c m (ItemKind.Value (ValueType.Borrow id)) → KnowsPlaces c m (ItemKind.Ty (TypeKind.Resource id))
  places_borrow id h j n = h j (subst (λ l. Among (Some j) l) (sym (slots_borrow c id)) n)

  pub places_own : (id : ResourceId) → KnowsPlaces c m (ItemKind.Value (ValueType.Own id)) → KnowsPlaces c m (ItemKind.Ty (TypeKind.Resource id))
  places_own id h j n = h j (subst (λ l. Among (Some j) l) (sym (slots_own c id)) n)

  pub places_typed_func : (id : FuncTypeId) → KnowsPlaces c m (ItemKind.Ty (TypeKind.Func id)) → KnowsPlaces c m (ItemKind.Func id)
  places_typed_func id h j n = h j (subst (λ l. Among (Some j) l) (sym (slots_typed_func c id)) n)

  pub places_typed_value : (v : ValueType) → KnowsPlaces c m (ItemKind.Ty (TypeKind.Value v)) → KnowsPlaces c m (ItemKind.Value v)
  places_typed_value id h j n = h j (subst (λ l. Among (Some j) l) (sym (slots_typed_value c id)) n)

  pub places_typed_interface : (id : InterfaceId) → KnowsPlaces c m (ItemKind.Ty (TypeKind.Interface id)) → KnowsPlaces c m (ItemKind.Instance id)
  places_typed_interface id h j n = h j (subst (λ l. Among (Some j) l) (sym (slots_typed_interface c id)) n)

  pub places_typed_world : (id : WorldId) → KnowsPlaces c m (ItemKind.Ty (TypeKind.World id)) → KnowsPlaces c m (ItemKind.Component id)
  places_typed_world id h j n = h j (subst (λ l. Among (Some j) l) (sym (slots_typed_world c id)) n)

  pub places_typed_module : (id : ModuleTypeId) → KnowsPlaces c m (ItemKind.Ty (TypeKind.Module id)) → KnowsPlaces c m (ItemKind.Module id)
  places_typed_module id h j n = h j (subst (λ l. Among (Some j) l) (sym (slots_typed_module c id)) n)

pub ruleset known_places = (places_borrow, places_own, places_typed_func, places_typed_value, places_typed_interface, places_typed_world, places_typed_module, stands_borrow, stands_own, stands_typed_func, stands_typed_value, stands_typed_interface, stands_typed_world, stands_typed_module)
