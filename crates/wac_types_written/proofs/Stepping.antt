-- How large what is walked is, and what it uses.
use Rattle.std.proofs.Common.{◌≡◌, ℕ, suc, ◌+◌, ◌≤◌, List, [], ◌∷◌, ◌++◌, map, take, Some, None, slice_get, refl, sym, ap, subst, ◌∙◌, arith}
use Rattle.std.proofs.lemmas.List.{append-nil}
use Rattle.std.specs.List.{flat_map}
use Rattle.wac_types_base.specs.declared.item.«Type».{«Type» as TypeKind}
use Rattle.wac_types_base.specs.declared.item.ItemKind.{ItemKind}
use Rattle.wac_types_base.specs.declared.ids.InterfaceId.{InterfaceId}
use Rattle.wac_types_base.specs.declared.defined.UsedType.{UsedType}
use Rattle.wac_types_base.specs.declared.defined.Interface.{Interface}
use Rattle.wac_types_base.specs.Record.{Collection}
use Rattle.wac_types_base.specs.Entries.{Name, values_of}
use Rattle.wac_types_base.specs.Graph.{node, nodes}
use Rattle.wac_types_base.specs.Collection.{Shape, Slot, Stands, IsAcyclic, items, size_of, type_of, used}
use Rattle.wac_types_base.specs.Stated.{Stated, as_type, relabelled, stated_of}
use Rattle.wac_types_base.proofs.Looked.{among-get, take-one_more}
use Rattle.wac_types_base.proofs.Loops.{map-get}
use Rattle.wac_types_base.proofs.Slots.{stands_typed_interface}
use Rattle.wac_types_base.proofs.Standing.{interface_found}
use Rattle.wac_types_base.proofs.Telling.{place_size, row_size, size_stated}
use Rattle.wac_types_written.specs.Forms.{ItemsStand, UsesStand, stated_items, stated_uses, through}
use Rattle.wac_types_written.specs.Walked.{below_items, below_uses, interface_in}
use Rattle.wac_types_written.specs.Written.{dependencies, used_through}
use Rattle.wac_types_written.proofs.Depending.{interface_depends, type_depends}
use Rattle.wac_types_written.proofs.Ids.{component_depends, interface_size, interface_states, interface_type_states, other_depends, world_type_depends}

-- ---- sizes

pub row_append : (c : Collection) (xs ys : List Slot) → row_size c (xs ++ ys) ≡ row_size c xs + row_size c ys
row_append c [] ys = omega arith
row_append c (None ∷ xs) ys = row_append c xs ys
row_append c (Some k ∷ xs) ys = let h = row_append c xs ys in omega (arith, h)

same_nodes : (f : Shape → Shape) (x : Stated) → nodes (relabelled f x) ≡ nodes x
same_nodes f (node s ts) = refl

module _ (c : Collection) (a : IsAcyclic c) where
  pub use_size : (us : List (Name × UsedType)) (i : ℕ) (n : Name) (u : UsedType) → slice_get us i ≡ Some (n, u) → UsesStand c us → size_of c (ItemKind.Instance u.interface) ≤ row_size c (used us)
  use_size us i n u at h =
      let s = place_size c (used us) i (ItemKind.Instance u.interface) (map-get (λ (u : UsedType). Some (ItemKind.Instance u.interface)) (values_of us) i u (map-get (λ (x : Name × UsedType). x.1) us i (n, u) at)) in
      let e = size_stated c a (ItemKind.Instance u.interface) (h (n, u) (among-get us i (n, u) at)) in
      omega (arith, s, e)

  pub item_size : (xs : List (Name × ItemKind)) (i : ℕ) (n : Name) (k : ItemKind) → slice_get xs i ≡ Some (n, k) → ItemsStand c xs → size_of c k ≤ row_size c (items xs)
  item_size xs i n k at h =
      let s = place_size c (items xs) i k (map-get Some (values_of xs) i k (map-get (λ (x : Name × ItemKind). x.1) xs i (n, k) at)) in
      let e = size_stated c a k (h (n, k) (among-get xs i (n, k) at)) in
      omega (arith, s, e)

  pub parts_size : (id : InterfaceId) (i : Interface) → slice_get c.interfaces id.index ≡ Some i → id.collection ≡ c.number → size_of c (ItemKind.Instance id) ≡ suc (row_size c (used i.uses) + row_size c (items i.exports))
  parts_size id i at own = interface_size c a id i at own ∙ ap suc (row_append c (used i.uses) (items i.exports))

  -- ---- what is used

  pub parts_depend : (id : InterfaceId) (i : Interface) → slice_get c.interfaces id.index ≡ Some i → id.collection ≡ c.number → dependencies (stated_of c (ItemKind.Instance id)) ≡ below_uses c i.uses ++ below_items c i.exports
  parts_depend id i at own = ap dependencies (interface_states c a id i at own) ∙ interface_depends i.id (stated_uses c i.uses) (stated_items c i.exports)

  typed_depend : (id : InterfaceId) → Stands c (ItemKind.Instance id) → dependencies (stated_of c (ItemKind.Ty (TypeKind.Interface id))) ≡ dependencies (stated_of c (ItemKind.Instance id))
  typed_depend id s =
      let f = interface_found c id s in
      let e = interface_states c a id f.value f.at f.own in
      ap dependencies (interface_type_states c a id s ∙ ap as_type e) ∙ type_depends f.value.id (stated_uses c f.value.uses) (stated_items c f.value.exports) ∙ ap dependencies (sym e)

  -- an item that has an interface stands as that, and is as large, and uses what that does
  pub record IsOne (k : ItemKind) (id : InterfaceId) : Type 0 where
    pub stands : Stands c (ItemKind.Instance id)
    pub size : size_of c (ItemKind.Instance id) ≡ size_of c k
    pub depend : dependencies (stated_of c k) ≡ dependencies (stated_of c (ItemKind.Instance id))

  instance_one : (k : ItemKind) (id : InterfaceId) → k ≡ ItemKind.Instance id → Stands c k → IsOne k id
  instance_one k id e s = record {
    stands = subst (Stands c) e s;
    size = ap (size_of c) (sym e);
    depend = ap (λ k. dependencies (stated_of c k)) e;
  }

  type_one : (k : ItemKind) (id : InterfaceId) → k ≡ ItemKind.Ty (TypeKind.Interface id) → Stands c k → IsOne k id
  type_one k id e s =
      let t : Stands c (ItemKind.Ty (TypeKind.Interface id)) = subst (Stands c) e s in
      let i : Stands c (ItemKind.Instance id) = stands_typed_interface c id t in
      record {
        stands = i;
        size = size_stated c a (ItemKind.Instance id) i ∙ sym (ap nodes (interface_type_states c a id i) ∙ same_nodes type_of (stated_of c (ItemKind.Instance id))) ∙ sym (size_stated c a (ItemKind.Ty (TypeKind.Interface id)) t) ∙ ap (size_of c) (sym e);
        depend = ap (λ k. dependencies (stated_of c k)) e ∙ typed_depend id i;
      }

  pub with_interface : (k : ItemKind) (id : InterfaceId) → interface_in k ≡ Some id → Stands c k → IsOne k id
  with_interface (ItemKind.Instance i) id e s = instance_one (ItemKind.Instance i) id (ap ItemKind.Instance (cc e)) s
  with_interface (ItemKind.Ty (TypeKind.Interface i)) id e s = type_one (ItemKind.Ty (TypeKind.Interface i)) id (ap (λ i. ItemKind.Ty (TypeKind.Interface i)) (cc e)) s
  with_interface (ItemKind.Ty (TypeKind.Resource i)) id e s = absurd (cc e)
  with_interface (ItemKind.Ty (TypeKind.Func i)) id e s = absurd (cc e)
  with_interface (ItemKind.Ty (TypeKind.Value i)) id e s = absurd (cc e)
  with_interface (ItemKind.Ty (TypeKind.World i)) id e s = absurd (cc e)
  with_interface (ItemKind.Ty (TypeKind.Module i)) id e s = absurd (cc e)
  with_interface (ItemKind.Func i) id e s = absurd (cc e)
  with_interface (ItemKind.Component i) id e s = absurd (cc e)
  with_interface (ItemKind.Module i) id e s = absurd (cc e)
  with_interface (ItemKind.Value i) id e s = absurd (cc e)

  pub without_interface : (k : ItemKind) → interface_in k ≡ None → Stands c k → dependencies (stated_of c k) ≡ []
  without_interface (ItemKind.Instance i) e s = absurd (cc e)
  without_interface (ItemKind.Ty (TypeKind.Interface i)) e s = absurd (cc e)
  without_interface (ItemKind.Ty (TypeKind.Resource i)) e s = other_depends c a (ItemKind.Ty (TypeKind.Resource i)) s tt
  without_interface (ItemKind.Ty (TypeKind.Func i)) e s = other_depends c a (ItemKind.Ty (TypeKind.Func i)) s tt
  without_interface (ItemKind.Ty (TypeKind.Value i)) e s = other_depends c a (ItemKind.Ty (TypeKind.Value i)) s tt
  without_interface (ItemKind.Ty (TypeKind.World i)) e s = world_type_depends c a i s
  without_interface (ItemKind.Ty (TypeKind.Module i)) e s = other_depends c a (ItemKind.Ty (TypeKind.Module i)) s tt
  without_interface (ItemKind.Func i) e s = other_depends c a (ItemKind.Func i) s tt
  without_interface (ItemKind.Component i) e s = component_depends c a i s
  without_interface (ItemKind.Module i) e s = other_depends c a (ItemKind.Module i) s tt
  without_interface (ItemKind.Value i) e s = other_depends c a (ItemKind.Value i) s tt

-- ---- one more of a loop

flat_last : {X Y : Type 0} (f : X → List Y) (xs : List X) (x : X) → flat_map f (xs ++ x ∷ []) ≡ flat_map f xs ++ f x
flat_last f [] x = append-nil (f x)
flat_last f (y ∷ xs) x = ap (λ l. f y ++ l) (flat_last f xs x) ∙ sym (append_twice (f y) (flat_map f xs) (f x))
  where
    append_twice : {Y : Type 0} (as_ bs cs : List Y) → (as_ ++ bs) ++ cs ≡ as_ ++ (bs ++ cs)
    append_twice [] bs cs = refl
    append_twice (y ∷ as_) bs cs = ap (λ l. y ∷ l) (append_twice as_ bs cs)

flat_mapped : {X Y Z : Type 0} (g : Y → List Z) (f : X → Y) (xs : List X) → flat_map g (map f xs) ≡ flat_map (λ x. g (f x)) xs
flat_mapped g f [] = refl
flat_mapped g f (x ∷ xs) = ap (λ l. g (f x) ++ l) (flat_mapped g f xs)

pub uses_next : (c : Collection) (us : List (Name × UsedType)) (i : ℕ) (n : Name) (u : UsedType) → slice_get us i ≡ Some (n, u) → below_uses c (take i us) ++ through (stated_of c (ItemKind.Instance u.interface)) ≡ below_uses c (take (i + 1) us)
uses_next c us i n u at =
    let f : Name × UsedType → List (Name × Stated) = λ u. through (stated_of c (ItemKind.Instance u.1.interface)) in
    let same : (vs : List (Name × UsedType)) → below_uses c vs ≡ flat_map f vs = λ vs. flat_mapped used_through _ vs in
    ap (λ l. l ++ f (n, u)) (same (take i us)) ∙ sym (flat_last f (take i us) (n, u)) ∙ ap (flat_map f) (sym (take-one_more us i (n, u) at)) ∙ sym (same (take (i + 1) us))

pub items_next : (c : Collection) (xs : List (Name × ItemKind)) (i : ℕ) (n : Name) (k : ItemKind) → slice_get xs i ≡ Some (n, k) → below_items c (take i xs) ++ dependencies (stated_of c k) ≡ below_items c (take (i + 1) xs)
items_next c xs i n k at =
    let f : Name × ItemKind → List (Name × Stated) = λ x. dependencies (stated_of c x.1) in
    let same : (ys : List (Name × ItemKind)) → below_items c ys ≡ flat_map f ys = λ ys. flat_mapped (λ (e : Name × Stated). dependencies e.1) _ ys in
    ap (λ l. l ++ f (n, k)) (same (take i xs)) ∙ sym (flat_last f (take i xs) (n, k)) ∙ ap (flat_map f) (sym (take-one_more xs i (n, k) at)) ∙ sym (same (take (i + 1) xs))
