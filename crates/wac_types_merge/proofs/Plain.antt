-- What the families have in common: their trees are plain, and so are the meets of plain trees.
use Rattle.std.proofs.Common.{◌≡◌, ℕ, zero, suc, ◌<◌, List, [], ◌∷◌, Option, Some, None, refl, sym, ap, subst, inl, inr, arith}
use Rattle.std.specs.Prelude.{slice_get}
use Rattle.std.specs.declared.cmp.Ordering.{Ordering}
use Rattle.wac_types_base.specs.declared.item.«Type».{«Type» as TypeKind}
use Rattle.wac_types_base.specs.declared.item.ItemKind.{ItemKind}
use Rattle.wac_types_base.specs.declared.ids.InterfaceId.{InterfaceId}
use Rattle.wac_types_base.specs.declared.defined.Interface.{Interface}
use Rattle.wac_types_base.specs.Record.{Collection}
use Rattle.wac_types_base.specs.Graph.{Among}
use Rattle.wac_types_base.specs.Entries.{Name, values_of}
use Rattle.wac_types_base.specs.Collection.{Stands, IsAcyclic, item_node, labelled, type_of, used, items, size_of, interface_entry}
use Rattle.wac_types_base.specs.Discrete.{tree_decided}
use Rattle.wac_types_base.specs.Reaching.{here, below}
use Rattle.wac_types_base.specs.Tree.{Tree, Fields, rigid, instance, component, core_module, handle_own, handle_borrow, type_item, no_fields, field, put, put_at, name_cmp}
use Rattle.wac_types_base.proofs.Adding.{option_map-some, Among-right}
use Rattle.wac_types_base.proofs.Slots.{entry_at-is, stands_typed_interface}
use Rattle.wac_types_base.proofs.Standing.{interface_found}
use Rattle.wac_types_fit.specs.Ordered.{InOrder}
use Rattle.wac_types_fit.specs.Lookups.{lookup}
use Rattle.wac_types_fit.specs.Meets.{IsMeet, IsPlain, ArePlain}
use Rattle.wac_types_fit.specs.Trees.{tree_in}
use Rattle.wac_types_fit.specs.Checking.{IsFlat}
use Rattle.wac_types_fit.proofs.Looking.{looked-has}
use Rattle.wac_types_fit.proofs.Items.{exports_inside, as_slot}
use Rattle.wac_types_fit.proofs.ItemKinds.{IsFlatTree, flat_is}
use Rattle.wac_types_fit.proofs.Meeting.{meet_at, with_instance, with_type, when, meet, meet_fields, meet_sound, meet_complete, meet_unique, put_both-some}
use Rattle.wac_types_fit.proofs.Unfolded.{fields_in, instance_tree, type_interface, interface_node, interface_size}
use Rattle.wac_types_merge.specs.declared.family.Family.{Family}
use Rattle.wac_types_merge.specs.Families.{IsPlainItem, IsWitExport, IsWitInterface, IsWitItem, IsFamily}
use Rattle.wac_types_merge.proofs.Clashing.{plain_has}

flat_plain : (t : Tree) → IsFlatTree t → IsPlain t
flat_plain (rigid s r) f = tt
flat_plain (handle_own t) f = tt
flat_plain (handle_borrow t) f = tt
flat_plain (instance xs) f = absurd f
flat_plain (component is es) f = absurd f
flat_plain (core_module is es) f = absurd f
flat_plain (type_item t) f = flat_plain t f

put_at_plain : (o : Ordering) (n m : Name) (t u : Tree) (xs rest : Fields) → IsPlain t → ArePlain (field m u xs) → ArePlain rest → ArePlain (put_at o n t m u xs rest)
put_at_plain Ordering.Less n m t u xs rest a b c = (a, b)
put_at_plain Ordering.Equal n m t u xs rest a b c = (a, b.1)
put_at_plain Ordering.Greater n m t u xs rest a b c = (b.0, c)

put_plain : (n : Name) (t : Tree) (xs : Fields) → IsPlain t → ArePlain xs → ArePlain (put n t xs)
put_plain n t no_fields a b = (a, tt)
put_plain n t (field m u xs) a b = put_at_plain (name_cmp n m) n m t u xs (put n t xs) a b (put_plain n t xs a b.1)

fields_plain : (c : Collection) (es : List (Name × ItemKind)) → ((n : Name) (k : ItemKind) → Among (n, k) es → IsPlain (tree_in c k)) → ArePlain (fields_in c es)
fields_plain c [] h = tt
fields_plain c (e ∷ es) h = put_plain e.0 (tree_in c e.1) (fields_in c es) (h e.0 e.1 (inl refl)) (fields_plain c es (λ n k m. h n k (inr m)))

value_among : (es : List (Name × ItemKind)) (n : Name) (k : ItemKind) → Among (n, k) es → Among k (values_of es)
value_among [] n k m = absurd m
value_among (x ∷ es) n k (inl e) = inl (ap (λ p. p.1) e)
value_among (x ∷ es) n k (inr m) = inr (value_among es n k m)

module _ (c : Collection) (a : IsAcyclic c) where
  flat_item : (k : ItemKind) → IsFlat k → Stands c k → IsPlain (tree_in c k)
  flat_item k f s = flat_plain (tree_in c k) (flat_is c a k f s)

  typed_node : (i : InterfaceId) (x : Interface) → slice_get c.interfaces i.index ≡ Some x → i.collection ≡ c.number → item_node c (ItemKind.Ty (TypeKind.Interface i)) ≡ Some (type_of (interface_entry x).0, (interface_entry x).1)
  unfolding item_node
  typed_node i x e h = ap (labelled type_of) (entry_at-is interface_entry c.number c.interfaces i.collection i.index x e h)

  -- the exports of an instance that is plain are plain, if those smaller than it are
  plain_exports : (n : ℕ) (i : InterfaceId) (x : Interface) → slice_get c.interfaces i.index ≡ Some x → i.collection ≡ c.number → Stands c (ItemKind.Instance i) → size_of c (ItemKind.Instance i) < suc n
      → ((j : ItemKind) → Among (Some j) (interface_entry x).1 → IsPlainItem c j)
      → ((j : ItemKind) → size_of c j < n → Stands c j → IsPlainItem c j → IsPlain (tree_in c j))
      → IsPlain (tree_in c (ItemKind.Instance i))
  plain_exports n i x at own s lt p r =
      subst IsPlain (sym (instance_tree c a i x at own)) (fields_plain c x.exports (λ m j q.
      let inside = exports_inside c a i x s at own m j q in
      let less = inside.1 in
      r j (omega (arith, lt, less)) inside.0 (p j (Among-right (Some j) (used x.uses) (items x.exports) (as_slot x.exports m j q)))))

  plain_by_size : (n : ℕ) (k : ItemKind) → size_of c k < n → Stands c k → IsPlainItem c k → IsPlain (tree_in c k)
  plain_by_size zero k lt s p = absurd (omega arith)
  plain_by_size (suc n) (ItemKind.Func f) lt s p = flat_item (ItemKind.Func f) tt s
  plain_by_size (suc n) (ItemKind.Value v) lt s p = flat_item (ItemKind.Value v) tt s
  plain_by_size (suc n) (ItemKind.Component w) lt s p = absurd (p (here tt))
  plain_by_size (suc n) (ItemKind.Module m) lt s p = absurd (p (here tt))
  plain_by_size (suc n) (ItemKind.Instance i) lt s p =
      let f = interface_found c i s in
      plain_exports n i f.value f.at f.own s lt (λ j m r. p (below (interface_node c i f.value f.at f.own) m r)) (λ j. plain_by_size n j)
  plain_by_size (suc n) (ItemKind.Ty (TypeKind.Resource r)) lt s p = flat_item (ItemKind.Ty (TypeKind.Resource r)) tt s
  plain_by_size (suc n) (ItemKind.Ty (TypeKind.Func f)) lt s p = flat_item (ItemKind.Ty (TypeKind.Func f)) tt s
  plain_by_size (suc n) (ItemKind.Ty (TypeKind.Value v)) lt s p = flat_item (ItemKind.Ty (TypeKind.Value v)) tt s
  plain_by_size (suc n) (ItemKind.Ty (TypeKind.World w)) lt s p = absurd (p (here tt))
  plain_by_size (suc n) (ItemKind.Ty (TypeKind.Module m)) lt s p = absurd (p (here tt))
  plain_by_size (suc n) (ItemKind.Ty (TypeKind.Interface i)) lt s p =
      let r = stands_typed_interface c i s in
      let f = interface_found c i r in
      let same = interface_size c a i s in
      subst IsPlain (sym (type_interface c a i s))
      (plain_exports n i f.value f.at f.own r (omega (arith, lt, same)) (λ j m q. p (below (typed_node i f.value f.at f.own) m q)) (λ j. plain_by_size n j))

  pub plain_item : (k : ItemKind) → Stands c k → IsPlainItem c k → IsPlain (tree_in c k)
  plain_item k s p = plain_by_size (suc (size_of c k)) k (omega arith) s p

  wit_flat : (k : ItemKind) → IsWitExport k → IsFlat k
  wit_flat (ItemKind.Func f) h = tt
  wit_flat (ItemKind.Ty (TypeKind.Value v)) h = tt
  wit_flat (ItemKind.Ty (TypeKind.Resource r)) h = tt
  wit_flat (ItemKind.Ty (TypeKind.Func f)) h = absurd h
  wit_flat (ItemKind.Ty (TypeKind.Interface f)) h = absurd h
  wit_flat (ItemKind.Ty (TypeKind.World f)) h = absurd h
  wit_flat (ItemKind.Ty (TypeKind.Module f)) h = absurd h
  wit_flat (ItemKind.Instance f) h = absurd h
  wit_flat (ItemKind.Component f) h = absurd h
  wit_flat (ItemKind.Module f) h = absurd h
  wit_flat (ItemKind.Value f) h = absurd h

  pub wit_item : (name : Name) (k : ItemKind) → Stands c k → IsWitItem c name k → IsPlain (tree_in c k)
  wit_item name (ItemKind.Instance i) s h =
      let f = interface_found c i s in
      let w = subst (IsWitInterface c name i) f.at h in
      subst IsPlain (sym (instance_tree c a i f.value f.at f.own)) (fields_plain c f.value.exports (λ m j q.
      flat_item j (wit_flat j (w.1 j (value_among f.value.exports m j q)).0) (exports_inside c a i f.value s f.at f.own m j q).0))
  wit_item name (ItemKind.Ty t) s h = absurd h
  wit_item name (ItemKind.Func t) s h = absurd h
  wit_item name (ItemKind.Component t) s h = absurd h
  wit_item name (ItemKind.Module t) s h = absurd h
  wit_item name (ItemKind.Value t) s h = absurd h

  -- of an ask in a family
  pub family_plain : (name : Name) (k : ItemKind) (f : Family) → Stands c k → IsFamily c name k f → (f ≡ Family.Neither → ⊥) → IsPlain (tree_in c k)
  family_plain name k Family.Plain s h n = plain_item k s h
  family_plain name k Family.Wit s h n = wit_item name k s h
  family_plain name k Family.Neither s h n = absurd (n refl)

-- ---- meets

when_plain : {P : Type 0} (d : Dec P) (t m : Tree) → when d t ≡ Some m → IsPlain t → IsPlain m
when_plain (yes p) t m e h = let is : t ≡ m = cc e in subst IsPlain is h
when_plain (no p) t m e h = absurd (cc e)

abbrev KeepsPlain : Tree → Type 0
KeepsPlain t = (u m : Tree) → IsPlain t → IsPlain u → meet tree_decided t u ≡ Some m → IsPlain m

abbrev KeepPlain : Fields → Type 0
KeepPlain xs = (ys zs : Fields) → ArePlain xs → ArePlain ys → meet_fields tree_decided xs ys ≡ Some zs → ArePlain zs

at_plain : (t m : Tree) (o : Option Tree) → KeepsPlain t → IsPlain t → ((u : Tree) → o ≡ Some u → IsPlain u) → meet_at (meet tree_decided t) t o ≡ Some m → IsPlain m
at_plain t m None h p q e = let is : t ≡ m = cc e in subst IsPlain is p
at_plain t m (Some u) h p q e = h u m p (q u refl) e

more_plain : (n : Name) (t : Tree) (xs : Fields) → KeepsPlain t → KeepPlain xs → KeepPlain (field n t xs)
more_plain n t xs h r ys zs p q e =
    let b = put_both-some n (meet_at (meet tree_decided t) t (lookup n ys)) (meet_fields tree_decided xs ys) zs e in
    let first = at_plain t b.0 (lookup n ys) h p.0 (λ u is. plain_has n u ys (looked-has n u ys is) q) b.2 in
    subst ArePlain b.4 (put_plain n b.0 b.1 first (r ys b.1 p.1 q b.3))

instance_plain : (xs : Fields) → KeepPlain xs → (u m : Tree) → ArePlain xs → IsPlain u → with_instance (meet_fields tree_decided xs) u ≡ Some m → IsPlain m
instance_plain xs h (instance ys) m p q e =
    let o = option_map-some instance (meet_fields tree_decided xs ys) m e in
    subst IsPlain (sym o.2) (h ys o.0 p q o.1)
instance_plain xs h (rigid s r) m p q e = absurd (cc e)
instance_plain xs h (component is es) m p q e = absurd (cc e)
instance_plain xs h (core_module is es) m p q e = absurd (cc e)
instance_plain xs h (handle_own t) m p q e = absurd (cc e)
instance_plain xs h (handle_borrow t) m p q e = absurd (cc e)
instance_plain xs h (type_item t) m p q e = absurd (cc e)

type_plain : (t : Tree) → KeepsPlain t → (u m : Tree) → IsPlain t → IsPlain u → with_type (meet tree_decided t) u ≡ Some m → IsPlain m
type_plain t h (type_item u) m p q e =
    let o = option_map-some type_item (meet tree_decided t u) m e in
    subst IsPlain (sym o.2) (h u o.0 p q o.1)
type_plain t h (rigid s r) m p q e = absurd (cc e)
type_plain t h (component is es) m p q e = absurd (cc e)
type_plain t h (core_module is es) m p q e = absurd (cc e)
type_plain t h (handle_own v) m p q e = absurd (cc e)
type_plain t h (handle_borrow v) m p q e = absurd (cc e)
type_plain t h (instance ys) m p q e = absurd (cc e)

mutual
  keeps_plain : (t : Tree) → KeepsPlain t
  keeps_plain (rigid s r) u m p q e = when_plain (tree_decided (rigid s r) u) (rigid s r) m e p
  keeps_plain (handle_own t) u m p q e = when_plain (tree_decided (handle_own t) u) (handle_own t) m e p
  keeps_plain (handle_borrow t) u m p q e = when_plain (tree_decided (handle_borrow t) u) (handle_borrow t) m e p
  keeps_plain (component is es) u m p q e = absurd p
  keeps_plain (core_module is es) u m p q e = absurd p
  keeps_plain (instance xs) u m p q e = instance_plain xs (keep_plain xs) u m p q e
  keeps_plain (type_item t) u m p q e = type_plain t (keeps_plain t) u m p q e

  keep_plain : (xs : Fields) → KeepPlain xs
  keep_plain no_fields ys zs p q e = let is : ys ≡ zs = cc e in subst ArePlain is q
  keep_plain (field n t xs) ys zs p q e = more_plain n t xs (keeps_plain t) (keep_plain xs) ys zs p q e

-- the meet of two plain trees is plain
pub plain_meet : (t u m : Tree) → InOrder t → InOrder u → IsPlain t → IsPlain u → IsMeet m (t ∷ u ∷ []) → IsPlain m
plain_meet t u m a b p q h =
    let k = meet_complete tree_decided t u m h.ordered b p h.fits.0 h.fits.1.0 in
    let same = meet_unique m k.0 (t ∷ u ∷ []) h (meet_sound tree_decided t u k.0 a b k.1) in
    subst IsPlain (sym same) (keeps_plain t u k.0 p q k.1)
