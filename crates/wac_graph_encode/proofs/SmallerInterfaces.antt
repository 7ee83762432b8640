-- An interface that stands among the exports of another is smaller, so that fewer interfaces are smaller than it.
use Rattle.std.proofs.Common.{◌≡◌, ◌<◌, ℕ, suc, length, refl, sym, ◌∙◌, subst, arith}
use Rattle.wac_types_base.specs.declared.ids.InterfaceId.{InterfaceId}
use Rattle.wac_types_base.specs.declared.item.«Type».{«Type» as TypeKind}
use Rattle.wac_types_base.specs.declared.item.ItemKind.{ItemKind}
use Rattle.wac_types_base.specs.declared.defined.Interface.{Interface}
use Rattle.wac_types_base.specs.Record.{Collection}
use Rattle.wac_types_base.specs.Entries.{Name}
use Rattle.wac_types_base.specs.Graph.{Among}
use Rattle.wac_types_base.specs.Collection.{Stands, IsAcyclic, item_node, interface_entry, size_of, type_of}
use Rattle.wac_types_base.proofs.GraphLemmas.{below, below-less, below-length}
use Rattle.wac_types_base.proofs.Looked.{among-get}
use Rattle.wac_types_base.proofs.Standing.{interface_found}
use Rattle.wac_types_base.proofs.Slots.{stands_typed_interface}
use Rattle.wac_types_base.proofs.Telling.{row_size, entry_size, typed_node}
use Rattle.wac_types_fit.proofs.Items.{exports_inside}
use Rattle.wac_types_fit.proofs.Unfolded.{interface_node}
use Rattle.wac_types_parts.specs.Parts.{IsOfInterface}
use Rattle.wac_types_parts.specs.Parts.{exports_of as exports_in}
use Rattle.wac_types_parts.proofs.PartLaws.{exports_there}

module _ (c : Collection) where
  -- how large an interface is
  abbrev weight : Interface → ℕ
  weight x = suc (row_size c (interface_entry x).1)

  -- how many interfaces are smaller than this one
  abbrev pub smaller : InterfaceId → ℕ
  smaller id = below weight (size_of c (ItemKind.Instance id)) c.interfaces

module _ (c : Collection) (a : IsAcyclic c) where
  -- an interface that stands is one of the list, and as large as it is there
  one_of : (id : InterfaceId) → Stands c (ItemKind.Instance id) → (x : Interface) × Among x c.interfaces × (weight c x ≡ size_of c (ItemKind.Instance id))
  one_of id st =
      let f = interface_found c id st in
      (f.value, among-get c.interfaces id.index f.value f.at, sym (entry_size c a (ItemKind.Instance id) (interface_entry f.value) (interface_node c id f.value f.at f.own)))

  -- the type item of an interface is as large as the instance
  typed_size : (id : InterfaceId) → Stands c (ItemKind.Ty (TypeKind.Interface id)) → Stands c (ItemKind.Instance id) × (size_of c (ItemKind.Instance id) ≡ size_of c (ItemKind.Ty (TypeKind.Interface id)))
  unfolding item_node
  typed_size id st =
      let t = typed_node c (ItemKind.Ty (TypeKind.Interface id)) (ItemKind.Instance id) refl st in
      (stands_typed_interface c id st, entry_size c a (ItemKind.Instance id) t.0 t.1 ∙ sym (entry_size c a (ItemKind.Ty (TypeKind.Interface id)) (type_of t.0.0, t.0.1) t.2))

  -- the interface of an item that stands itself stands, and is as large as the item
  pub interface_stands : (k : ItemKind) (j : InterfaceId) → IsOfInterface k j → Stands c k → Stands c (ItemKind.Instance j) × (size_of c (ItemKind.Instance j) ≡ size_of c k)
  interface_stands (ItemKind.Instance l) j e st = subst (λ z. Stands c (ItemKind.Instance z) × (size_of c (ItemKind.Instance z) ≡ size_of c (ItemKind.Instance l))) e (st, refl)
  interface_stands (ItemKind.Ty (TypeKind.Interface l)) j e st =
      subst (λ z. Stands c (ItemKind.Instance z) × (size_of c (ItemKind.Instance z) ≡ size_of c (ItemKind.Ty (TypeKind.Interface l)))) e (typed_size l st)
  interface_stands (ItemKind.Ty (TypeKind.Resource r)) j e st = absurd e
  interface_stands (ItemKind.Ty (TypeKind.Func r)) j e st = absurd e
  interface_stands (ItemKind.Ty (TypeKind.Value r)) j e st = absurd e
  interface_stands (ItemKind.Ty (TypeKind.World r)) j e st = absurd e
  interface_stands (ItemKind.Ty (TypeKind.Module r)) j e st = absurd e
  interface_stands (ItemKind.Func r) j e st = absurd e
  interface_stands (ItemKind.Component r) j e st = absurd e
  interface_stands (ItemKind.Module r) j e st = absurd e
  interface_stands (ItemKind.Value r) j e st = absurd e

  -- fewer interfaces are smaller than one among the exports of this
  pub fewer_inside : (id : InterfaceId) → Stands c (ItemKind.Instance id) → (n : Name) (k : ItemKind) → Among (n, k) (exports_in c id) → (j : InterfaceId) → IsOfInterface k j → smaller c j < smaller c id
  fewer_inside id st n k m j is =
      let f = interface_found c id st in
      let inside = exports_inside c a id f.value st f.at f.own n k (subst (Among (n, k)) (exports_there c id f.value f.at f.own) m) in
      let s = interface_stands k j is inside.0 in
      let x = one_of j s.0 in
      subst (λ l. below (weight c) l c.interfaces < smaller c id) x.2 (below-less (weight c) (size_of c (ItemKind.Instance id)) c.interfaces x.0 x.1 (omega (arith, x.2, s.1, inside.1)))

  -- since no interface is smaller than itself, not all of them are smaller than one
  pub fewer_than_all : (id : InterfaceId) → Stands c (ItemKind.Instance id) → smaller c id < length c.interfaces
  fewer_than_all id st =
      let x = one_of id st in
      let less = below-less (weight c) (suc (weight c x.0)) c.interfaces x.0 x.1 (omega arith) in
      let all = below-length (weight c) (suc (weight c x.0)) c.interfaces in
      subst (λ l. below (weight c) l c.interfaces < length c.interfaces) x.2 (omega (arith, less, all))
