-- The parts of interfaces and worlds are inside them.
use Rattle.std.proofs.Common.{◌≡◌, ℕ, ◌++◌, Some, slice_get}
use Rattle.wac_types_base.specs.declared.ids.InterfaceId.{InterfaceId}
use Rattle.wac_types_base.specs.declared.ids.WorldId.{WorldId}
use Rattle.wac_types_base.specs.declared.item.ItemKind.{ItemKind}
use Rattle.wac_types_base.specs.declared.defined.UsedType.{UsedType}
use Rattle.wac_types_base.specs.declared.defined.Interface.{Interface}
use Rattle.wac_types_base.specs.declared.defined.World.{World}
use Rattle.wac_types_base.specs.Record.{Collection}
use Rattle.wac_types_base.specs.Entries.{Name}
use Rattle.wac_types_base.specs.Collection.{Stands, IsAcyclic, used, items, interface_entry, world_entry}
use Rattle.wac_types_base.proofs.Adding.{Among-left}
use Rattle.wac_types_base.proofs.Slots.{slots_interface, slots_world}
use Rattle.wac_types_fit.specs.Trees.{IsInside}
use Rattle.wac_types_fit.proofs.Items.{exports_inside, world_imports_inside, world_exports_inside, slot_inside, used_among}
use Rattle.wac_types_base.proofs.Looked.{among-get}

module _ (c : Collection) (acyclic : IsAcyclic c) where
  pub use_inside : (id : InterfaceId) (x : Interface) → Stands c (ItemKind.Instance id) → slice_get c.interfaces id.index ≡ Some x → id.collection ≡ c.number → (at : ℕ) (n : Name) (u : UsedType) → slice_get x.uses at ≡ Some (n, u) → IsInside c (ItemKind.Instance u.interface) (ItemKind.Instance id)
  use_inside id x stands e own at n u is =
      slot_inside c acyclic (ItemKind.Instance id) (interface_entry x).1 stands (slots_interface c id x e own) (ItemKind.Instance u.interface)
      (Among-left (Some (ItemKind.Instance u.interface)) (used x.uses) (items x.exports) (used_among x.uses n u (among-get x.uses at (n, u) is)))

  pub export_inside : (id : InterfaceId) (x : Interface) → Stands c (ItemKind.Instance id) → slice_get c.interfaces id.index ≡ Some x → id.collection ≡ c.number → (at : ℕ) (n : Name) (k : ItemKind) → slice_get x.exports at ≡ Some (n, k) → IsInside c k (ItemKind.Instance id)
  export_inside id x stands e own at n k is = exports_inside c acyclic id x stands e own n k (among-get x.exports at (n, k) is)

  pub world_use_inside : (id : WorldId) (x : World) → Stands c (ItemKind.Component id) → slice_get c.worlds id.index ≡ Some x → id.collection ≡ c.number → (at : ℕ) (n : Name) (u : UsedType) → slice_get x.uses at ≡ Some (n, u) → IsInside c (ItemKind.Instance u.interface) (ItemKind.Component id)
  world_use_inside id x stands e own at n u is =
      slot_inside c acyclic (ItemKind.Component id) (world_entry x).1 stands (slots_world c id x e own) (ItemKind.Instance u.interface)
      (Among-left (Some (ItemKind.Instance u.interface)) (used x.uses) (items x.imports ++ items x.exports) (used_among x.uses n u (among-get x.uses at (n, u) is)))

  pub import_inside : (id : WorldId) (x : World) → Stands c (ItemKind.Component id) → slice_get c.worlds id.index ≡ Some x → id.collection ≡ c.number → (at : ℕ) (n : Name) (k : ItemKind) → slice_get x.imports at ≡ Some (n, k) → IsInside c k (ItemKind.Component id)
  import_inside id x stands e own at n k is = world_imports_inside c acyclic id x stands e own n k (among-get x.imports at (n, k) is)

  pub world_export_inside : (id : WorldId) (x : World) → Stands c (ItemKind.Component id) → slice_get c.worlds id.index ≡ Some x → id.collection ≡ c.number → (at : ℕ) (n : Name) (k : ItemKind) → slice_get x.exports at ≡ Some (n, k) → IsInside c k (ItemKind.Component id)
  world_export_inside id x stands e own at n k is = world_exports_inside c acyclic id x stands e own n k (among-get x.exports at (n, k) is)
