-- The interface of a world's instances states the world's uses and exports.
use Rattle.std.proofs.Common.{◌≡◌, Some, None, slice_get, sym, ap, ◌∙◌}
use Rattle.wac_types_base.specs.declared.ids.WorldId.{WorldId}
use Rattle.wac_types_base.specs.declared.ids.InterfaceId.{InterfaceId}
use Rattle.wac_types_base.specs.declared.item.ItemKind.{ItemKind}
use Rattle.wac_types_base.specs.declared.defined.Interface.{Interface}
use Rattle.wac_types_base.specs.declared.defined.World.{World}
use Rattle.wac_types_base.specs.Record.{Collection}
use Rattle.wac_types_base.specs.Entries.{with_values}
use Rattle.wac_types_base.specs.Collection.{IsAcyclic, interface_entry, world_entry}
use Rattle.wac_types_base.specs.Stated.{stated_of, stated_entry, exports_of, instance_type, interface_of}
use Rattle.wac_types_base.proofs.Stating.{stated_uses, world_uses, world_exports, interface_exports, world_stated, interface_stated, interface_made as made_of}
use Rattle.wac_types_names.specs.Packages.{interface_of as interface_made}

module _ (c : Collection) where
  instance_entry : (w : World) → instance_type (stated_entry c (world_entry w)) ≡ stated_entry c (interface_entry (interface_made w))
  instance_entry w =
      ap (λ vs. interface_of None vs (exports_of (stated_entry c (world_entry w)))) (world_uses c w)
      ∙ ap (interface_of None (stated_uses c w.uses)) (world_exports c w)
      ∙ made_of c (interface_made w)

  module _ (acyclic : IsAcyclic c) where
    -- an interface made of a world is the type of its instances
    pub instance_stated : (w : WorldId) (i : InterfaceId) (x : World) (y : Interface) → slice_get c.worlds w.index ≡ Some x → w.collection ≡ c.number → slice_get c.interfaces i.index ≡ Some y → i.collection ≡ c.number → y ≡ interface_made x
        → stated_of c (ItemKind.Instance i) ≡ instance_type (stated_of c (ItemKind.Component w))
    instance_stated w i x y wat wown iat iown is =
        interface_stated c acyclic i y iat iown ∙ ap (λ z. stated_entry c (interface_entry z)) is ∙ sym (instance_entry x) ∙ ap instance_type (sym (world_stated c acyclic w x wat wown))

-- the exports of a type of instances are those of the world
pub instance_type_exports : (c : Collection) (id : WorldId) (w : World) → IsAcyclic c → slice_get c.worlds id.index ≡ Some w → id.collection ≡ c.number
    → exports_of (instance_type (stated_of c (ItemKind.Component id))) ≡ with_values (stated_of c) w.exports
instance_type_exports c id w acyclic at own =
    ap (λ t. exports_of (instance_type t)) (world_stated c acyclic id w at own) ∙ ap exports_of (instance_entry c w) ∙ interface_exports c (interface_made w)
