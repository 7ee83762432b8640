-- What is added stands, and states what it is made of.
use Rattle.std.proofs.Common.{◌≡◌, [], ◌∷◌, ◌++◌, Some, length, slice_get, sym, ap, ◌∙◌}
use Rattle.wac_types_base.specs.declared.item.ItemKind.{ItemKind}
use Rattle.wac_types_base.specs.declared.ids.InterfaceId.{InterfaceId}
use Rattle.wac_types_base.specs.declared.ids.WorldId.{WorldId}
use Rattle.wac_types_base.specs.declared.defined.Interface.{Interface}
use Rattle.wac_types_base.specs.declared.defined.World.{World}
use Rattle.wac_types_base.specs.Record.{Collection}
use Rattle.wac_types_base.specs.Kept.{keeping}
use Rattle.wac_types_base.specs.Collection.{Grows}
use Rattle.wac_types_base.specs.Stated.{Stated, interface_of, world_of}
use Rattle.wac_types_base.proofs.Copying.{last_place}
use Rattle.wac_types_written.specs.Forms.{IsOf, stated_items, stated_uses}
use Rattle.wac_types_written.proofs.Ids.{interface_stands, interface_states, world_stands, world_states}

module _ (c d : Collection) (g : Grows c d) where
  pub interface_added : (i : Interface) (id : InterfaceId) (x : Stated) → d ≡ keeping d.kept (record c { interfaces = c.interfaces ++ i ∷ [] }) → id ≡ record { collection = c.number; index = length c.interfaces }
      → interface_of i.id (stated_uses d i.uses) (stated_items d i.exports) ≡ x → IsOf d x (ItemKind.Instance id)
  interface_added i id x made is states =
      let at : slice_get d.interfaces id.index ≡ Some i = ap (λ (e : Collection). slice_get e.interfaces id.index) made ∙ ap (λ (j : InterfaceId). slice_get (c.interfaces ++ i ∷ []) j.index) is ∙ last_place c.interfaces i in
      let own : id.collection ≡ d.number = ap (λ (j : InterfaceId). j.collection) is ∙ sym g.number in
      record { stands = interface_stands d g.acyclic id i at own; states = interface_states d g.acyclic id i at own ∙ states }

  pub world_added : (w : World) (id : WorldId) (x : Stated) → d ≡ keeping d.kept (record c { worlds = c.worlds ++ w ∷ [] }) → id ≡ record { collection = c.number; index = length c.worlds }
      → world_of w.id (stated_uses d w.uses) (stated_items d w.imports) (stated_items d w.exports) ≡ x → IsOf d x (ItemKind.Component id)
  world_added w id x made is states =
      let at : slice_get d.worlds id.index ≡ Some w = ap (λ (e : Collection). slice_get e.worlds id.index) made ∙ ap (λ (j : WorldId). slice_get (c.worlds ++ w ∷ []) j.index) is ∙ last_place c.worlds w in
      let own : id.collection ≡ d.number = ap (λ (j : WorldId). j.collection) is ∙ sym g.number in
      record { stands = world_stands d g.acyclic id w at own; states = world_states d g.acyclic id w at own ∙ states }
