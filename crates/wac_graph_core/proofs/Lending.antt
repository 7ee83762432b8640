-- A package that is made of a world stands.
use Rattle.std.proofs.Common.{◌≡◌, [], ◌∷◌, ◌++◌, Some, IsSome, length, refl, sym, ap, subst, ◌∙◌, slice_get}
use Rattle.std.specs.Prelude.{Result, Ok, Err}
use Rattle.std.specs.Result.{IfOk}
use Rattle.wac_types_base.specs.declared.item.ItemKind.{ItemKind}
use Rattle.wac_types_base.specs.declared.ids.WorldId.{WorldId}
use Rattle.wac_types_base.specs.declared.defined.Interface.{Interface}
use Rattle.wac_types_base.specs.Record.{Collection, Kept}
use Rattle.wac_types_base.specs.Kept.{keeping}
use Rattle.wac_types_base.specs.Collection.{Stands, Grows, item_node, interface_entry}
use Rattle.wac_types_base.specs.declared.ids.InterfaceId.{InterfaceId}
use Rattle.wac_types_base.specs.Stated.{stated_of, instance_type}
use Rattle.wac_types_base.proofs.Slots.{entry_at-is}
use Rattle.wac_types_base.proofs.Standing.{world_found}
use Rattle.wac_types_names.specs.Packaged.{Packaged}
use Rattle.wac_types_names.specs.Packages.{AddsInterfaceOf}
use Rattle.wac_graph_core.specs.Graph.{PackageStands}
use Rattle.wac_graph_core.proofs.Stating.{instance_stated}
use Rattle.wac_types_base.proofs.Copying.{last_place}

-- an interface that is added stands
added_stands : (old : Collection) (k : Kept) (i : Interface) → Stands (keeping k (record old { interfaces = old.interfaces ++ i ∷ [] })) (ItemKind.Instance (record { collection = old.number; index = length old.interfaces }))
unfolding item_node
added_stands old k i =
    subst IsSome (sym (entry_at-is interface_entry old.number (old.interfaces ++ i ∷ []) old.number (length old.interfaces) i (last_place old.interfaces i) refl)) refl

pub package_made_stands : {E : Type 0} (r : Result Packaged E) (old new : Collection) (world : WorldId) → Grows old new → Stands old (ItemKind.Component world) → IfOk r (λ p. p.ty ≡ world) → IfOk r (λ p. AddsInterfaceOf old new world p.instance_type)
    → IfOk r (λ p. PackageStands new p)
package_made_stands (Ok p) old new world grows stands ty added =
    record {
      world = subst (λ w. Stands new (ItemKind.Component w)) (sym ty) (grows.stand (ItemKind.Component world) stands);
      instance = subst (λ c. Stands c (ItemKind.Instance p.instance_type)) (sym added.collection)
          (subst (λ j. Stands (keeping new.kept (record old { interfaces = old.interfaces ++ added.interface ∷ [] })) (ItemKind.Instance j)) (sym added.number) (added_stands old new.kept added.interface));
      exports =
          let own = (world_found old world stands).own ∙ sym grows.number in
          let at : slice_get new.worlds world.index ≡ Some added.of.world = ap (λ (c : Collection). slice_get c.worlds world.index) added.collection ∙ added.of.stands in
          let there : slice_get new.interfaces p.instance_type.index ≡ Some added.interface =
          ap (λ (j : InterfaceId). slice_get new.interfaces j.index) added.number ∙ ap (λ (c : Collection). slice_get c.interfaces (length old.interfaces)) added.collection ∙ last_place old.interfaces added.interface in
          let here : p.instance_type.collection ≡ new.number = ap (λ (j : InterfaceId). j.collection) added.number ∙ sym grows.number in
          instance_stated new grows.acyclic world p.instance_type added.of.world added.interface at own there here added.of.is
          ∙ ap (λ w. instance_type (stated_of new (ItemKind.Component w))) (sym ty);
    }
package_made_stands (Err e) old new world grows stands ty added = tt
