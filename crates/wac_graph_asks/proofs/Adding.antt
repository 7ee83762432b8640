-- A world that is added stands, with its imports.
use Rattle.std.proofs.Common.{◌≡◌, [], ◌∷◌, ◌++◌, length, slice_get, IsSome, Some, None, refl, sym, ap, subst, ◌∙◌, if◌then◌else◌}
use Rattle.wac_types_base.specs.declared.ids.WorldId.{WorldId}
use Rattle.wac_types_base.specs.declared.item.ItemKind.{ItemKind}
use Rattle.wac_types_base.specs.declared.defined.World.{World}
use Rattle.wac_types_base.specs.Record.{Collection}
use Rattle.wac_types_base.specs.Kept.{keeping}
use Rattle.wac_types_base.specs.Collection.{Stands}
use Rattle.wac_types_base.proofs.Copying.{last_place}
use Rattle.wac_types_base.proofs.Replacing.{number_same}
use Rattle.wac_types_fit.proofs.Unfolded.{world_node}
use Rattle.wac_types_base.specs.Parts.{uses_in_world, imports_in_world, exports_in_world}
use Rattle.wac_types_parts.specs.Parts.{world_in, imports_of}
use Rattle.wac_graph_asks.specs.Imported.{ImportsAlone}
use Rattle.wac_graph_asks.specs.Outers.{HasImportsAlone}

pub world_added : (old new : Collection) (x : World) (id : WorldId) → new ≡ keeping new.kept (record old { worlds = old.worlds ++ x ∷ [] }) → id ≡ record { collection = old.number; index = length old.worlds } → Stands new (ItemKind.Component id)
world_added old new x id is own =
    let at : slice_get new.worlds id.index ≡ Some x = ap (λ (c : Collection). slice_get c.worlds id.index) is ∙ ap (λ (i : WorldId). slice_get (old.worlds ++ x ∷ []) i.index) own ∙ last_place old.worlds x in
    let number : id.collection ≡ new.number = ap (λ (i : WorldId). i.collection) own ∙ sym (ap (λ (c : Collection). c.number) is) in
    subst IsSome (sym (world_node new id x at number)) refl

-- it stands there as it is
world_entered : (old new : Collection) (x : World) (id : WorldId) → new ≡ keeping new.kept (record old { worlds = old.worlds ++ x ∷ [] }) → id ≡ record { collection = old.number; index = length old.worlds } → world_in new id ≡ Some x
world_entered old new x id is own =
    let at : slice_get new.worlds id.index ≡ Some x = ap (λ (c : Collection). slice_get c.worlds id.index) is ∙ ap (λ (i : WorldId). slice_get (old.worlds ++ x ∷ []) i.index) own ∙ last_place old.worlds x in
    let number : id.collection ≡ new.number = ap (λ (i : WorldId). i.collection) own ∙ sym (ap (λ (c : Collection). c.number) is) in
    ap (λ b. if b then slice_get new.worlds id.index else None) (number_same id.collection new.number number) ∙ at

-- its imports are those of the world
pub imports_added : (old new : Collection) (x : World) (id : WorldId) → new ≡ keeping new.kept (record old { worlds = old.worlds ++ x ∷ [] }) → id ≡ record { collection = old.number; index = length old.worlds } → imports_of new id ≡ x.imports
imports_added old new x id is own = ap imports_in_world (world_entered old new x id is own)

-- alone, if that has them alone
pub alone_added : (old new : Collection) (x : World) (id : WorldId) → new ≡ keeping new.kept (record old { worlds = old.worlds ++ x ∷ [] }) → id ≡ record { collection = old.number; index = length old.worlds } → ImportsAlone x → HasImportsAlone new id
alone_added old new x id is own alone = let e = world_entered old new x id is own in record { uses = ap uses_in_world e ∙ alone.uses; exports = ap exports_in_world e ∙ alone.exports }
