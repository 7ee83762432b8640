-- Items of interfaces and worlds stand.
use Rattle.std.proofs.Common.{◌≡◌, Bool, true, false, ◌==◌, List, [], ◌∷◌, ◌++◌, Some, cond, slice_get, sym, subst, inl, inr}
use Rattle.std.specs.Cmp.Lexicographic.{pointwise}
use Rattle.wac_types_base.specs.declared.item.ItemKind.{ItemKind}
use Rattle.wac_types_base.specs.declared.ids.InterfaceId.{InterfaceId}
use Rattle.wac_types_base.specs.declared.ids.WorldId.{WorldId}
use Rattle.wac_types_base.specs.declared.defined.Interface.{Interface}
use Rattle.wac_types_base.specs.declared.defined.World.{World}
use Rattle.wac_types_base.specs.Record.{Collection}
use Rattle.wac_types_base.specs.Collection.{Stands, IsAcyclic, used, items, interface_entry, world_entry}
use Rattle.wac_types_base.specs.Entries.{Name, value_at}
use Rattle.wac_types_base.specs.Graph.{Among}
use Rattle.wac_types_base.proofs.Adding.{Among-left, Among-right}
use Rattle.wac_types_base.proofs.Slots.{slots_interface, slots_world}
use Rattle.wac_types_base.proofs.Walking.{slice_get-Among, child_smaller}

item_at : (b : Bool) (e : Name × ItemKind) (es : List (Name × ItemKind)) (n : Name) (k : ItemKind) → (value_at es n ≡ Some k → Among (Some k) (items es)) → cond b (Some e.1) (value_at es n) ≡ Some k → Among (Some k) (items (e ∷ es))
item_at true e es n k ih h = inl (sym h)
item_at false e es n k ih h = inr (ih h)

pub item_among : (es : List (Name × ItemKind)) (n : Name) (k : ItemKind) → value_at es n ≡ Some k → Among (Some k) (items es)
item_among [] n k h = absurd (cc (h))
item_among (e ∷ es) n k h = item_at (pointwise ◌==◌ n e.0) e es n k (item_among es n k) h

-- an export of an interface stands
pub export_stands : (c : Collection) (id : InterfaceId) (x : Interface) (n : Name) (k : ItemKind) → IsAcyclic c → Stands c (ItemKind.Instance id) → slice_get c.interfaces id.index ≡ Some x → id.collection ≡ c.number → value_at x.exports n ≡ Some k → Stands c k
export_stands c id x n k acyclic stands at own is =
    let among = Among-right (Some k) (used x.uses) (items x.exports) (item_among x.exports n k is) in
    let place = slice_get-Among (interface_entry x).1 (Some k) among in
    (child_smaller c acyclic (ItemKind.Instance id) stands place.0 k (subst (λ l. slice_get l place.0 ≡ Some (Some k)) (sym (slots_interface c id x at own)) place.2)).0

-- an import of a world stands
pub import_stands : (c : Collection) (id : WorldId) (x : World) (n : Name) (k : ItemKind) → IsAcyclic c → Stands c (ItemKind.Component id) → slice_get c.worlds id.index ≡ Some x → id.collection ≡ c.number → value_at x.imports n ≡ Some k → Stands c k
import_stands c id x n k acyclic stands at own is =
    let among = Among-right (Some k) (used x.uses) (items x.imports ++ items x.exports) (Among-left (Some k) (items x.imports) (items x.exports) (item_among x.imports n k is)) in
    let place = slice_get-Among (world_entry x).1 (Some k) among in
    (child_smaller c acyclic (ItemKind.Component id) stands place.0 k (subst (λ l. slice_get l place.0 ≡ Some (Some k)) (sym (slots_world c id x at own)) place.2)).0
