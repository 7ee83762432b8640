-- What stands: in bodies and in what is added, and while a collection grows.
use Rattle.std.proofs.Common.{◌≡◌, ℕ, zero, suc, Result, Ok, Err, OnOk, IfOk, List, [], ◌∷◌, ◌++◌, map, All, Option, Some, None, option_map, Bool, true, false, slice_get, refl, sym, ap, subst, ◌∙◌, inl, inr}
use Rattle.wac_types_base.specs.declared.item.ValueType.{ValueType}
use Rattle.wac_types_base.specs.declared.item.ItemKind.{ItemKind}
use Rattle.wac_types_base.specs.declared.item.«Type».{«Type» as TypeKind}
use Rattle.wac_types_base.specs.declared.defined.Interface.{Interface}
use Rattle.wac_types_base.specs.declared.defined.World.{World}
use Rattle.wac_types_base.specs.declared.defined.UsedType.{UsedType}
use Rattle.wac_types_base.specs.declared.defined.Resource.{Resource}
use Rattle.wac_types_base.specs.declared.defined.FuncType.{FuncType}
use Rattle.wac_types_base.specs.declared.defined.ResourceAlias.{ResourceAlias}
use Rattle.wac_types_base.specs.declared.ids.InterfaceId.{InterfaceId}
use Rattle.wac_types_base.specs.declared.ids.WorldId.{WorldId}
use Rattle.wac_types_base.specs.declared.ids.FuncTypeId.{FuncTypeId}
use Rattle.wac_types_base.specs.declared.ids.ResourceId.{ResourceId}
use Rattle.wac_types_base.specs.Record.{Collection}
use Rattle.wac_types_base.specs.Graph.{Among}
use Rattle.wac_types_base.specs.Collection.{Slot, SlotStands, HasChildren, Stands, IsAcyclic, Grows, Entry, item_node, value_node, entry_at, type_of, own_of, borrow_of, option_slot, value_slot, func_entry, resource_entry, resource_entry_at, interface_entry, world_entry, items, used, StandsIf}
use Rattle.wac_types_base.specs.Entries.{Name, value_at, values_of}
use Rattle.wac_types_base.proofs.Adding.{Among-left, Among-right, Grows-trans, Grows-refl}
use Rattle.wac_types_base.proofs.Slots.{entry_at-is, stands_typed_func, stands_typed_value, stands_typed_interface, stands_typed_world}
use Rattle.wac_types_base.proofs.Copying.{Among-All}
use Rattle.wac_types_base.proofs.Telling.{child_stands, resource_node}
use Rattle.wac_parser_refusals.specs.Outcomes.{IsOutcome}
use Rattle.wac_parser_declare.specs.Holding.{ValueStands, BindingStands, EachStands, ItemsStand, UsesStand, NamesStand, AddsNew}
use Rattle.wac_parser_tree.specs.Trees as t
use Rattle.wac_parser_refusals.specs.declared.refusal.Refusal.{Refusal}
use Rattle.wac_parser_declare.specs.declared.scope.Binding.{Binding}
use Rattle.wac_parser_declare.specs.declared.bodies.Body.{Body}
use Rattle.wac_parser_declare.specs.Held.{BodyStands}
use Rattle.wac_parser_declare.proofs.Kept.{SlotsStand, children, cases_stand, named_values_stand, both_stand, found_stands, names_stay, StandsIf-kept, EachStands-kept, EachStands-more, NamesStand-kept}
use Rattle.wac_types_base.proofs.GraphLemmas.{is_there}
use Rattle.wac_parser_declare.proofs.Known.{same_refl, same_trans}
use Rattle.wac_parser_declare.proofs.Values.{sought, binding_stands, value_stands, maybe_stands}
use Rattle.wac_parser_declare.proofs.Members.{func_children}
use Rattle.wac_types_base.proofs.Replacing.{labelled_there}
use Rattle.wac_types_base.proofs.Lists.{no_value}

-- ---- entries

module _ {V : Type 0} (P : V → Type 0) where
  pub added_stands : (es fs : List (Name × V)) (n : Name) (v : V) (b : Bool) → EachStands P es → P v → AddsNew es n v fs b → EachStands P fs
  added_stands es fs n v true s h a = subst (EachStands P) (sym a.1) (EachStands-more P es n v s h)
  added_stands es fs n v false s h a = subst (EachStands P) (sym a.1) s

  pub entry_stands : (es : List (Name × V)) → EachStands P es → (n : Name) (v : V) → value_at es n ≡ Some v → P v
  entry_stands es s n v is = found_stands P es n v s is

-- an entry that was not there
pub added_new : {V : Type 0} (es fs : List (Name × V)) (n : Name) (v : V) (b : Bool) → value_at es n ≡ None → AddsNew es n v fs b → fs ≡ es ++ (n, v) ∷ []
added_new es fs n v true e a = a.1
added_new es fs n v false e a = absurd (cc (e, a.0))

-- ---- what is added

items_stand : (c : Collection) (xs : List (Name × ItemKind)) → ItemsStand c xs → SlotsStand c (items xs)
items_stand c [] h = tt
items_stand c (x ∷ xs) h = (h.0, items_stand c xs h.1)

uses_stand : (c : Collection) (us : List (Name × UsedType)) → UsesStand c us → SlotsStand c (used us)
uses_stand c [] h = tt
uses_stand c (u ∷ us) h = (h.0, uses_stand c us h.1)

pub interface_children : (c : Collection) (us : List (Name × UsedType)) (xs : List (Name × ItemKind)) → UsesStand c us → ItemsStand c xs → All (SlotStands c) (used us ++ items xs)
interface_children c us xs h i = children c (used us ++ items xs) (both_stand c (used us) (items xs) (uses_stand c us h) (items_stand c xs i))

pub world_children : (c : Collection) (us : List (Name × UsedType)) (xs ys : List (Name × ItemKind)) → UsesStand c us → ItemsStand c xs → ItemsStand c ys → All (SlotStands c) (used us ++ (items xs ++ items ys))
world_children c us xs ys h i j =
    children c (used us ++ (items xs ++ items ys))
    (both_stand c (used us) (items xs ++ items ys) (uses_stand c us h) (both_stand c (items xs) (items ys) (items_stand c xs i) (items_stand c ys j)))

pub cases_children : (c : Collection) (es : List (Name × Option ValueType)) → EachStands (StandsIf c) es → All (SlotStands c) (map option_slot (values_of es))
cases_children c es h = children c (map option_slot (values_of es)) (cases_stand c es h)

pub fields_children : (c : Collection) (es : List (Name × ValueType)) → EachStands (ValueStands c) es → All (SlotStands c) (map value_slot (values_of es))
fields_children c es h = children c (map value_slot (values_of es)) (named_values_stand c es h)

-- ---- what was added

slot_stands : (c : Collection) → IsAcyclic c → (k : ItemKind) (e : Entry) → item_node c k ≡ Some e → (x : Slot) → Among x e.1 → SlotStands c x
slot_stands c a k e is None m = tt
slot_stands c a k e is (Some j) m = child_stands c a k e is j m

pub node_children : (c : Collection) → IsAcyclic c → (k : ItemKind) (e : Entry) → item_node c k ≡ Some e → HasChildren c e
node_children c a k e is = Among-All (SlotStands c) e.1 (slot_stands c a k e is)

each_item : (c : Collection) (xs : List (Name × ItemKind)) → ((k : ItemKind) → Among (Some k) (items xs) → Stands c k) → ItemsStand c xs
each_item c [] h = tt
each_item c (x ∷ xs) h = (h x.1 (inl refl), each_item c xs (λ k m. h k (inr m)))

module _ (c : Collection) (a : IsAcyclic c) where
  pub interface_exports : (id : InterfaceId) (x : Interface) → slice_get c.interfaces id.index ≡ Some x → id.collection ≡ c.number → ItemsStand c x.exports
  unfolding item_node
  interface_exports id x e own =
      let is : item_node c (ItemKind.Instance id) ≡ Some (interface_entry x) = entry_at-is interface_entry c.number c.interfaces id.collection id.index x e own in
      each_item c x.exports (λ k m. child_stands c a (ItemKind.Instance id) (interface_entry x) is k (Among-right (Some k) (used x.uses) (items x.exports) m))

  world_node : (id : WorldId) (x : World) → slice_get c.worlds id.index ≡ Some x → id.collection ≡ c.number → item_node c (ItemKind.Component id) ≡ Some (world_entry x)
  unfolding item_node
  world_node id x e own = entry_at-is world_entry c.number c.worlds id.collection id.index x e own

  pub world_exports : (id : WorldId) (x : World) → slice_get c.worlds id.index ≡ Some x → id.collection ≡ c.number → ItemsStand c x.exports
  world_exports id x e own =
      each_item c x.exports (λ k m. child_stands c a (ItemKind.Component id) (world_entry x) (world_node id x e own) k
      (Among-right (Some k) (used x.uses) (items x.imports ++ items x.exports) (Among-right (Some k) (items x.imports) (items x.exports) m)))

  pub world_imports : (id : WorldId) (x : World) → slice_get c.worlds id.index ≡ Some x → id.collection ≡ c.number → ItemsStand c x.imports
  world_imports id x e own =
      each_item c x.imports (λ k m. child_stands c a (ItemKind.Component id) (world_entry x) (world_node id x e own) k
      (Among-right (Some k) (used x.uses) (items x.imports ++ items x.exports) (Among-left (Some k) (items x.imports) (items x.exports) m)))

-- ---- while a collection grows

pub stands_stay : (c d : Collection) (k : ItemKind) → Grows c d → Stands c k → Stands d k
stands_stay c d k g s = g.stand k s

pub items_stay : (c d : Collection) (xs : List (Name × ItemKind)) → Grows c d → ItemsStand c xs → ItemsStand d xs
items_stay c d xs g s = EachStands-kept (Stands c) (Stands d) (λ k h. g.stand k h) xs s

pub uses_stay : (c d : Collection) (us : List (Name × UsedType)) → Grows c d → UsesStand c us → UsesStand d us
uses_stay c d us g s = EachStands-kept (λ u. Stands c (ItemKind.Instance u.interface)) (λ u. Stands d (ItemKind.Instance u.interface)) (λ u h. g.stand (ItemKind.Instance u.interface) h) us s

pub body_stays : (c d : Collection) (b : Body) → Grows c d → BodyStands c b → BodyStands d b
body_stays c d b g s = record {
  names = NamesStand-kept c d g b.names s.names;
  uses = uses_stay c d b.uses g s.uses;
  items = items_stay c d b.items g s.items;
  exports = items_stay c d b.exports g s.exports;
}

pub acyclic_after : (c d : Collection) → Grows c d → IsAcyclic d
acyclic_after c d g = g.acyclic

-- ---- types as items

module _ (c : Collection) where
  pub typed_func : (f : FuncTypeId) → Stands c (ItemKind.Func f) → Stands c (ItemKind.Ty (TypeKind.Func f))
  unfolding item_node
  typed_func f s = labelled_there type_of (entry_at func_entry c.number c.func_types f.collection f.index) s

  pub typed_interface : (i : InterfaceId) → Stands c (ItemKind.Instance i) → Stands c (ItemKind.Ty (TypeKind.Interface i))
  unfolding item_node
  typed_interface i s = labelled_there type_of (entry_at interface_entry c.number c.interfaces i.collection i.index) s

  pub typed_world : (i : WorldId) → Stands c (ItemKind.Component i) → Stands c (ItemKind.Ty (TypeKind.World i))
  unfolding item_node
  typed_world i s = labelled_there type_of (entry_at world_entry c.number c.worlds i.collection i.index) s

  pub typed_value : (v : ValueType) → Stands c (ItemKind.Value v) → Stands c (ItemKind.Ty (TypeKind.Value v))
  unfolding item_node
  typed_value v s = labelled_there type_of (value_node c v) s

  pub owned : (r : ResourceId) → Stands c (ItemKind.Ty (TypeKind.Resource r)) → Stands c (ItemKind.Value (ValueType.Own r))
  unfolding item_node
  owned r s = labelled_there own_of (entry_at resource_entry c.number c.resources r.collection r.index) s

  pub lent : (r : ResourceId) → Stands c (ItemKind.Ty (TypeKind.Resource r)) → Stands c (ItemKind.Value (ValueType.Borrow r))
  unfolding item_node
  lent r s = labelled_there borrow_of (entry_at resource_entry c.number c.resources r.collection r.index) s

-- the entry at a place
module _ {V : Type 0} (P : V → Type 0) where
  pub place_stands : (es : List (Name × V)) → EachStands P es → (i : ℕ) (n : Name) (v : V) → slice_get es i ≡ Some (n, v) → P v
  place_stands [] s i n v is = absurd (cc is)
  place_stands (e ∷ es) s zero n v is = let same : e ≡ (n, v) = cc in subst P (ap (λ x. x.1) same) s.0
  place_stands (e ∷ es) s (suc i) n v is = place_stands es s.1 i n v is

pub bound_stand : (c : Collection) (ns ms : List (Name × Binding)) (n : Name) (b : Binding) → NamesStand c ns → Stands c b.kind → ms ≡ ns ++ (n, b) ∷ [] → NamesStand c ms
bound_stand c ns ms n b s h is = subst (NamesStand c) (sym is) (EachStands-more (BindingStands c) ns n b s h)

-- a function type with a copy of its parameters
pub copied_func : (c : Collection) (id : FuncTypeId) (f : FuncType) (m : List (Name × ValueType)) → slice_get c.func_types id.index ≡ Some f → id.collection ≡ c.number → m ≡ f.params
    → item_node c (ItemKind.Func id) ≡ Some (func_entry (record { params = m; result = f.result; is_async = f.is_async }))
unfolding item_node
copied_func c id f m at own e = rw e (entry_at-is func_entry c.number c.func_types id.collection id.index f at own)

pub ok_of : {A E Q : Type 0} (r : Result A E) → Q → OnOk r Q
ok_of (Ok a) q = q
ok_of (Err e) q = tt

-- the interface that an alias of a resource belongs to
pub owner_stands : (c : Collection) → IsAcyclic c → (r : ResourceId) (x : Resource) (b : ResourceAlias) → slice_get c.resources r.index ≡ Some x → r.collection ≡ c.number → x.alias ≡ Some b → SlotStands c (option_map ItemKind.Instance b.owner)
owner_stands c a r x b at own is =
    slot_stands c a (ItemKind.Ty (TypeKind.Resource r)) (resource_entry_at x.name (Some b)) (resource_node c r x at own ∙ ap (λ o. Some (resource_entry_at x.name o)) is)
    (option_map ItemKind.Instance b.owner) (inr (inl refl))

-- what a name means stands
pub meant_stands : (c : Collection) (bs : List (Name × Binding)) (i : t.Ident) (r : Result Binding Refusal) → NamesStand c bs → IsOutcome (λ x y. y ≡ x) (sought bs i) r → IfOk r (λ b. Stands c b.kind)
meant_stands c bs i (Ok b) s h = binding_stands c bs i b s h
meant_stands c bs i (Err e) s h = tt

pub ruleset stay = (stands_stay, names_stay, items_stay, uses_stay, body_stays, Grows-trans, Grows-refl, same_trans, same_refl, StandsIf-kept)

pub ruleset typed = (typed_func, typed_interface, typed_world, typed_value, owned, lent, stands_typed_func, stands_typed_value, stands_typed_interface, stands_typed_world)

pub ruleset held = (is_there, value_stands, maybe_stands)

pub ruleset standing = (stay, typed, held)

pub ruleset paths = (standing, interface_exports, world_exports, found_stands, meant_stands)

pub ruleset adding = (added_new, added_stands, no_value)

pub ruleset functions = (standing, adding, EachStands-kept, EachStands-more, func_children, found_stands)

pub ruleset declarations = (functions, cases_children, fields_children, node_children)

pub ruleset bodies = (standing, adding, interface_children, world_children, interface_exports, world_exports, world_imports)
