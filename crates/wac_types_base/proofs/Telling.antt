-- The stated type of an id, step by step, and what its words tell of it.
use Rattle.std.proofs.Common.{◌≡◌, ℕ, zero, suc, ◌<◌, ◌≤◌, List, [], ◌∷◌, map, length, Option, Some, None, IsSome, Bool, true, false, ◌||◌, slice_get, refl, sym, ap, subst, ◌∙◌, arith, inl, inr}
use Rattle.std.specs.Prelude.{codes}
use Rattle.std.specs.Option.{option_map}
use Rattle.std.proofs.Math.Bool.{or-true}
use Rattle.wac_types_base.specs.declared.item.PrimitiveType.{PrimitiveType}
use Rattle.wac_types_base.specs.declared.item.ValueType.{ValueType}
use Rattle.wac_types_base.specs.declared.item.«Type».{«Type» as TypeKind}
use Rattle.wac_types_base.specs.declared.item.ItemKind.{ItemKind}
use Rattle.wac_types_base.specs.declared.defined.DefinedType.{DefinedType}
use Rattle.wac_types_base.specs.declared.defined.Resource.{Resource}
use Rattle.wac_types_base.specs.declared.defined.ResourceAlias.{ResourceAlias}
use Rattle.wac_types_base.specs.declared.ids.DefinedTypeId.{DefinedTypeId}
use Rattle.wac_types_base.specs.declared.ids.ResourceId.{ResourceId}
use Rattle.wac_types_base.specs.Entries.{Name, values_of}
use Rattle.wac_types_base.specs.Record.{Collection}
use Rattle.wac_types_base.specs.Graph.{nodes, nodes_all, wholes_by, close, grow, Among}
use Rattle.wac_types_base.specs.Collection.{Shape, Entry, Slot, SlotStands, HasChildren, item_node, value_node, labelled, entry_at, Stands, IsAcyclic, unfolding_of, size_in, size_of, slots_in, defined_entry, resource_entry, resource_entry_at, func_entry, interface_entry, world_entry, module_entry, value_slot, option_slot, primitive, alias, type_of, borrow_of, own_of}
use Rattle.wac_types_base.specs.Stated.{Stated, row, folded, folded_row, stated_in, stated_of, stated_entry, any_place, borrows_at, contains_borrow, value_desc, primitive_word, word_of, Kind, IsFunction, IsInstance, IsComponent, IsModule, IsValue, IsResource, IsFunctionType, IsValueType, IsInterface, IsWorld, IsModuleType, type_kind, shape_kind, kind_of, untyped, promote, promote_by, kind_word, desc}
use Rattle.wac_types_base.specs.Resolving.{promoted, IsNoAlias}
use Rattle.wac_types_base.specs.Tree.{tree, tree_of}
use Rattle.wac_types_base.proofs.GraphLemmas.{value_of, is_there}
use Rattle.wac_types_base.proofs.Adding.{All-among, labelled-some, guarded-some, option_map-some}
use Rattle.wac_types_base.proofs.Walking.{child_smaller, slice_get-Among}
use Rattle.wac_types_base.proofs.Slots.{entry_at-is, stands_typed_value}
use Rattle.wac_types_base.proofs.Copying.{unfolding_step, Among-All}
use Rattle.wac_types_base.proofs.Looked.{among-get}

-- ---- one step

wholes_row : (c : Collection) (xs : List Slot) → ((j : ItemKind) → Among (Some j) xs → IsSome (unfolding_of c j)) → wholes_by (unfolding_of c) xs ≡ Some (row (map (option_map (stated_of c)) xs))
wholes_row c [] h = refl
wholes_row c (None ∷ xs) h = rw (wholes_row c xs (λ j m. h j (inr m))) refl
wholes_row c (Some j ∷ xs) h =
    let v = value_of (unfolding_of c j) (h j (inl refl)) in
    rw (v.1, wholes_row c xs (λ j m. h j (inr m))) refl

module _ (c : Collection) (acyclic : IsAcyclic c) where
  pub unfolds : (k : ItemKind) → Stands c k → IsSome (unfolding_of c k)
  unfolding IsAcyclic unfolding_of
  unfolds k stands = acyclic k stands

  pub child_stands : (k : ItemKind) (e : Entry) → item_node c k ≡ Some e → (j : ItemKind) → Among (Some j) e.1 → Stands c j
  child_stands k e is j m =
      let at = slice_get-Among e.1 (Some j) m in
      (child_smaller c acyclic k (is_there _ e is) at.0 j (ap (λ o. slice_get (slots_in o) at.0) is ∙ at.2)).0

  unfolds_to_entry : (k : ItemKind) (e : Entry) → item_node c k ≡ Some e → unfolding_of c k ≡ Some (stated_entry c e)
  unfolds_to_entry k e is =
      unfolding_step c acyclic k (is_there _ e is) ∙ ap (λ o. grow o (unfolding_of c)) is
      ∙ ap (close e.0) (wholes_row c e.1 (λ j m. unfolds j (child_stands k e is j m)))

  -- what stands has the stated type of its entry
  pub stated_step : (k : ItemKind) (e : Entry) → item_node c k ≡ Some e → stated_of c k ≡ stated_entry c e
  stated_step k e is = ap stated_in (unfolds_to_entry k e is)

  pub unfolds_to : (k : ItemKind) → Stands c k → unfolding_of c k ≡ Some (stated_of c k)
  unfolds_to k stands = let v = value_of _ (unfolds k stands) in v.1 ∙ ap Some (sym (ap stated_in v.1))

  pub size_stated : (k : ItemKind) → Stands c k → size_of c k ≡ nodes (stated_of c k)
  size_stated k stands = ap size_in (unfolds_to k stands)

-- how large the types in a row are
abbrev pub row_size : Collection → List Slot → ℕ
row_size c xs = nodes_all (row (map (option_map (stated_of c)) xs))

pub place_size : (c : Collection) (xs : List Slot) (i : ℕ) (j : ItemKind) → slice_get xs i ≡ Some (Some j) → nodes (stated_of c j) ≤ row_size c xs
place_size c [] i j e = absurd (cc e)
place_size c (None ∷ xs) zero j e = absurd (cc e)
place_size c (Some k ∷ xs) zero j e =
    let is : k ≡ j = cc e in
    let size : nodes (stated_of c k) ≡ nodes (stated_of c j) = ap (λ k. nodes (stated_of c k)) is in
    omega (arith, size)
place_size c (None ∷ xs) (suc i) j e = place_size c xs i j e
place_size c (Some k ∷ xs) (suc i) j e = let s = place_size c xs i j e in omega (arith, s)

pub entry_size : (c : Collection) → IsAcyclic c → (k : ItemKind) (e : Entry) → item_node c k ≡ Some e → size_of c k ≡ suc (row_size c e.1)
entry_size c a k e is = size_stated c a k (is_there _ e is) ∙ ap nodes (stated_step c a k e is)

pub folded_places : {A : Type 0} (f : Shape → List (Option (Stated × A)) → A) (os : List (Option Stated)) → folded_row f (row os) ≡ map (option_map (λ t. (t, folded f t))) os
folded_places f [] = refl
folded_places f (None ∷ os) = ap (λ l. None ∷ l) (folded_places f os)
folded_places f (Some t ∷ os) = ap (λ l. Some (t, folded f t) ∷ l) (folded_places f os)

-- ---- entries by kind

module _ (c : Collection) where
  pub defined_node : (d : DefinedTypeId) (x : DefinedType) → slice_get c.defined_types d.index ≡ Some x → d.collection ≡ c.number → item_node c (ItemKind.Value (ValueType.Defined d)) ≡ Some (defined_entry x)
  unfolding item_node
  defined_node d x e h = entry_at-is defined_entry c.number c.defined_types d.collection d.index x e h

  pub resource_node : (r : ResourceId) (x : Resource) → slice_get c.resources r.index ≡ Some x → r.collection ≡ c.number → item_node c (ItemKind.Ty (TypeKind.Resource r)) ≡ Some (resource_entry x)
  unfolding item_node
  resource_node r x e h = entry_at-is resource_entry c.number c.resources r.collection r.index x e h

  pub primitive_node : (p : PrimitiveType) → item_node c (ItemKind.Value (ValueType.Primitive p)) ≡ Some (primitive p, [])
  unfolding item_node
  primitive_node p = refl

  pub borrow_node : (r : ResourceId) → Stands c (ItemKind.Value (ValueType.Borrow r)) → (s : Shape) × (xs : List Slot) × (item_node c (ItemKind.Value (ValueType.Borrow r)) ≡ Some (borrow_of s, xs))
  unfolding item_node
  borrow_node r stands =
      let v = value_of _ stands in
      let m = labelled-some borrow_of _ v.0 v.1 in
      (m.0.0, m.0.1, v.1 ∙ ap Some m.2)

  pub own_node : (r : ResourceId) → Stands c (ItemKind.Value (ValueType.Own r)) → (s : Shape) × (xs : List Slot) × (item_node c (ItemKind.Value (ValueType.Own r)) ≡ Some (own_of s, xs))
  unfolding item_node
  own_node r stands =
      let v = value_of _ stands in
      let m = labelled-some own_of _ v.0 v.1 in
      (m.0.0, m.0.1, v.1 ∙ ap Some m.2)

  -- a type item has its thing's entry, as a type
  pub typed_node : (k j : ItemKind) → item_node c k ≡ labelled type_of (item_node c j) → Stands c k → (e : Entry) × (item_node c j ≡ Some e) × (item_node c k ≡ Some (type_of e.0, e.1))
  typed_node k j is stands =
      let v = value_of _ stands in
      let m = labelled-some type_of _ v.0 (sym is ∙ v.1) in
      (m.0, m.1, v.1 ∙ ap Some m.2)

-- ---- borrows

borrows_defined : (x : DefinedType) (os : List (Option (Stated × Bool))) → borrows_at (defined_entry x).0 os ≡ any_place (λ b. b) os
borrows_defined (DefinedType.Tuple ts) os = refl
borrows_defined (DefinedType.List t) os = refl
borrows_defined (DefinedType.FixedSizeList t n) os = refl
borrows_defined (DefinedType.Option t) os = refl
borrows_defined (DefinedType.Result ok err) os = refl
borrows_defined (DefinedType.Variant v) os = refl
borrows_defined (DefinedType.Record r) os = refl
borrows_defined (DefinedType.Flags f) os = refl
borrows_defined (DefinedType.Enum e) os = refl
borrows_defined (DefinedType.Alias t) os = refl
borrows_defined (DefinedType.Stream o) os = refl
borrows_defined (DefinedType.Future o) os = refl

-- a place with a borrow in it
abbrev pub any_slot : Collection → List Slot → Bool
any_slot c [] = false
any_slot c (None ∷ xs) = any_slot c xs
any_slot c (Some j ∷ xs) = contains_borrow (stated_of c j) || any_slot c xs

any_slots : (c : Collection) (xs : List Slot) → any_place (λ b. b) (folded_row borrows_at (row (map (option_map (stated_of c)) xs))) ≡ any_slot c xs
unfolding contains_borrow
any_slots c [] = refl
any_slots c (None ∷ xs) = any_slots c xs
any_slots c (Some j ∷ xs) = ap (λ b. contains_borrow (stated_of c j) || b) (any_slots c xs)

pub borrows_in_places : (c : Collection) (x : DefinedType) → contains_borrow (stated_entry c (defined_entry x)) ≡ any_slot c (defined_entry x).1
unfolding contains_borrow
borrows_in_places c x = borrows_defined x (folded_row borrows_at (row (map (option_map (stated_of c)) (defined_entry x).1))) ∙ any_slots c (defined_entry x).1

pub slot_with : (c : Collection) (xs : List Slot) (i : ℕ) (j : ItemKind) → slice_get xs i ≡ Some (Some j) → contains_borrow (stated_of c j) ≡ true → any_slot c xs ≡ true
slot_with c [] i j e h = absurd (cc e)
slot_with c (None ∷ xs) zero j e h = absurd (cc e)
slot_with c (Some k ∷ xs) zero j e h =
    let is : k ≡ j = cc e in
    ap (λ b. b || any_slot c xs) (ap (λ k. contains_borrow (stated_of c k)) is ∙ h)
slot_with c (None ∷ xs) (suc i) j e h = slot_with c xs i j e h
slot_with c (Some k ∷ xs) (suc i) j e h = ap (λ b. contains_borrow (stated_of c k) || b) (slot_with c xs i j e h) ∙ or-true (contains_borrow (stated_of c k))

pub slots_without : (c : Collection) (xs : List Slot) → ((i : ℕ) (j : ItemKind) → i < length xs → slice_get xs i ≡ Some (Some j) → contains_borrow (stated_of c j) ≡ false) → any_slot c xs ≡ false
slots_without c [] h = refl
slots_without c (None ∷ xs) h = slots_without c xs (λ i j lt e. h (suc i) j (omega arith) e)
slots_without c (Some k ∷ xs) h = rw (h 0 k (omega arith) refl, slots_without c xs (λ i j lt e. h (suc i) j (omega arith) e)) refl

-- what is in a place of a defined type is a value type
mapped_value : {X : Type 0} (f : X → Slot) → ((x : X) (k : ItemKind) → f x ≡ Some k → (v : ValueType) × (k ≡ ItemKind.Value v)) → (xs : List X) (i : ℕ) (k : ItemKind) → slice_get (map f xs) i ≡ Some (Some k) → (v : ValueType) × (k ≡ ItemKind.Value v)
mapped_value f h [] i k e = absurd (cc e)
mapped_value f h (x ∷ xs) zero k e = h x k (cc e)
mapped_value f h (x ∷ xs) (suc i) k e = mapped_value f h xs i k e

value_slot_value : (v : ValueType) (k : ItemKind) → value_slot v ≡ Some k → (v : ValueType) × (k ≡ ItemKind.Value v)
value_slot_value v k e = (v, sym (cc e))

option_slot_value : (o : Option ValueType) (k : ItemKind) → option_slot o ≡ Some k → (v : ValueType) × (k ≡ ItemKind.Value v)
option_slot_value None k e = absurd (cc e)
option_slot_value (Some v) k e = (v, sym (cc e))

pub value_places : (x : DefinedType) (i : ℕ) (k : ItemKind) → slice_get (defined_entry x).1 i ≡ Some (Some k) → (v : ValueType) × (k ≡ ItemKind.Value v)
value_places (DefinedType.Tuple ts) i k e = mapped_value value_slot value_slot_value ts i k e
value_places (DefinedType.List t) i k e = mapped_value value_slot value_slot_value (t ∷ []) i k e
value_places (DefinedType.FixedSizeList t n) i k e = mapped_value value_slot value_slot_value (t ∷ []) i k e
value_places (DefinedType.Option t) i k e = mapped_value value_slot value_slot_value (t ∷ []) i k e
value_places (DefinedType.Result ok err) i k e = mapped_value option_slot option_slot_value (ok ∷ err ∷ []) i k e
value_places (DefinedType.Variant v) i k e = mapped_value option_slot option_slot_value (values_of v.cases) i k e
value_places (DefinedType.Record r) i k e = mapped_value value_slot value_slot_value (values_of r.fields) i k e
value_places (DefinedType.Flags f) i k e = absurd (cc e)
value_places (DefinedType.Enum f) i k e = absurd (cc e)
value_places (DefinedType.Alias t) i k e = mapped_value value_slot value_slot_value (t ∷ []) i k e
value_places (DefinedType.Stream o) i k e = mapped_value option_slot option_slot_value (o ∷ []) i k e
value_places (DefinedType.Future o) i k e = mapped_value option_slot option_slot_value (o ∷ []) i k e

-- ---- kinds

-- the kind of what an item kind names
abbrev pub item_kind : ItemKind → Kind
item_kind (ItemKind.Ty (TypeKind.Resource r)) = IsResource
item_kind (ItemKind.Ty (TypeKind.Func f)) = IsFunctionType
item_kind (ItemKind.Ty (TypeKind.Value v)) = IsValueType
item_kind (ItemKind.Ty (TypeKind.Interface i)) = IsInterface
item_kind (ItemKind.Ty (TypeKind.World w)) = IsWorld
item_kind (ItemKind.Ty (TypeKind.Module m)) = IsModuleType
item_kind (ItemKind.Func f) = IsFunction
item_kind (ItemKind.Instance i) = IsInstance
item_kind (ItemKind.Component w) = IsComponent
item_kind (ItemKind.Module m) = IsModule
item_kind (ItemKind.Value v) = IsValue

-- every entry that an id gives is that of an entry there
pub entry_from : {E : Type 0} (f : E → Entry) (P : Entry → Type 0) → ((x : E) → P (f x)) → (n : ℕ) (es : List E) (col i : ℕ) (e : Entry) → entry_at f n es col i ≡ Some e → P e
entry_from f P h n es col i e is =
    let g = guarded-some _ _ e is in
    let m = option_map-some f (slice_get es i) e g.1 in
    subst P (sym m.2) (h m.0)

-- a label of a value type
abbrev IsValueLabel : Entry → Type 0
IsValueLabel e = (shape_kind e.0 ≡ IsValue) × (type_kind e.0 ≡ IsValueType)

defined_label : (x : DefinedType) → IsValueLabel (defined_entry x)
defined_label (DefinedType.Tuple ts) = (refl, refl)
defined_label (DefinedType.List t) = (refl, refl)
defined_label (DefinedType.FixedSizeList t n) = (refl, refl)
defined_label (DefinedType.Option t) = (refl, refl)
defined_label (DefinedType.Result ok err) = (refl, refl)
defined_label (DefinedType.Variant v) = (refl, refl)
defined_label (DefinedType.Record r) = (refl, refl)
defined_label (DefinedType.Flags f) = (refl, refl)
defined_label (DefinedType.Enum e) = (refl, refl)
defined_label (DefinedType.Alias t) = (refl, refl)
defined_label (DefinedType.Stream o) = (refl, refl)
defined_label (DefinedType.Future o) = (refl, refl)

pub labelled_kind : (l : Shape → Shape) (P Q : Entry → Type 0) → ((e : Entry) → P e → Q (l e.0, e.1)) → (o : Option Entry) → ((e : Entry) → o ≡ Some e → P e) → (e : Entry) → labelled l o ≡ Some e → Q e
labelled_kind l P Q step o h e is =
    let m = labelled-some l o e is in
    subst Q (sym m.2) (step m.0 (h m.0 m.1))

abbrev bare : Shape → Entry
bare s = (s, [])

abbrev AnyEntry : Entry → Type 0
AnyEntry e = Unit {0}

value_label : (c : Collection) (v : ValueType) (e : Entry) → value_node c v ≡ Some e → IsValueLabel e
value_label c (ValueType.Primitive p) e is = let same : bare (primitive p) ≡ e = cc is in subst IsValueLabel same (refl, refl)
value_label c (ValueType.Borrow r) e is = labelled_kind borrow_of AnyEntry IsValueLabel (λ e h. (refl, refl)) _ (λ e h. tt) e is
value_label c (ValueType.Own r) e is = labelled_kind own_of AnyEntry IsValueLabel (λ e h. (refl, refl)) _ (λ e h. tt) e is
value_label c (ValueType.Defined d) e is = entry_from defined_entry IsValueLabel defined_label c.number c.defined_types d.collection d.index e is

resource_kind : (x : Resource) → shape_kind (resource_entry x).0 ≡ IsResource
resource_kind x = by_alias x.name x.alias
  where
    by_alias : (n : Name) (o : Option ResourceAlias) → shape_kind (resource_entry_at n o).0 ≡ IsResource
    by_alias n None = refl
    by_alias n (Some a) = refl

abbrev HasKind : Kind → Entry → Type 0
HasKind k e = shape_kind e.0 ≡ k

abbrev HasTypeKind : Kind → Entry → Type 0
HasTypeKind k e = type_kind e.0 ≡ k

-- the label of what stands is of its kind
pub label_kind : (c : Collection) (k : ItemKind) (e : Entry) → item_node c k ≡ Some e → shape_kind e.0 ≡ item_kind k
unfolding item_node
label_kind c (ItemKind.Ty (TypeKind.Resource r)) e is = entry_from resource_entry (HasKind IsResource) resource_kind c.number c.resources r.collection r.index e is
label_kind c (ItemKind.Ty (TypeKind.Func f)) e is = labelled_kind type_of (HasTypeKind IsFunctionType) (HasKind IsFunctionType) (λ e h. h) _ (λ e is. entry_from func_entry (HasTypeKind IsFunctionType) (λ x. refl) c.number c.func_types f.collection f.index e is) e is
label_kind c (ItemKind.Ty (TypeKind.Value v)) e is = labelled_kind type_of (HasTypeKind IsValueType) (HasKind IsValueType) (λ e h. h) _ (λ e is. (value_label c v e is).1) e is
label_kind c (ItemKind.Ty (TypeKind.Interface i)) e is = labelled_kind type_of (HasTypeKind IsInterface) (HasKind IsInterface) (λ e h. h) _ (λ e is. entry_from interface_entry (HasTypeKind IsInterface) (λ x. refl) c.number c.interfaces i.collection i.index e is) e is
label_kind c (ItemKind.Ty (TypeKind.World i)) e is = labelled_kind type_of (HasTypeKind IsWorld) (HasKind IsWorld) (λ e h. h) _ (λ e is. entry_from world_entry (HasTypeKind IsWorld) (λ x. refl) c.number c.worlds i.collection i.index e is) e is
label_kind c (ItemKind.Ty (TypeKind.Module i)) e is = labelled_kind type_of (HasTypeKind IsModuleType) (HasKind IsModuleType) (λ e h. h) _ (λ e is. entry_from module_entry (HasTypeKind IsModuleType) (λ x. refl) c.number c.modules i.collection i.index e is) e is
label_kind c (ItemKind.Func f) e is = entry_from func_entry (HasKind IsFunction) (λ x. refl) c.number c.func_types f.collection f.index e is
label_kind c (ItemKind.Instance i) e is = entry_from interface_entry (HasKind IsInstance) (λ x. refl) c.number c.interfaces i.collection i.index e is
label_kind c (ItemKind.Component i) e is = entry_from world_entry (HasKind IsComponent) (λ x. refl) c.number c.worlds i.collection i.index e is
label_kind c (ItemKind.Module i) e is = entry_from module_entry (HasKind IsModule) (λ x. refl) c.number c.modules i.collection i.index e is
label_kind c (ItemKind.Value v) e is = (value_label c v e is).0

pub kind_stated : (c : Collection) → IsAcyclic c → (k : ItemKind) → Stands c k → kind_of (stated_of c k) ≡ item_kind k
kind_stated c a k stands =
    let v = value_of _ stands in
    ap kind_of (stated_step c a k v.0 v.1) ∙ label_kind c k v.0 v.1

-- a type item without its type
pub untyped_stated : (c : Collection) → IsAcyclic c → (k j : ItemKind) → item_node c k ≡ labelled type_of (item_node c j) → Stands c k → untyped (stated_of c k) ≡ stated_of c j
untyped_stated c a k j is stands =
    let n = typed_node c k j is stands in
    ap untyped (stated_step c a k (type_of n.0.0, n.0.1) n.2) ∙ sym (stated_step c a j n.0 n.1)

-- what is promoted
promote_kind : (c : Collection) → IsAcyclic c → (k : ItemKind) → Stands c k → (j : Kind) → item_kind k ≡ j → promote (stated_of c k) ≡ promote_by j (stated_of c k)
promote_kind c a k stands j e = ap (λ j. promote_by j (stated_of c k)) (kind_stated c a k stands ∙ e)

pub promote_stated : (k : ItemKind) (c : Collection) → IsAcyclic c → Stands c k → stated_of c (promoted k) ≡ promote (stated_of c k)
unfolding item_node
promote_stated (ItemKind.Ty (TypeKind.Resource r)) c a s = sym (promote_kind c a (ItemKind.Ty (TypeKind.Resource r)) s IsResource refl)
promote_stated (ItemKind.Ty (TypeKind.Func f)) c a s = sym (promote_kind c a (ItemKind.Ty (TypeKind.Func f)) s IsFunctionType refl ∙ untyped_stated c a (ItemKind.Ty (TypeKind.Func f)) (ItemKind.Func f) refl s)
promote_stated (ItemKind.Ty (TypeKind.Value v)) c a s = sym (promote_kind c a (ItemKind.Ty (TypeKind.Value v)) s IsValueType refl)
promote_stated (ItemKind.Ty (TypeKind.Interface f)) c a s = sym (promote_kind c a (ItemKind.Ty (TypeKind.Interface f)) s IsInterface refl ∙ untyped_stated c a (ItemKind.Ty (TypeKind.Interface f)) (ItemKind.Instance f) refl s)
promote_stated (ItemKind.Ty (TypeKind.World f)) c a s = sym (promote_kind c a (ItemKind.Ty (TypeKind.World f)) s IsWorld refl ∙ untyped_stated c a (ItemKind.Ty (TypeKind.World f)) (ItemKind.Component f) refl s)
promote_stated (ItemKind.Ty (TypeKind.Module m)) c a s = sym (promote_kind c a (ItemKind.Ty (TypeKind.Module m)) s IsModuleType refl)
promote_stated (ItemKind.Func f) c a s = sym (promote_kind c a (ItemKind.Func f) s IsFunction refl)
promote_stated (ItemKind.Instance f) c a s = sym (promote_kind c a (ItemKind.Instance f) s IsInstance refl)
promote_stated (ItemKind.Component f) c a s = sym (promote_kind c a (ItemKind.Component f) s IsComponent refl)
promote_stated (ItemKind.Module f) c a s = sym (promote_kind c a (ItemKind.Module f) s IsModule refl)
promote_stated (ItemKind.Value f) c a s = sym (promote_kind c a (ItemKind.Value f) s IsValue refl)

-- ---- aliases

pub tree_stated : (c : Collection) → IsAcyclic c → (k : ItemKind) → Stands c k → tree_of c k ≡ Some (tree (stated_of c k))
tree_stated c a k stands = ap (option_map tree) (unfolds_to c a k stands)

alias_tree : (c : Collection) → IsAcyclic c → (k j : ItemKind) → item_node c k ≡ Some (alias, Some j ∷ []) → tree_of c k ≡ tree_of c j
alias_tree c a k j is =
    let stands = child_stands c a k (alias, Some j ∷ []) is j (inl refl) in
    tree_stated c a k (is_there _ _ is) ∙ ap (λ t. Some (tree t)) (stated_step c a k (alias, Some j ∷ []) is) ∙ sym (tree_stated c a j stands)

pub value_alias_tree : (c : Collection) → IsAcyclic c → (v : ValueType) (d : DefinedTypeId) (x : DefinedType) (t : ValueType) → v ≡ ValueType.Defined d → slice_get c.defined_types d.index ≡ Some x → d.collection ≡ c.number → x ≡ DefinedType.Alias t → tree_of c (ItemKind.Value v) ≡ tree_of c (ItemKind.Value t)
value_alias_tree c a v d x t is at own same =
    ap (λ v. tree_of c (ItemKind.Value v)) is ∙ alias_tree c a (ItemKind.Value (ValueType.Defined d)) (ItemKind.Value t) (defined_node c d x at own ∙ ap (λ x. Some (defined_entry x)) same)

-- the source of an alias stands, and is smaller
pub source_smaller : (c : Collection) → IsAcyclic c → (k : ItemKind) (e : Entry) (j : ItemKind) → item_node c k ≡ Some e → slice_get e.1 0 ≡ Some (Some j) → Stands c j × (size_of c j < size_of c k)
source_smaller c a k e j is at = child_smaller c a k (is_there _ e is) 0 j (ap (λ o. slice_get (slots_in o) 0) is ∙ at)

pub value_source : (c : Collection) → IsAcyclic c → (v : ValueType) (d : DefinedTypeId) (x : DefinedType) (t : ValueType) → v ≡ ValueType.Defined d → slice_get c.defined_types d.index ≡ Some x → d.collection ≡ c.number → x ≡ DefinedType.Alias t → Stands c (ItemKind.Value t) × (size_of c (ItemKind.Value t) < size_of c (ItemKind.Value v))
value_source c a v d x t is at own same =
    subst (λ v. Stands c (ItemKind.Value t) × (size_of c (ItemKind.Value t) < size_of c (ItemKind.Value v))) (sym is)
    (source_smaller c a (ItemKind.Value (ValueType.Defined d)) (defined_entry (DefinedType.Alias t)) (ItemKind.Value t) (defined_node c d x at own ∙ ap (λ x. Some (defined_entry x)) same) refl)

abbrev aliased : Resource → ResourceAlias → Entry
aliased x b = resource_entry_at x.name (Some b)

aliased_node : (c : Collection) (r : ResourceId) (x : Resource) (b : ResourceAlias) → slice_get c.resources r.index ≡ Some x → r.collection ≡ c.number → x.alias ≡ Some b → item_node c (ItemKind.Ty (TypeKind.Resource r)) ≡ Some (aliased x b)
aliased_node c r x b at own same = resource_node c r x at own ∙ ap (λ o. Some (resource_entry_at x.name o)) same

pub resource_source : (c : Collection) → IsAcyclic c → (r : ResourceId) (x : Resource) (b : ResourceAlias) → slice_get c.resources r.index ≡ Some x → r.collection ≡ c.number → x.alias ≡ Some b → Stands c (ItemKind.Ty (TypeKind.Resource b.source)) × (size_of c (ItemKind.Ty (TypeKind.Resource b.source)) < size_of c (ItemKind.Ty (TypeKind.Resource r)))
resource_source c a r x b at own same = source_smaller c a (ItemKind.Ty (TypeKind.Resource r)) (aliased x b) (ItemKind.Ty (TypeKind.Resource b.source)) (aliased_node c r x b at own same) refl

pub resource_alias_tree : (c : Collection) → IsAcyclic c → (r : ResourceId) (x : Resource) (b : ResourceAlias) → slice_get c.resources r.index ≡ Some x → r.collection ≡ c.number → x.alias ≡ Some b → tree_of c (ItemKind.Ty (TypeKind.Resource r)) ≡ tree_of c (ItemKind.Ty (TypeKind.Resource b.source))
resource_alias_tree c a r x b at own same =
    let k = ItemKind.Ty (TypeKind.Resource r) in
    let is = aliased_node c r x b at own same in
    let stands = child_stands c a k (aliased x b) is (ItemKind.Ty (TypeKind.Resource b.source)) (inl refl) in
    tree_stated c a k (is_there _ _ is) ∙ ap (λ t. Some (tree t)) (stated_step c a k (aliased x b) is) ∙ sym (tree_stated c a (ItemKind.Ty (TypeKind.Resource b.source)) stands)

pub no_alias : (c : Collection) (id : DefinedTypeId) (x : DefinedType) → slice_get c.defined_types id.index ≡ Some x → ((t : ValueType) → x ≡ DefinedType.Alias t → ⊥) → IsNoAlias c (ValueType.Defined id)
no_alias c id x at h d t e alias_at =
    let same : id ≡ d = cc e in
    let index : slice_get c.defined_types id.index ≡ slice_get c.defined_types d.index = ap (λ i. slice_get c.defined_types i.index) same in
    h t (cc (at, index, alias_at))

-- ---- borrows of value types

pub primitive_borrow : (c : Collection) → IsAcyclic c → (v : ValueType) (p : PrimitiveType) → v ≡ ValueType.Primitive p → contains_borrow (stated_of c (ItemKind.Value v)) ≡ false
unfolding contains_borrow
primitive_borrow c a v p is = ap (λ v. contains_borrow (stated_of c (ItemKind.Value v))) is ∙ ap contains_borrow (stated_step c a (ItemKind.Value (ValueType.Primitive p)) (bare (primitive p)) (primitive_node c p))

pub borrow_borrow : (c : Collection) → IsAcyclic c → (v : ValueType) (r : ResourceId) → v ≡ ValueType.Borrow r → Stands c (ItemKind.Value v) → contains_borrow (stated_of c (ItemKind.Value v)) ≡ true
unfolding contains_borrow
borrow_borrow c a v r is stands =
    let n = borrow_node c r (subst (λ v. Stands c (ItemKind.Value v)) is stands) in
    ap (λ v. contains_borrow (stated_of c (ItemKind.Value v))) is ∙ ap contains_borrow (stated_step c a (ItemKind.Value (ValueType.Borrow r)) (borrow_of n.0, n.1) n.2)

pub own_borrow : (c : Collection) → IsAcyclic c → (v : ValueType) (r : ResourceId) → v ≡ ValueType.Own r → Stands c (ItemKind.Value v) → contains_borrow (stated_of c (ItemKind.Value v)) ≡ false
unfolding contains_borrow
own_borrow c a v r is stands =
    let n = own_node c r (subst (λ v. Stands c (ItemKind.Value v)) is stands) in
    ap (λ v. contains_borrow (stated_of c (ItemKind.Value v))) is ∙ ap contains_borrow (stated_step c a (ItemKind.Value (ValueType.Own r)) (own_of n.0, n.1) n.2)

-- a value type that names a defined type
module _ (c : Collection) (a : IsAcyclic c) (v : ValueType) (d : DefinedTypeId) (x : DefinedType) (is : v ≡ ValueType.Defined d) (at : slice_get c.defined_types d.index ≡ Some x) (own : d.collection ≡ c.number) where
  pub defined_stated : stated_of c (ItemKind.Value v) ≡ stated_entry c (defined_entry x)
  defined_stated = ap (λ v. stated_of c (ItemKind.Value v)) is ∙ stated_step c a (ItemKind.Value (ValueType.Defined d)) (defined_entry x) (defined_node c d x at own)

  pub defined_size : size_of c (ItemKind.Value v) ≡ suc (row_size c (defined_entry x).1)
  defined_size = ap (λ v. size_of c (ItemKind.Value v)) is ∙ entry_size c a (ItemKind.Value (ValueType.Defined d)) (defined_entry x) (defined_node c d x at own)

  pub defined_children : HasChildren c (defined_entry x)
  defined_children = Among-All (SlotStands c) (defined_entry x).1 (λ s m. by_slot s m)
    where
      by_slot : (s : Slot) → Among s (defined_entry x).1 → SlotStands c s
      by_slot None m = tt
      by_slot (Some j) m = child_stands c a (ItemKind.Value (ValueType.Defined d)) (defined_entry x) (defined_node c d x at own) j m

-- what is in a place of an entry whose children stand, and how large it is
pub place_stands : (c : Collection) → IsAcyclic c → (e : Entry) → HasChildren c e → (i : ℕ) (j : ItemKind) → slice_get e.1 i ≡ Some (Some j) → Stands c j × (size_of c j ≤ row_size c e.1)
place_stands c a e has i j at =
    let stands = All-among (SlotStands c) e.1 (Some j) has (among-get e.1 i (Some j) at) in
    let size = size_stated c a j stands in
    let fits = place_size c e.1 i j at in
    (stands, omega (arith, size, fits))

-- ---- words

pub primitive_desc : (c : Collection) → IsAcyclic c → (v : ValueType) (p : PrimitiveType) → v ≡ ValueType.Primitive p → value_desc (stated_of c (ItemKind.Value v)) ≡ primitive_word p
unfolding value_desc
primitive_desc c a v p is = ap (λ v. value_desc (stated_of c (ItemKind.Value v))) is ∙ ap value_desc (stated_step c a (ItemKind.Value (ValueType.Primitive p)) (bare (primitive p)) (primitive_node c p))

pub borrow_desc : (c : Collection) → IsAcyclic c → (v : ValueType) (r : ResourceId) → v ≡ ValueType.Borrow r → Stands c (ItemKind.Value v) → value_desc (stated_of c (ItemKind.Value v)) ≡ codes "borrow"
unfolding value_desc
borrow_desc c a v r is stands =
    let n = borrow_node c r (subst (λ v. Stands c (ItemKind.Value v)) is stands) in
    ap (λ v. value_desc (stated_of c (ItemKind.Value v))) is ∙ ap value_desc (stated_step c a (ItemKind.Value (ValueType.Borrow r)) (borrow_of n.0, n.1) n.2)

pub own_desc : (c : Collection) → IsAcyclic c → (v : ValueType) (r : ResourceId) → v ≡ ValueType.Own r → Stands c (ItemKind.Value v) → value_desc (stated_of c (ItemKind.Value v)) ≡ codes "own"
unfolding value_desc
own_desc c a v r is stands =
    let n = own_node c r (subst (λ v. Stands c (ItemKind.Value v)) is stands) in
    ap (λ v. value_desc (stated_of c (ItemKind.Value v))) is ∙ ap value_desc (stated_step c a (ItemKind.Value (ValueType.Own r)) (own_of n.0, n.1) n.2)

-- a defined type is called by its own word, an alias as what it names
pub alias_desc : (c : Collection) (x : DefinedType) (t : ValueType) → x ≡ DefinedType.Alias t → value_desc (stated_entry c (defined_entry x)) ≡ value_desc (stated_of c (ItemKind.Value t))
unfolding value_desc
alias_desc c x t is = ap (λ x. value_desc (stated_entry c (defined_entry x))) is

pub defined_desc : (c : Collection) (x : DefinedType) → ((t : ValueType) → x ≡ DefinedType.Alias t → ⊥) → value_desc (stated_entry c (defined_entry x)) ≡ word_of x
unfolding value_desc
defined_desc c (DefinedType.Tuple ts) h = refl
defined_desc c (DefinedType.List t) h = refl
defined_desc c (DefinedType.FixedSizeList t n) h = refl
defined_desc c (DefinedType.Option t) h = refl
defined_desc c (DefinedType.Result ok err) h = refl
defined_desc c (DefinedType.Variant v) h = refl
defined_desc c (DefinedType.Record r) h = refl
defined_desc c (DefinedType.Flags f) h = refl
defined_desc c (DefinedType.Enum e) h = refl
defined_desc c (DefinedType.Alias t) h = absurd (h t refl)
defined_desc c (DefinedType.Stream o) h = refl
defined_desc c (DefinedType.Future o) h = refl

-- an item is called by the word of its kind
pub desc_word : (c : Collection) → IsAcyclic c → (k j : ItemKind) → k ≡ j → Stands c k → desc (stated_of c k) ≡ kind_word (item_kind j) (value_desc (untyped (stated_of c j)))
unfolding desc
desc_word c a k j is stands =
    ap (λ k. desc (stated_of c k)) is ∙ ap (λ w. kind_word w (value_desc (untyped (stated_of c j)))) (kind_stated c a j (subst (λ k. Stands c k) is stands))

pub value_type_desc : (c : Collection) → IsAcyclic c → (k : ItemKind) (v : ValueType) → k ≡ ItemKind.Ty (TypeKind.Value v) → Stands c k → desc (stated_of c k) ≡ value_desc (stated_of c (ItemKind.Value v))
unfolding item_node
value_type_desc c a k v is stands =
    desc_word c a k (ItemKind.Ty (TypeKind.Value v)) is stands ∙ ap value_desc (untyped_stated c a (ItemKind.Ty (TypeKind.Value v)) (ItemKind.Value v) refl (subst (λ k. Stands c k) is stands))

pub value_type_stands : (c : Collection) (k : ItemKind) (v : ValueType) → k ≡ ItemKind.Ty (TypeKind.Value v) → Stands c k → Stands c (ItemKind.Value v)
value_type_stands c k v is stands = stands_typed_value c v (subst (λ k. Stands c k) is stands)
