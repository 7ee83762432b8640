-- Replacing a node's entry, where none of the new children leads back to it.
use Rattle.std.proofs.Common.{◌≡◌, ℕ, zero, suc, ◌+◌, ◌<◌, List, [], ◌∷◌, length, Option, Some, None, IsSome, Bool, true, false, refl, sym, ap, subst, ◌∙◌, ◌⊎◌, inl, inr, arith, slice_get, slice_set, ◌==◌, cond, if◌then◌else◌, length-append, length-set}
use Rattle.std.proofs.lemmas.List.{length-map}
use Rattle.std.proofs.lemmas.Bool.Decides.{nat_tests}
use Rattle.std.specs.Option.{option_map}
use Rattle.wac_types_base.specs.declared.item.ValueType.{ValueType}
use Rattle.wac_types_base.specs.declared.item.«Type».{«Type» as TypeKind}
use Rattle.wac_types_base.specs.declared.item.ItemKind.{ItemKind}
use Rattle.wac_types_base.specs.declared.defined.DefinedType.{DefinedType}
use Rattle.wac_types_base.specs.declared.ids.DefinedTypeId.{DefinedTypeId}
use Rattle.wac_types_base.specs.declared.defined.Resource.{Resource}
use Rattle.wac_types_base.specs.declared.ids.ResourceId.{ResourceId}
use Rattle.wac_types_base.specs.declared.defined.FuncType.{FuncType}
use Rattle.wac_types_base.specs.declared.ids.FuncTypeId.{FuncTypeId}
use Rattle.wac_types_base.specs.declared.defined.Interface.{Interface}
use Rattle.wac_types_base.specs.declared.ids.InterfaceId.{InterfaceId}
use Rattle.wac_types_base.specs.declared.defined.World.{World}
use Rattle.wac_types_base.specs.declared.ids.WorldId.{WorldId}
use Rattle.wac_types_base.specs.declared.core_types.ModuleType.{ModuleType}
use Rattle.wac_types_base.specs.declared.ids.ModuleTypeId.{ModuleTypeId}
use Rattle.wac_types_base.specs.Record.{Collection, Kept}
use Rattle.wac_types_base.specs.Kept.{keeping}
use Rattle.wac_types_base.specs.Collection.{Shape, Entry, SlotStands, HasChildren, entry_at, labelled, type_of, borrow_of, own_of, defined_entry, resource_entry, func_entry, interface_entry, world_entry, module_entry, value_node, type_node, item_node, Stands, rows, depth, IsAcyclic, unfolding_of}
use Rattle.wac_types_base.specs.Graph.{Whole, Wholes, wholes_by, whole, UnfoldsWithin, Among}
use Rattle.wac_types_base.specs.Reaching.{Reaches, here, below, value_entry_kind, entry_kind, NamesEntry, LeadsBack, KeepsOthers, KeepsStanding, with_defined_type, with_resource, with_func_type, with_interface, with_world, with_module_type}
use Rattle.wac_types_base.specs.Discrete.{ItemKind-discrete}
use Rattle.wac_types_base.proofs.Adding.{All-among, children_in_rows}
use Rattle.wac_types_base.proofs.GraphLemmas.{unfolds_within_rows, both-some, skip-some, grow-some, value_of, is_there, node_has, whole-changed}

module _ {R S : Type 0} where
  pub row-same : (w w' : R → Option (Whole S)) (rs : List (Option R)) → ((c : R) (t : Whole S) → Among (Some c) rs → w c ≡ Some t → w' c ≡ Some t) → (ts : Wholes S) → wholes_by w rs ≡ Some ts → wholes_by w' rs ≡ Some ts
  row-same w w' [] h ts e = e
  row-same w w' (None ∷ rs) h ts e =
      let i = skip-some (wholes_by w rs) ts e in
      rw (row-same w w' rs (λ c t m. h c t (inr m)) i.0 i.1) (sym (ap Some i.2))
  row-same w w' (Some r ∷ rs) h ts e =
      let i = both-some (w r) (wholes_by w rs) ts e in
      rw (h r i.0 (inl refl) i.2, row-same w w' rs (λ c t m. h c t (inr m)) i.1 i.3) (sym (ap Some i.4))

module _ {R S : Type 0} (g g' : R → Option (S × List (Option R))) (P : R → Type 0) (same : (r : R) → (P r → ⊥) → g' r ≡ g r) where
  -- what does not lead to a changed node keeps its tree
  pub whole-unreached : (n : ℕ) (r : R) (t : Whole S) → (Reaches g P r → ⊥) → whole g n r ≡ Some t → whole g' n r ≡ Some t
  unfolding whole
  whole-unreached zero r t apart e = absurd (cc e)
  whole-unreached (suc n) r t apart e =
      let i = grow-some (g r) (whole g n) t e in
      let is : g' r ≡ Some (i.0, i.1) = same r (λ p. apart (here p)) ∙ i.3 in
      let row = row-same (whole g n) (whole g' n) i.1 (λ c u m f. whole-unreached n c u (λ q. apart (below i.3 m q)) f) i.2 i.4 in
      rw (is, row) (sym (ap Some i.5))

  -- the new entry of a changed node: children that stood and do not lead back
  pub Fresh : Type 0
  Fresh = (r : R) → P r → (s : S) × (rs : List (Option R)) × (g' r ≡ Some (s, rs)) × ((c : R) → Among (Some c) rs → IsSome (g c) × (Reaches g P c → ⊥))

  pub replaced_within : (decide : (r : R) → P r ⊎ (P r → ⊥)) → Fresh → ((r : R) → IsSome (g' r) → IsSome (g r)) → (n : ℕ) → UnfoldsWithin g n → UnfoldsWithin g' (n + suc n)
  unfolding Fresh
  replaced_within decide fresh stood n h r stands =
      whole-changed g g' (suc n) (λ q. elim (decide q) [
        | inr not ↦ inl (same q not)
        | inl is ↦
            let f = fresh q is in
            inr (node_has g' n q f.0 f.1 f.2 (λ c m.
            let k = f.3 c m in
            let t = value_of _ (h c k.0) in
            is_there _ t.0 (whole-unreached n c t.0 k.1 t.1)))
      ]) n r (h r (stood r stands))

pub slice_get-set_other : {X : Type 0} (xs : List X) (i j : ℕ) (x : X) → (j ≡ i → ⊥) → slice_get (slice_set xs i x) j ≡ slice_get xs j
slice_get-set_other [] i j x h = refl
slice_get-set_other (y ∷ xs) zero zero x h = absurd (h refl)
slice_get-set_other (y ∷ xs) zero (suc j) x h = refl
slice_get-set_other (y ∷ xs) (suc i) zero x h = refl
slice_get-set_other (y ∷ xs) (suc i) (suc j) x h = slice_get-set_other xs i j x (λ e. h (ap suc e))

pub slice_get-set_same : {X : Type 0} (xs : List X) (i : ℕ) (x : X) → i < length xs → slice_get (slice_set xs i x) i ≡ Some x
slice_get-set_same [] i x h = absurd (omega arith)
slice_get-set_same (y ∷ xs) zero x h = refl
slice_get-set_same (y ∷ xs) (suc i) x h = slice_get-set_same xs i x (omega arith)

guarded-same : {A : Type 0} (b : Bool) (o p : Option A) → (b ≡ true → o ≡ p) → (if b then o else None) ≡ (if b then p else None)
guarded-same true o p h = h refl
guarded-same false o p h = refl

pub same_number : (a b : ℕ) → (a == b) ≡ true → a ≡ b
same_number a b h = grind (arith, nat_tests)

-- a number that a test lets through is the one that it asks for
pub only_one : (s j : ℕ) (b : Bool) → (s == j) ≡ b → cond b true false ≡ true → j ≡ s
only_one s j true is h = sym (same_number s j is)
only_one s j false is h = absurd (cc (h))

pub number_same : (a b : ℕ) → a ≡ b → (a == b) ≡ true
number_same a b h = grind (arith, nat_tests)

pub entry_at-set_other : {E : Type 0} (f : E → Entry) (n : ℕ) (es : List E) (i : ℕ) (x : E) (col j : ℕ) → (col ≡ n → j ≡ i → ⊥) → entry_at f n (slice_set es i x) col j ≡ entry_at f n es col j
entry_at-set_other f n es i x col j h = guarded-same (col == n) _ _ (λ e. ap (option_map f) (slice_get-set_other es i j x (h (same_number col n e))))

pub entry_at-set_same : {E : Type 0} (f : E → Entry) (n : ℕ) (es : List E) (i : ℕ) (x : E) (col : ℕ) → col ≡ n → i < length es → entry_at f n (slice_set es i x) col i ≡ Some (f x)
entry_at-set_same f n es i x col e h = rw (number_same col n e, slice_get-set_same es i x h) refl

names_or_not : (t k : ItemKind) → NamesEntry t k ⊎ (NamesEntry t k → ⊥)
names_or_not t k = decided (ItemKind-discrete (entry_kind k) t)
  where
    decided : Dec (entry_kind k ≡ t) → NamesEntry t k ⊎ (NamesEntry t k → ⊥)
    decided (yes e) = inl e
    decided (no h) = inr h

-- a kind has its entry's node, with its own label
labelled_same : (o : Option Entry) → o ≡ labelled (λ s. s) o
labelled_same None = refl
labelled_same (Some e) = refl

labelled_twice : (l m : Shape → Shape) (o : Option Entry) → labelled l (labelled m o) ≡ labelled (λ s. l (m s)) o
labelled_twice l m None = refl
labelled_twice l m (Some e) = refl

module _ (c : Collection) where
  value_wrapped : (v : ValueType) → (l : Shape → Shape) × (value_node c v ≡ labelled l (item_node c (value_entry_kind v)))
  unfolding item_node
  value_wrapped (ValueType.Primitive p) = (λ s. s, refl)
  value_wrapped (ValueType.Borrow r) = (borrow_of, refl)
  value_wrapped (ValueType.Own r) = (own_of, refl)
  value_wrapped (ValueType.Defined d) = (λ s. s, labelled_same (value_node c (ValueType.Defined d)))

  node_wrapped : (k : ItemKind) → (l : Shape → Shape) × (item_node c k ≡ labelled l (item_node c (entry_kind k)))
  unfolding item_node
  node_wrapped (ItemKind.Ty (TypeKind.Resource r)) = (λ s. s, labelled_same (type_node c (TypeKind.Resource r)))
  node_wrapped (ItemKind.Ty (TypeKind.Func f)) = (type_of, refl)
  node_wrapped (ItemKind.Ty (TypeKind.Value v)) = let w = value_wrapped v in (λ s. type_of (w.0 s), ap (labelled type_of) w.1 ∙ labelled_twice type_of w.0 (item_node c (value_entry_kind v)))
  node_wrapped (ItemKind.Ty (TypeKind.Interface i)) = (type_of, refl)
  node_wrapped (ItemKind.Ty (TypeKind.World i)) = (type_of, refl)
  node_wrapped (ItemKind.Ty (TypeKind.Module i)) = (type_of, refl)
  node_wrapped (ItemKind.Func f) = (λ s. s, labelled_same (item_node c (ItemKind.Func f)))
  node_wrapped (ItemKind.Instance f) = (λ s. s, labelled_same (item_node c (ItemKind.Instance f)))
  node_wrapped (ItemKind.Component f) = (λ s. s, labelled_same (item_node c (ItemKind.Component f)))
  node_wrapped (ItemKind.Module f) = (λ s. s, labelled_same (item_node c (ItemKind.Module f)))
  node_wrapped (ItemKind.Value v) = value_wrapped v

pub labelled_there : (l : Shape → Shape) (o : Option Entry) → IsSome o → IsSome (labelled l o)
labelled_there l None h = h
labelled_there l (Some e) h = refl

-- one entry is another, whose children stood and do not lead back
module _ (c d : Collection) (t : ItemKind) (e : Entry)
    (unchanged : (k : ItemKind) → (NamesEntry t k → ⊥) → item_node d k ≡ item_node c k)
    (changed : item_node d t ≡ Some e) (stood : Stands c t) (same_rows : length (rows d) ≡ length (rows c))
    (acyclic : IsAcyclic c) (has : HasChildren c e) (apart : LeadsBack c t e → ⊥) where
  names_stood : (k : ItemKind) → NamesEntry t k → Stands c k
  names_stood k is =
      let w = node_wrapped c k in
      subst (λ o. IsSome o) (sym w.1) (labelled_there w.0 (item_node c (entry_kind k)) (subst (λ j. Stands c j) (sym is) stood))

  new_node : (k : ItemKind) → NamesEntry t k → (s : Shape) × (item_node d k ≡ Some (s, e.1))
  new_node k is =
      let w = node_wrapped d k in
      (w.0 e.0, w.1 ∙ ap (λ j. labelled w.0 (item_node d j)) is ∙ ap (labelled w.0) changed)

  pub replaced-acyclic : IsAcyclic d
  unfolding IsAcyclic Fresh
  replaced-acyclic =
      unfolds_within_rows (item_node d) (depth c + suc (depth c)) (rows d) (children_in_rows d)
      (replaced_within (item_node c) (item_node d) (NamesEntry t) unchanged (names_or_not t)
      (λ k is. let n = new_node k is in (n.0, e.1, n.1, λ j m. (All-among (SlotStands c) e.1 (Some j) has m, λ r. apart (j, m, r))))
      (λ k stands. elim (names_or_not t k) [ inl is ↦ names_stood k is | inr other ↦ subst (λ o. IsSome o) (unchanged k other) stands ])
      (depth c) acyclic)

  pub replaced-keeps : KeepsOthers c d t
  unfolding IsAcyclic unfolding_of
  replaced-keeps k stands unreached =
      let v = value_of _ (acyclic k stands) in
      let same_depth : depth d ≡ depth c = ap (λ n. n + 2) same_rows in
      rw same_depth (whole-unreached (item_node c) (item_node d) (NamesEntry t) unchanged (depth c) k v.0 unreached v.1 ∙ sym v.1)

  pub replaced-stand : KeepsStanding c d
  replaced-stand k stands = elim (names_or_not t k) [
    | inl is ↦ let n = new_node k is in is_there _ (n.0, e.1) n.1
    | inr other ↦ subst (λ o. IsSome o) (sym (unchanged k other)) stands
  ]

defined_same : (i j : DefinedTypeId) → j.collection ≡ i.collection → j.index ≡ i.index → ItemKind.Value (ValueType.Defined j) ≡ ItemKind.Value (ValueType.Defined i)
defined_same i j p q =
    let first : ℕ → ItemKind = λ a. ItemKind.Value (ValueType.Defined (record { collection = a; index = j.index })) in
    let second : ℕ → ItemKind = λ b. ItemKind.Value (ValueType.Defined (record { collection = i.collection; index = b })) in
    ap first p ∙ ap second q

module _ (c : Collection) (m : Kept) (id : DefinedTypeId) (own : id.collection ≡ c.number) (within : id.index < length c.defined_types) (x : DefinedType) where
  defined_value_unchanged : (v : ValueType) → (NamesEntry (ItemKind.Value (ValueType.Defined id)) (ItemKind.Value v) → ⊥) → value_node (keeping m (with_defined_type c id.index x)) v ≡ value_node c v
  defined_value_unchanged (ValueType.Primitive p) h = refl
  defined_value_unchanged (ValueType.Borrow j) h = refl
  defined_value_unchanged (ValueType.Own j) h = refl
  defined_value_unchanged (ValueType.Defined j) h = entry_at-set_other defined_entry c.number c.defined_types id.index x j.collection j.index (λ p q. h (defined_same id j (p ∙ sym own) q))

  defined_type_unchanged : (t : TypeKind) → (NamesEntry (ItemKind.Value (ValueType.Defined id)) (ItemKind.Ty t) → ⊥) → type_node (keeping m (with_defined_type c id.index x)) t ≡ type_node c t
  defined_type_unchanged (TypeKind.Resource j) h = refl
  defined_type_unchanged (TypeKind.Func j) h = refl
  defined_type_unchanged (TypeKind.Value v) h = ap (labelled type_of) (defined_value_unchanged v h)
  defined_type_unchanged (TypeKind.Interface j) h = refl
  defined_type_unchanged (TypeKind.World j) h = refl
  defined_type_unchanged (TypeKind.Module j) h = refl

  pub defined_unchanged : (k : ItemKind) → (NamesEntry (ItemKind.Value (ValueType.Defined id)) k → ⊥) → item_node (keeping m (with_defined_type c id.index x)) k ≡ item_node c k
  unfolding item_node
  defined_unchanged (ItemKind.Ty t) h = defined_type_unchanged t h
  defined_unchanged (ItemKind.Func j) h = refl
  defined_unchanged (ItemKind.Instance j) h = refl
  defined_unchanged (ItemKind.Component j) h = refl
  defined_unchanged (ItemKind.Module j) h = refl
  defined_unchanged (ItemKind.Value v) h = defined_value_unchanged v h

  pub defined_changed : item_node (keeping m (with_defined_type c id.index x)) (ItemKind.Value (ValueType.Defined id)) ≡ Some (defined_entry x)
  unfolding item_node
  defined_changed = entry_at-set_same defined_entry c.number c.defined_types id.index x id.collection own within

  pub defined_rows : length (rows (keeping m (with_defined_type c id.index x))) ≡ length (rows c)
  unfolding rows
  defined_rows = simp (length-append, length-map, length-set)

  module _ (stood : Stands c (ItemKind.Value (ValueType.Defined id))) (acyclic : IsAcyclic c) (has : HasChildren c (defined_entry x)) (apart : LeadsBack c (ItemKind.Value (ValueType.Defined id)) (defined_entry x) → ⊥) where
    pub defined_acyclic : IsAcyclic (keeping m (with_defined_type c id.index x))
    defined_acyclic = replaced-acyclic c (keeping m (with_defined_type c id.index x)) (ItemKind.Value (ValueType.Defined id)) (defined_entry x) defined_unchanged defined_changed stood defined_rows acyclic has apart

    pub defined_keeps : KeepsOthers c (keeping m (with_defined_type c id.index x)) (ItemKind.Value (ValueType.Defined id))
    defined_keeps = replaced-keeps c (keeping m (with_defined_type c id.index x)) (ItemKind.Value (ValueType.Defined id)) (defined_entry x) defined_unchanged defined_changed stood defined_rows acyclic has apart

    pub defined_stand : KeepsStanding c (keeping m (with_defined_type c id.index x))
    defined_stand = replaced-stand c (keeping m (with_defined_type c id.index x)) (ItemKind.Value (ValueType.Defined id)) (defined_entry x) defined_unchanged defined_changed stood defined_rows acyclic has apart

resource_same : (i j : ResourceId) → j.collection ≡ i.collection → j.index ≡ i.index → ItemKind.Ty (TypeKind.Resource j) ≡ ItemKind.Ty (TypeKind.Resource i)
resource_same i j p q =
    let first : ℕ → ItemKind = λ a. ItemKind.Ty (TypeKind.Resource (record { collection = a; index = j.index })) in
    let second : ℕ → ItemKind = λ b. ItemKind.Ty (TypeKind.Resource (record { collection = i.collection; index = b })) in
    ap first p ∙ ap second q

module _ (c : Collection) (m : Kept) (id : ResourceId) (own : id.collection ≡ c.number) (within : id.index < length c.resources) (x : Resource) where
  resource_value_unchanged : (v : ValueType) → (NamesEntry (ItemKind.Ty (TypeKind.Resource id)) (ItemKind.Value v) → ⊥) → value_node (keeping m (with_resource c id.index x)) v ≡ value_node c v
  resource_value_unchanged (ValueType.Primitive p) h = refl
  resource_value_unchanged (ValueType.Borrow j) h = ap (labelled borrow_of) (entry_at-set_other resource_entry c.number c.resources id.index x j.collection j.index (λ p q. h (resource_same id j (p ∙ sym own) q)))
  resource_value_unchanged (ValueType.Own j) h = ap (labelled own_of) (entry_at-set_other resource_entry c.number c.resources id.index x j.collection j.index (λ p q. h (resource_same id j (p ∙ sym own) q)))
  resource_value_unchanged (ValueType.Defined j) h = refl

  resource_type_unchanged : (t : TypeKind) → (NamesEntry (ItemKind.Ty (TypeKind.Resource id)) (ItemKind.Ty t) → ⊥) → type_node (keeping m (with_resource c id.index x)) t ≡ type_node c t
  resource_type_unchanged (TypeKind.Resource j) h = entry_at-set_other resource_entry c.number c.resources id.index x j.collection j.index (λ p q. h (resource_same id j (p ∙ sym own) q))
  resource_type_unchanged (TypeKind.Func j) h = refl
  resource_type_unchanged (TypeKind.Value v) h = ap (labelled type_of) (resource_value_unchanged v h)
  resource_type_unchanged (TypeKind.Interface j) h = refl
  resource_type_unchanged (TypeKind.World j) h = refl
  resource_type_unchanged (TypeKind.Module j) h = refl

  pub resource_unchanged : (k : ItemKind) → (NamesEntry (ItemKind.Ty (TypeKind.Resource id)) k → ⊥) → item_node (keeping m (with_resource c id.index x)) k ≡ item_node c k
  unfolding item_node
  resource_unchanged (ItemKind.Ty t) h = resource_type_unchanged t h
  resource_unchanged (ItemKind.Func j) h = refl
  resource_unchanged (ItemKind.Instance j) h = refl
  resource_unchanged (ItemKind.Component j) h = refl
  resource_unchanged (ItemKind.Module j) h = refl
  resource_unchanged (ItemKind.Value v) h = resource_value_unchanged v h

  pub resource_changed : item_node (keeping m (with_resource c id.index x)) (ItemKind.Ty (TypeKind.Resource id)) ≡ Some (resource_entry x)
  unfolding item_node
  resource_changed = entry_at-set_same resource_entry c.number c.resources id.index x id.collection own within

  pub resource_rows : length (rows (keeping m (with_resource c id.index x))) ≡ length (rows c)
  unfolding rows
  resource_rows = simp (length-append, length-map, length-set)

  module _ (stood : Stands c (ItemKind.Ty (TypeKind.Resource id))) (acyclic : IsAcyclic c) (has : HasChildren c (resource_entry x)) (apart : LeadsBack c (ItemKind.Ty (TypeKind.Resource id)) (resource_entry x) → ⊥) where
    pub resource_acyclic : IsAcyclic (keeping m (with_resource c id.index x))
    resource_acyclic = replaced-acyclic c (keeping m (with_resource c id.index x)) (ItemKind.Ty (TypeKind.Resource id)) (resource_entry x) resource_unchanged resource_changed stood resource_rows acyclic has apart

    pub resource_keeps : KeepsOthers c (keeping m (with_resource c id.index x)) (ItemKind.Ty (TypeKind.Resource id))
    resource_keeps = replaced-keeps c (keeping m (with_resource c id.index x)) (ItemKind.Ty (TypeKind.Resource id)) (resource_entry x) resource_unchanged resource_changed stood resource_rows acyclic has apart

    pub resource_stand : KeepsStanding c (keeping m (with_resource c id.index x))
    resource_stand = replaced-stand c (keeping m (with_resource c id.index x)) (ItemKind.Ty (TypeKind.Resource id)) (resource_entry x) resource_unchanged resource_changed stood resource_rows acyclic has apart

func_same : (i j : FuncTypeId) → j.collection ≡ i.collection → j.index ≡ i.index → ItemKind.Func j ≡ ItemKind.Func i
func_same i j p q =
    let first : ℕ → ItemKind = λ a. ItemKind.Func (record { collection = a; index = j.index }) in
    let second : ℕ → ItemKind = λ b. ItemKind.Func (record { collection = i.collection; index = b }) in
    ap first p ∙ ap second q

module _ (c : Collection) (m : Kept) (id : FuncTypeId) (own : id.collection ≡ c.number) (within : id.index < length c.func_types) (x : FuncType) where
  func_value_unchanged : (v : ValueType) → (NamesEntry (ItemKind.Func id) (ItemKind.Value v) → ⊥) → value_node (keeping m (with_func_type c id.index x)) v ≡ value_node c v
  func_value_unchanged (ValueType.Primitive p) h = refl
  func_value_unchanged (ValueType.Borrow j) h = refl
  func_value_unchanged (ValueType.Own j) h = refl
  func_value_unchanged (ValueType.Defined j) h = refl

  func_type_unchanged : (t : TypeKind) → (NamesEntry (ItemKind.Func id) (ItemKind.Ty t) → ⊥) → type_node (keeping m (with_func_type c id.index x)) t ≡ type_node c t
  func_type_unchanged (TypeKind.Resource j) h = refl
  func_type_unchanged (TypeKind.Func j) h = ap (labelled type_of) (entry_at-set_other func_entry c.number c.func_types id.index x j.collection j.index (λ p q. h (func_same id j (p ∙ sym own) q)))
  func_type_unchanged (TypeKind.Value v) h = ap (labelled type_of) (func_value_unchanged v h)
  func_type_unchanged (TypeKind.Interface j) h = refl
  func_type_unchanged (TypeKind.World j) h = refl
  func_type_unchanged (TypeKind.Module j) h = refl

  pub func_unchanged : (k : ItemKind) → (NamesEntry (ItemKind.Func id) k → ⊥) → item_node (keeping m (with_func_type c id.index x)) k ≡ item_node c k
  unfolding item_node
  func_unchanged (ItemKind.Ty t) h = func_type_unchanged t h
  func_unchanged (ItemKind.Func j) h = entry_at-set_other func_entry c.number c.func_types id.index x j.collection j.index (λ p q. h (func_same id j (p ∙ sym own) q))
  func_unchanged (ItemKind.Instance j) h = refl
  func_unchanged (ItemKind.Component j) h = refl
  func_unchanged (ItemKind.Module j) h = refl
  func_unchanged (ItemKind.Value v) h = func_value_unchanged v h

  pub func_changed : item_node (keeping m (with_func_type c id.index x)) (ItemKind.Func id) ≡ Some (func_entry x)
  unfolding item_node
  func_changed = entry_at-set_same func_entry c.number c.func_types id.index x id.collection own within

  pub func_rows : length (rows (keeping m (with_func_type c id.index x))) ≡ length (rows c)
  unfolding rows
  func_rows = simp (length-append, length-map, length-set)

  module _ (stood : Stands c (ItemKind.Func id)) (acyclic : IsAcyclic c) (has : HasChildren c (func_entry x)) (apart : LeadsBack c (ItemKind.Func id) (func_entry x) → ⊥) where
    pub func_acyclic : IsAcyclic (keeping m (with_func_type c id.index x))
    func_acyclic = replaced-acyclic c (keeping m (with_func_type c id.index x)) (ItemKind.Func id) (func_entry x) func_unchanged func_changed stood func_rows acyclic has apart

    pub func_keeps : KeepsOthers c (keeping m (with_func_type c id.index x)) (ItemKind.Func id)
    func_keeps = replaced-keeps c (keeping m (with_func_type c id.index x)) (ItemKind.Func id) (func_entry x) func_unchanged func_changed stood func_rows acyclic has apart

    pub func_stand : KeepsStanding c (keeping m (with_func_type c id.index x))
    func_stand = replaced-stand c (keeping m (with_func_type c id.index x)) (ItemKind.Func id) (func_entry x) func_unchanged func_changed stood func_rows acyclic has apart

interface_same : (i j : InterfaceId) → j.collection ≡ i.collection → j.index ≡ i.index → ItemKind.Instance j ≡ ItemKind.Instance i
interface_same i j p q =
    let first : ℕ → ItemKind = λ a. ItemKind.Instance (record { collection = a; index = j.index }) in
    let second : ℕ → ItemKind = λ b. ItemKind.Instance (record { collection = i.collection; index = b }) in
    ap first p ∙ ap second q

module _ (c : Collection) (m : Kept) (id : InterfaceId) (own : id.collection ≡ c.number) (within : id.index < length c.interfaces) (x : Interface) where
  interface_value_unchanged : (v : ValueType) → (NamesEntry (ItemKind.Instance id) (ItemKind.Value v) → ⊥) → value_node (keeping m (with_interface c id.index x)) v ≡ value_node c v
  interface_value_unchanged (ValueType.Primitive p) h = refl
  interface_value_unchanged (ValueType.Borrow j) h = refl
  interface_value_unchanged (ValueType.Own j) h = refl
  interface_value_unchanged (ValueType.Defined j) h = refl

  interface_type_unchanged : (t : TypeKind) → (NamesEntry (ItemKind.Instance id) (ItemKind.Ty t) → ⊥) → type_node (keeping m (with_interface c id.index x)) t ≡ type_node c t
  interface_type_unchanged (TypeKind.Resource j) h = refl
  interface_type_unchanged (TypeKind.Func j) h = refl
  interface_type_unchanged (TypeKind.Value v) h = ap (labelled type_of) (interface_value_unchanged v h)
  interface_type_unchanged (TypeKind.Interface j) h = ap (labelled type_of) (entry_at-set_other interface_entry c.number c.interfaces id.index x j.collection j.index (λ p q. h (interface_same id j (p ∙ sym own) q)))
  interface_type_unchanged (TypeKind.World j) h = refl
  interface_type_unchanged (TypeKind.Module j) h = refl

  pub interface_unchanged : (k : ItemKind) → (NamesEntry (ItemKind.Instance id) k → ⊥) → item_node (keeping m (with_interface c id.index x)) k ≡ item_node c k
  unfolding item_node
  interface_unchanged (ItemKind.Ty t) h = interface_type_unchanged t h
  interface_unchanged (ItemKind.Func j) h = refl
  interface_unchanged (ItemKind.Instance j) h = entry_at-set_other interface_entry c.number c.interfaces id.index x j.collection j.index (λ p q. h (interface_same id j (p ∙ sym own) q))
  interface_unchanged (ItemKind.Component j) h = refl
  interface_unchanged (ItemKind.Module j) h = refl
  interface_unchanged (ItemKind.Value v) h = interface_value_unchanged v h

  pub interface_changed : item_node (keeping m (with_interface c id.index x)) (ItemKind.Instance id) ≡ Some (interface_entry x)
  unfolding item_node
  interface_changed = entry_at-set_same interface_entry c.number c.interfaces id.index x id.collection own within

  pub interface_rows : length (rows (keeping m (with_interface c id.index x))) ≡ length (rows c)
  unfolding rows
  interface_rows = simp (length-append, length-map, length-set)

  module _ (stood : Stands c (ItemKind.Instance id)) (acyclic : IsAcyclic c) (has : HasChildren c (interface_entry x)) (apart : LeadsBack c (ItemKind.Instance id) (interface_entry x) → ⊥) where
    pub interface_acyclic : IsAcyclic (keeping m (with_interface c id.index x))
    interface_acyclic = replaced-acyclic c (keeping m (with_interface c id.index x)) (ItemKind.Instance id) (interface_entry x) interface_unchanged interface_changed stood interface_rows acyclic has apart

    pub interface_keeps : KeepsOthers c (keeping m (with_interface c id.index x)) (ItemKind.Instance id)
    interface_keeps = replaced-keeps c (keeping m (with_interface c id.index x)) (ItemKind.Instance id) (interface_entry x) interface_unchanged interface_changed stood interface_rows acyclic has apart

    pub interface_stand : KeepsStanding c (keeping m (with_interface c id.index x))
    interface_stand = replaced-stand c (keeping m (with_interface c id.index x)) (ItemKind.Instance id) (interface_entry x) interface_unchanged interface_changed stood interface_rows acyclic has apart

world_same : (i j : WorldId) → j.collection ≡ i.collection → j.index ≡ i.index → ItemKind.Component j ≡ ItemKind.Component i
world_same i j p q =
    let first : ℕ → ItemKind = λ a. ItemKind.Component (record { collection = a; index = j.index }) in
    let second : ℕ → ItemKind = λ b. ItemKind.Component (record { collection = i.collection; index = b }) in
    ap first p ∙ ap second q

module _ (c : Collection) (m : Kept) (id : WorldId) (own : id.collection ≡ c.number) (within : id.index < length c.worlds) (x : World) where
  world_value_unchanged : (v : ValueType) → (NamesEntry (ItemKind.Component id) (ItemKind.Value v) → ⊥) → value_node (keeping m (with_world c id.index x)) v ≡ value_node c v
  world_value_unchanged (ValueType.Primitive p) h = refl
  world_value_unchanged (ValueType.Borrow j) h = refl
  world_value_unchanged (ValueType.Own j) h = refl
  world_value_unchanged (ValueType.Defined j) h = refl

  world_type_unchanged : (t : TypeKind) → (NamesEntry (ItemKind.Component id) (ItemKind.Ty t) → ⊥) → type_node (keeping m (with_world c id.index x)) t ≡ type_node c t
  world_type_unchanged (TypeKind.Resource j) h = refl
  world_type_unchanged (TypeKind.Func j) h = refl
  world_type_unchanged (TypeKind.Value v) h = ap (labelled type_of) (world_value_unchanged v h)
  world_type_unchanged (TypeKind.Interface j) h = refl
  world_type_unchanged (TypeKind.World j) h = ap (labelled type_of) (entry_at-set_other world_entry c.number c.worlds id.index x j.collection j.index (λ p q. h (world_same id j (p ∙ sym own) q)))
  world_type_unchanged (TypeKind.Module j) h = refl

  pub world_unchanged : (k : ItemKind) → (NamesEntry (ItemKind.Component id) k → ⊥) → item_node (keeping m (with_world c id.index x)) k ≡ item_node c k
  unfolding item_node
  world_unchanged (ItemKind.Ty t) h = world_type_unchanged t h
  world_unchanged (ItemKind.Func j) h = refl
  world_unchanged (ItemKind.Instance j) h = refl
  world_unchanged (ItemKind.Component j) h = entry_at-set_other world_entry c.number c.worlds id.index x j.collection j.index (λ p q. h (world_same id j (p ∙ sym own) q))
  world_unchanged (ItemKind.Module j) h = refl
  world_unchanged (ItemKind.Value v) h = world_value_unchanged v h

  pub world_changed : item_node (keeping m (with_world c id.index x)) (ItemKind.Component id) ≡ Some (world_entry x)
  unfolding item_node
  world_changed = entry_at-set_same world_entry c.number c.worlds id.index x id.collection own within

  pub world_rows : length (rows (keeping m (with_world c id.index x))) ≡ length (rows c)
  unfolding rows
  world_rows = simp (length-append, length-map, length-set)

  module _ (stood : Stands c (ItemKind.Component id)) (acyclic : IsAcyclic c) (has : HasChildren c (world_entry x)) (apart : LeadsBack c (ItemKind.Component id) (world_entry x) → ⊥) where
    pub world_acyclic : IsAcyclic (keeping m (with_world c id.index x))
    world_acyclic = replaced-acyclic c (keeping m (with_world c id.index x)) (ItemKind.Component id) (world_entry x) world_unchanged world_changed stood world_rows acyclic has apart

    pub world_keeps : KeepsOthers c (keeping m (with_world c id.index x)) (ItemKind.Component id)
    world_keeps = replaced-keeps c (keeping m (with_world c id.index x)) (ItemKind.Component id) (world_entry x) world_unchanged world_changed stood world_rows acyclic has apart

    pub world_stand : KeepsStanding c (keeping m (with_world c id.index x))
    world_stand = replaced-stand c (keeping m (with_world c id.index x)) (ItemKind.Component id) (world_entry x) world_unchanged world_changed stood world_rows acyclic has apart

module_same : (i j : ModuleTypeId) → j.collection ≡ i.collection → j.index ≡ i.index → ItemKind.Module j ≡ ItemKind.Module i
module_same i j p q =
    let first : ℕ → ItemKind = λ a. ItemKind.Module (record { collection = a; index = j.index }) in
    let second : ℕ → ItemKind = λ b. ItemKind.Module (record { collection = i.collection; index = b }) in
    ap first p ∙ ap second q

module _ (c : Collection) (m : Kept) (id : ModuleTypeId) (own : id.collection ≡ c.number) (within : id.index < length c.modules) (x : ModuleType) where
  module_value_unchanged : (v : ValueType) → (NamesEntry (ItemKind.Module id) (ItemKind.Value v) → ⊥) → value_node (keeping m (with_module_type c id.index x)) v ≡ value_node c v
  module_value_unchanged (ValueType.Primitive p) h = refl
  module_value_unchanged (ValueType.Borrow j) h = refl
  module_value_unchanged (ValueType.Own j) h = refl
  module_value_unchanged (ValueType.Defined j) h = refl

  module_type_unchanged : (t : TypeKind) → (NamesEntry (ItemKind.Module id) (ItemKind.Ty t) → ⊥) → type_node (keeping m (with_module_type c id.index x)) t ≡ type_node c t
  module_type_unchanged (TypeKind.Resource j) h = refl
  module_type_unchanged (TypeKind.Func j) h = refl
  module_type_unchanged (TypeKind.Value v) h = ap (labelled type_of) (module_value_unchanged v h)
  module_type_unchanged (TypeKind.Interface j) h = refl
  module_type_unchanged (TypeKind.World j) h = refl
  module_type_unchanged (TypeKind.Module j) h = ap (labelled type_of) (entry_at-set_other module_entry c.number c.modules id.index x j.collection j.index (λ p q. h (module_same id j (p ∙ sym own) q)))

  pub module_unchanged : (k : ItemKind) → (NamesEntry (ItemKind.Module id) k → ⊥) → item_node (keeping m (with_module_type c id.index x)) k ≡ item_node c k
  unfolding item_node
  module_unchanged (ItemKind.Ty t) h = module_type_unchanged t h
  module_unchanged (ItemKind.Func j) h = refl
  module_unchanged (ItemKind.Instance j) h = refl
  module_unchanged (ItemKind.Component j) h = refl
  module_unchanged (ItemKind.Module j) h = entry_at-set_other module_entry c.number c.modules id.index x j.collection j.index (λ p q. h (module_same id j (p ∙ sym own) q))
  module_unchanged (ItemKind.Value v) h = module_value_unchanged v h

  pub module_changed : item_node (keeping m (with_module_type c id.index x)) (ItemKind.Module id) ≡ Some (module_entry x)
  unfolding item_node
  module_changed = entry_at-set_same module_entry c.number c.modules id.index x id.collection own within

  pub module_rows : length (rows (keeping m (with_module_type c id.index x))) ≡ length (rows c)
  unfolding rows
  module_rows = simp (length-append, length-map, length-set)

  module _ (stood : Stands c (ItemKind.Module id)) (acyclic : IsAcyclic c) (has : HasChildren c (module_entry x)) (apart : LeadsBack c (ItemKind.Module id) (module_entry x) → ⊥) where
    pub module_acyclic : IsAcyclic (keeping m (with_module_type c id.index x))
    module_acyclic = replaced-acyclic c (keeping m (with_module_type c id.index x)) (ItemKind.Module id) (module_entry x) module_unchanged module_changed stood module_rows acyclic has apart

    pub module_keeps : KeepsOthers c (keeping m (with_module_type c id.index x)) (ItemKind.Module id)
    module_keeps = replaced-keeps c (keeping m (with_module_type c id.index x)) (ItemKind.Module id) (module_entry x) module_unchanged module_changed stood module_rows acyclic has apart

    pub module_stand : KeepsStanding c (keeping m (with_module_type c id.index x))
    module_stand = replaced-stand c (keeping m (with_module_type c id.index x)) (ItemKind.Module id) (module_entry x) module_unchanged module_changed stood module_rows acyclic has apart
