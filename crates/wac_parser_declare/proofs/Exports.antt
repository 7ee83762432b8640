-- The exports that items state.
use Rattle.std.specs.Prelude.{⊤, unwrap_or}
use Rattle.std.proofs.Common.{◌≡◌, ℕ, ◌+◌, List, [], ◌∷◌, ◌++◌, map, length, drop, Option, Some, None, option_map, slice_get, refl, sym, ap, subst, ◌∙◌}
use Rattle.std.proofs.lemmas.List.{drop-drop}
use Rattle.wac_types_base.specs.declared.item.ItemKind.{ItemKind}
use Rattle.wac_types_base.specs.declared.item.ValueType.{ValueType}
use Rattle.wac_types_base.specs.declared.item.«Type».{«Type» as TypeKind}
use Rattle.wac_types_base.specs.declared.defined.DefinedType.{DefinedType}
use Rattle.wac_types_base.specs.declared.defined.Interface.{Interface}
use Rattle.wac_types_base.specs.declared.defined.ResourceAlias.{ResourceAlias}
use Rattle.wac_types_base.specs.declared.defined.UsedType.{UsedType}
use Rattle.wac_types_base.specs.declared.defined.World.{World}
use Rattle.wac_types_base.specs.declared.ids.InterfaceId.{InterfaceId}
use Rattle.wac_types_base.specs.declared.ids.WorldId.{WorldId}
use Rattle.wac_types_base.specs.Record.{Collection}
use Rattle.wac_types_base.specs.Collection.{Entry, IsAcyclic, Slot, Stands, borrow_of, defined_entry, func_entry, interface_entry, item_node, items, labelled, module_entry, own_of, primitive, resource_entry, resource_entry_at, type_of, use_names, used, value_node, world_entry}
use Rattle.wac_types_base.specs.Entries.{Name, names_of, value_at, with_values}
use Rattle.wac_types_base.specs.Stated.{Stated, exports_of, imports_of, only_places, parts_at, row, stated_entry, stated_of, untyped_shape, with_names}
use Rattle.wac_types_base.proofs.Adding.{guarded-some, option_map-some}
use Rattle.wac_types_base.proofs.GraphLemmas.{value_of}
use Rattle.wac_types_base.proofs.Made.{drop_firsts, exports_are, first_names, only_firsts, row_places}
use Rattle.wac_types_base.proofs.Slots.{entry_at-is}
use Rattle.wac_types_base.proofs.Telling.{stated_step, entry_from, labelled_kind}
use Rattle.wac_types_base.proofs.Stating.{value_with}
use Rattle.wac_parser_declare.specs.InUses.{AreExports, IsExport, stated_interface}

-- ---- interfaces and worlds

module _ (c : Collection) where
  abbrev stated_places : List Slot → List (Option Stated)
  stated_places xs = map (option_map (stated_of c)) xs

  past_uses : (us : List (Name × UsedType)) (xs : List Slot) → drop (length (use_names us)) (stated_places (used us ++ xs)) ≡ stated_places xs
  past_uses [] xs = refl
  past_uses (u ∷ us) xs = past_uses us xs

  past_items : (xs : List (Name × ItemKind)) (ys : List Slot) → drop (length (names_of xs)) (stated_places (items xs ++ ys)) ≡ stated_places ys
  past_items [] ys = refl
  past_items (x ∷ xs) ys = past_items xs ys

  past_imports : (us : List (Name × UsedType)) (xs : List (Name × ItemKind)) (ys : List Slot) → drop (length (use_names us) + length (names_of xs)) (stated_places (used us ++ (items xs ++ ys))) ≡ stated_places ys
  past_imports us xs ys =
      sym (drop-drop (length (names_of xs)) (length (use_names us)) (stated_places (used us ++ (items xs ++ ys))))
      ∙ ap (drop (length (names_of xs))) (past_uses us (items xs ++ ys)) ∙ past_items xs ys

  named_items : (xs : List (Name × ItemKind)) → with_names (names_of xs) (stated_places (items xs)) ≡ with_values (stated_of c) xs
  named_items [] = refl
  named_items (x ∷ xs) = ap (λ ys. (x.0, stated_of c x.1) ∷ ys) (named_items xs)

  interface_exports : (x : Interface) → exports_of (stated_entry c (interface_entry x)) ≡ with_values (stated_of c) x.exports
  interface_exports x =
      let os = stated_places (interface_entry x).1 in
      exports_are x.id (use_names x.uses) (names_of x.exports) (only_places (row os)) (row os) (only_firsts (row os))
      ∙ ap (λ ys. with_names (names_of x.exports) (drop (length (use_names x.uses)) ys)) (row_places os)
      ∙ ap (with_names (names_of x.exports)) (past_uses x.uses (items x.exports)) ∙ named_items x.exports

  named_front : (xs : List (Name × ItemKind)) (ys : List Slot) → with_names (names_of xs) (stated_places (items xs ++ ys)) ≡ with_values (stated_of c) xs
  named_front [] ys = refl
  named_front (x ∷ xs) ys = ap (λ zs. (x.0, stated_of c x.1) ∷ zs) (named_front xs ys)

  world_imports : (x : World) → imports_of (stated_entry c (world_entry x)) ≡ with_values (stated_of c) x.imports
  world_imports x =
      let os = stated_places (world_entry x).1 in
      let n : ℕ = length (use_names x.uses) in
      first_names (names_of x.imports) (drop n (only_places (row os)))
      ∙ ap (with_names (names_of x.imports)) (drop_firsts n (only_places (row os)) ∙ ap (drop n) (only_firsts (row os) ∙ row_places os) ∙ past_uses x.uses (items x.imports ++ items x.exports))
      ∙ named_front x.imports (items x.exports)

  world_exports : (x : World) → exports_of (stated_entry c (world_entry x)) ≡ with_values (stated_of c) x.exports
  world_exports x =
      let os = stated_places (world_entry x).1 in
      let n : ℕ = length (use_names x.uses) + length (names_of x.imports) in
      first_names (names_of x.exports) (drop n (only_places (row os)))
      ∙ ap (with_names (names_of x.exports)) (drop_firsts n (only_places (row os)) ∙ ap (drop n) (only_firsts (row os) ∙ row_places os) ∙ past_imports x.uses x.imports (items x.exports))
      ∙ named_items x.exports

  module _ (a : IsAcyclic c) where
    -- an instance and its type
    pub instance_exports : (i : InterfaceId) (x : Interface) → slice_get c.interfaces i.index ≡ Some x → i.collection ≡ c.number → AreExports c (ItemKind.Instance i) (Some x.exports)
    unfolding item_node
    instance_exports i x at own =
        ap exports_of (stated_step c a (ItemKind.Instance i) (interface_entry x) (entry_at-is interface_entry c.number c.interfaces i.collection i.index x at own)) ∙ interface_exports x

    pub interface_type_exports : (i : InterfaceId) (x : Interface) → slice_get c.interfaces i.index ≡ Some x → i.collection ≡ c.number → AreExports c (ItemKind.Ty (TypeKind.Interface i)) (Some x.exports)
    unfolding item_node
    interface_type_exports i x at own =
        ap exports_of (stated_step c a (ItemKind.Ty (TypeKind.Interface i)) (type_of (interface_entry x).0, (interface_entry x).1)
        (ap (labelled type_of) (entry_at-is interface_entry c.number c.interfaces i.collection i.index x at own)))
        ∙ interface_exports x

    -- a component and its type
    pub component_exports : (i : WorldId) (x : World) → slice_get c.worlds i.index ≡ Some x → i.collection ≡ c.number → AreExports c (ItemKind.Component i) (Some x.exports)
    unfolding item_node
    component_exports i x at own =
        ap exports_of (stated_step c a (ItemKind.Component i) (world_entry x) (entry_at-is world_entry c.number c.worlds i.collection i.index x at own)) ∙ world_exports x

    pub component_imports : (i : WorldId) (x : World) → slice_get c.worlds i.index ≡ Some x → i.collection ≡ c.number → imports_of (stated_of c (ItemKind.Component i)) ≡ with_values (stated_of c) x.imports
    unfolding item_node
    component_imports i x at own =
        ap imports_of (stated_step c a (ItemKind.Component i) (world_entry x) (entry_at-is world_entry c.number c.worlds i.collection i.index x at own)) ∙ world_imports x

    pub world_type_exports : (i : WorldId) (x : World) → slice_get c.worlds i.index ≡ Some x → i.collection ≡ c.number → AreExports c (ItemKind.Ty (TypeKind.World i)) (Some x.exports)
    unfolding item_node
    world_type_exports i x at own =
        ap exports_of (stated_step c a (ItemKind.Ty (TypeKind.World i)) (type_of (world_entry x).0, (world_entry x).1)
        (ap (labelled type_of) (entry_at-is world_entry c.number c.worlds i.collection i.index x at own)))
        ∙ world_exports x

    -- the type of an interface has the exports of its instances
    pub same_exports : (i : InterfaceId) → Stands c (ItemKind.Instance i) → exports_of (stated_of c (ItemKind.Instance i)) ≡ exports_of (stated_interface c i)
    unfolding item_node
    same_exports i stands =
        let e = value_of _ stands in
        let g = guarded-some _ _ e.0 e.1 in
        let m = option_map-some interface_entry (slice_get c.interfaces i.index) e.0 g.1 in
        let is : item_node c (ItemKind.Instance i) ≡ Some (interface_entry m.0) = e.1 ∙ ap Some m.2 in
        ap exports_of (stated_step c a (ItemKind.Instance i) (interface_entry m.0) is)
        ∙ sym (ap exports_of (stated_step c a (ItemKind.Ty (TypeKind.Interface i)) (type_of (interface_entry m.0).0, (interface_entry m.0).1) (ap (labelled type_of) is)))

-- ---- what has no exports

-- a label with no exports, whose type has none either
abbrev IsPlain : Entry → Type 0
IsPlain e = (untyped_shape e.0 ≡ e.0) × ((os : List (Option (Stated × ⊤))) → (parts_at e.0 os).exports ≡ [])

abbrev HasNone : Entry → Type 0
HasNone e = (os : List (Option (Stated × ⊤))) → (parts_at (untyped_shape e.0) os).exports ≡ []

plain_none : (e : Entry) → IsPlain e → HasNone e
plain_none e p os = ap (λ s. (parts_at s os).exports) p.0 ∙ p.1 os

defined_plain : (x : DefinedType) → IsPlain (defined_entry x)
defined_plain (DefinedType.Tuple ts) = (refl, λ os. refl)
defined_plain (DefinedType.List t) = (refl, λ os. refl)
defined_plain (DefinedType.FixedSizeList t n) = (refl, λ os. refl)
defined_plain (DefinedType.Option t) = (refl, λ os. refl)
defined_plain (DefinedType.Result ok err) = (refl, λ os. refl)
defined_plain (DefinedType.Variant v) = (refl, λ os. refl)
defined_plain (DefinedType.Record r) = (refl, λ os. refl)
defined_plain (DefinedType.Flags f) = (refl, λ os. refl)
defined_plain (DefinedType.Enum e) = (refl, λ os. refl)
defined_plain (DefinedType.Alias t) = (refl, λ os. refl)
defined_plain (DefinedType.Stream o) = (refl, λ os. refl)
defined_plain (DefinedType.Future o) = (refl, λ os. refl)

resource_plain : (n : Name) (o : Option ResourceAlias) → IsPlain (resource_entry_at n o)
resource_plain n None = (refl, λ os. refl)
resource_plain n (Some b) = (refl, λ os. refl)

abbrev AnyEntry : Entry → Type 0
AnyEntry e = Unit {0}

value_plain : (c : Collection) (v : ValueType) (e : Entry) → value_node c v ≡ Some e → IsPlain e
value_plain c (ValueType.Primitive p) e is = let same : (primitive p, []) ≡ e = cc is in subst IsPlain same (refl, λ os. refl)
value_plain c (ValueType.Borrow r) e is = labelled_kind borrow_of AnyEntry IsPlain (λ e h. (refl, λ os. refl)) _ (λ e h. tt) e is
value_plain c (ValueType.Own r) e is = labelled_kind own_of AnyEntry IsPlain (λ e h. (refl, λ os. refl)) _ (λ e h. tt) e is
value_plain c (ValueType.Defined d) e is = entry_from defined_entry IsPlain defined_plain c.number c.defined_types d.collection d.index e is

-- neither an interface nor a world, nor the type of one
record NoExports (k : ItemKind) : Type 0 where
  interface : (i : InterfaceId) → k ≡ ItemKind.Ty (TypeKind.Interface i) → ⊥
  instance : (i : InterfaceId) → k ≡ ItemKind.Instance i → ⊥
  world : (i : WorldId) → k ≡ ItemKind.Ty (TypeKind.World i) → ⊥
  component : (i : WorldId) → k ≡ ItemKind.Component i → ⊥

typed_none : (o : Option Entry) → ((e : Entry) → o ≡ Some e → IsPlain e) → (e : Entry) → labelled type_of o ≡ Some e → HasNone e
typed_none o h e is = labelled_kind type_of IsPlain HasNone (λ e p os. p.1 os) o h e is

entry_none : (c : Collection) (k : ItemKind) → NoExports k → (e : Entry) → item_node c k ≡ Some e → HasNone e
unfolding item_node
entry_none c (ItemKind.Ty (TypeKind.Resource r)) n e is = plain_none e (entry_from resource_entry IsPlain (λ x. resource_plain x.name x.alias) c.number c.resources r.collection r.index e is)
entry_none c (ItemKind.Ty (TypeKind.Func f)) n e is = typed_none _ (λ e is. entry_from func_entry IsPlain (λ x. (refl, λ os. refl)) c.number c.func_types f.collection f.index e is) e is
entry_none c (ItemKind.Ty (TypeKind.Value v)) n e is = typed_none _ (value_plain c v) e is
entry_none c (ItemKind.Ty (TypeKind.Interface i)) n e is = absurd (n.interface i refl)
entry_none c (ItemKind.Ty (TypeKind.World i)) n e is = absurd (n.world i refl)
entry_none c (ItemKind.Ty (TypeKind.Module m)) n e is = typed_none _ (λ e is. entry_from module_entry IsPlain (λ x. (refl, λ os. refl)) c.number c.modules m.collection m.index e is) e is
entry_none c (ItemKind.Func f) n e is = plain_none e (entry_from func_entry IsPlain (λ x. (refl, λ os. refl)) c.number c.func_types f.collection f.index e is)
entry_none c (ItemKind.Instance i) n e is = absurd (n.instance i refl)
entry_none c (ItemKind.Component i) n e is = absurd (n.component i refl)
entry_none c (ItemKind.Module m) n e is = plain_none e (entry_from module_entry IsPlain (λ x. (refl, λ os. refl)) c.number c.modules m.collection m.index e is)
entry_none c (ItemKind.Value v) n e is = plain_none e (value_plain c v e is)

module _ (c : Collection) (a : IsAcyclic c) where
  none_stated : (k : ItemKind) → Stands c k → NoExports k → AreExports c k None
  none_stated k stands n =
      let e = value_of _ stands in
      ap exports_of (stated_step c a k e.0 e.1)
      ∙ ap (map (λ x. (x.0, x.1.0))) (entry_none c k n e.0 e.1 (only_places (row (map (option_map (stated_of c)) e.0.1))))

  pub no_type_exports : (ty : TypeKind) → Stands c (ItemKind.Ty ty) → ((i : InterfaceId) → ty ≡ TypeKind.Interface i → ⊥) → ((i : WorldId) → ty ≡ TypeKind.World i → ⊥) → AreExports c (ItemKind.Ty ty) None
  no_type_exports ty stands h g =
      none_stated (ItemKind.Ty ty) stands
      (record { interface = λ i e. h i (cc e); instance = λ i e. absurd (cc e); world = λ i e. g i (cc e); component = λ i e. absurd (cc e) })

  pub no_exports : (k : ItemKind) → Stands c k → ((ty : TypeKind) → k ≡ ItemKind.Ty ty → ⊥) → ((i : InterfaceId) → k ≡ ItemKind.Instance i → ⊥) → ((i : WorldId) → k ≡ ItemKind.Component i → ⊥) → AreExports c k None
  no_exports k stands h f g =
      none_stated k stands (record { interface = λ i e. h (TypeKind.Interface i) e; instance = f; world = λ i e. h (TypeKind.World i) e; component = g })

-- ---- one export

pub export_in : (c : Collection) (k : ItemKind) (n : Name) (found : Option (List (Name × ItemKind))) (o : Option ItemKind) → AreExports c k found → value_at (unwrap_or found []) n ≡ o → IsExport c k n o
export_in c k n found o are is =
    sym (ap (λ es. value_at es n) are ∙ value_with (stated_of c) (unwrap_or found []) n ∙ ap (option_map (stated_of c)) is)
