-- Component types that cannot be written, by their uses and items.
use Rattle.std.proofs.Common.{◌≡◌, ◌⊎◌, ◌++◌, Bool, true, false, true≢false, List, [], ◌∷◌, map, filter, Option, Some, None, IsSome, is_some, inl, inr, refl, sym, ap, ◌∙◌, subst, slice_get, if◌then◌else◌}
use Rattle.std.specs.Bool.{Decides}
use Rattle.std.proofs.lemmas.Bool.Decides.{Decides-or, Decides-like}
use Rattle.std.proofs.lemmas.Option.{none-some, same_Some}
use Rattle.wac_types_base.specs.declared.ids.InterfaceId.{InterfaceId}
use Rattle.wac_types_base.specs.declared.ids.WorldId.{WorldId}
use Rattle.wac_types_base.specs.declared.item.ItemKind.{ItemKind}
use Rattle.wac_types_base.specs.declared.item.«Type».{«Type» as TypeKind}
use Rattle.wac_types_base.specs.declared.defined.World.{World}
use Rattle.wac_types_base.specs.Entries.{Name, with_values}
use Rattle.wac_types_base.specs.Record.{Collection}
use Rattle.wac_types_base.specs.Graph.{Among}
use Rattle.wac_types_base.specs.Collection.{Stands, IsAcyclic, item_node, labelled, world_entry, type_of}
use Rattle.wac_types_base.specs.Stated.{Stated, Used, stated_of, kind_of, IsComponent, IsWorld, IsInterface, uses_of, imports_of, exports_of, identifier_of}
use Rattle.wac_types_base.proofs.Slots.{entry_at-is}
use Rattle.wac_types_base.proofs.Standing.{world_found}
use Rattle.wac_types_base.proofs.Telling.{item_kind, stated_step, typed_node, kind_stated}
use Rattle.wac_types_base.proofs.GraphLemmas.{value_of, is_there}
use Rattle.wac_types_base.proofs.Lists.{among_mapped}
use Rattle.wac_composition.specs.Writable.{is_fresh, root_of, holder, with_roots, some_unnamed, unwritable, in_component, as_defined}
use Rattle.wac_composition.specs.Writable.{Holder as Held}
use Rattle.wac_composition.specs.NotWritten.{IsGiven, Needs, IsImported, component_holder, CannotBeWritten, a_component, a_world, ComponentFails, unnamed_use, not_imported, not_added, an_import, an_export}
use Rattle.wac_composition.proofs.NotWritten.{any_decides}
use Rattle.wac_composition.proofs.NotFound.{written_decides}
use Rattle.wac_composition.proofs.Lists.{mapped_among}
use Rattle.wac_types_base.specs.Parts.{identifier_in}
use Rattle.wac_types_parts.specs.Parts.{IsOfWorld, interface_in, imports_of as imports_in, world_exports_of as world_exports_in}
use Rattle.wac_writable.specs.declared.writable.Which.{Which}
use Rattle.wac_writable.specs.Items.{item_unwritable}
use Rattle.wac_writable.specs.Tests.{interface_unwritable, some_ungiven, some_unwritable, items_unwritable, wrapped, wrapped_in}
use Rattle.wac_writable.specs.Uses.{AddedFails, UseFails, NeededBy, SomeUse, SomeItem as SomeItemNeeds}
use Rattle.wac_writable.specs.Givers.{WorldNeeds}
use Rattle.wac_writable.proofs.ItemLaws.{both_decide}
use Rattle.wac_writable.proofs.ReasonLaws.{reason_of}
use Rattle.wac_types_parts.proofs.PartsStated.{imports_are, world_exports_are, identifier_is}
use Rattle.wac_writable.proofs.InterfaceLaws.{items_decide, interface_item, type_stands, same_identifier, untyped_interface}
use Rattle.wac_writable.proofs.UseLaws.{needed_split, item_needed}

-- ---- why a component type cannot be written

module _ (o : Bool) (h : Held) (n : Name) where
  pub component_test : (x : Stated) (b : Bool) → kind_of x ≡ IsComponent → Decides b (ComponentFails o x) → b ≡ unwritable x n h o
  component_test x b k d = both_decide b (unwritable x n h o) (Decides-like b (λ f. a_component k f) (reason_of o h n x IsComponent k) d) (written_decides o h n x)

  world_test : (x : Stated) (b : Bool) → kind_of x ≡ IsWorld → Decides b (ComponentFails o x) → b ≡ unwritable x n h o
  world_test x b k d = both_decide b (unwritable x n h o) (Decides-like b (λ f. a_world k f) (reason_of o h n x IsWorld k) d) (written_decides o h n x)

-- what fails by its parts fails with the same parts
fails_with : (o : Bool) (v w : Stated) → uses_of v ≡ uses_of w → imports_of v ≡ imports_of w → exports_of v ≡ exports_of w → ComponentFails o v → ComponentFails o w
fails_with o v w eu ei ex f = by f
  where
    held : component_holder v ≡ component_holder w
    held = λ i. with_roots (holder (eu i) (ei i)) (map root_of (filter is_fresh (ex i)))

    moved : (u : Used) → Needs (uses_of v) (imports_of v ++ exports_of v) u → Needs (uses_of w) (imports_of w ++ exports_of w) u
    moved u d = subst (λ us. Needs us (imports_of w ++ exports_of w) u) eu (subst (λ is. Needs (uses_of v) (is ++ exports_of w) u) ei (subst (λ es. Needs (uses_of v) (imports_of v ++ es) u) ex d))

    by : ComponentFails o v → ComponentFails o w
    by (unnamed_use q) = unnamed_use (ap some_unnamed (sym eu) ∙ q)
    by (not_imported {u = u} n d k g q) = not_imported n (moved u d) k (λ i. g (subst (λ is. IsImported is n u) (sym ei) i)) q
    by (not_added {u = u} n d k g j t) = not_added n (moved u d) k (λ i. g (subst (λ is. IsImported is n u) (sym ei) i)) j t
    by (an_import {n = n} {x = x} m g c) = an_import (subst (Among (n, x)) ei m) (λ k. g (subst (λ h. IsGiven h n x) (sym held) k)) (subst (λ h. CannotBeWritten o h n x) held c)
    by (an_export {n = n} {x = x} m c) = an_export (subst (Among (n, x)) ex m) (subst (λ h. CannotBeWritten o h n x) held c)

-- ---- a component type by its parts

module _ (o : Bool) (x : Stated) where
  -- an import that no use gives, or an export
  abbrev pub SomeExport : Held → List (Name × Stated) → Type 0
  SomeExport h es = (n : Name) × (y : Stated) × Among (n, y) es × CannotBeWritten o h n y

  abbrev pub SomeImport : Held → List (Name × Stated) → Type 0
  SomeImport h es = (n : Name) × (y : Stated) × Among (n, y) es × (IsGiven h n y → ⊥) × CannotBeWritten o h n y

  pub needed_fails : WorldNeeds o (imports_of x) x → ComponentFails o x
  needed_fails s = by s.fails s.fails.added
    where
      by : UseFails o (imports_of x) s.one → AddedFails o s.one.interface → ComponentFails o x
      by f (inl e) = not_imported f.name s.needed f.named f.missing e
      by f (inr t) = not_added f.name s.needed f.named f.missing t.0 t.1

  import_fails : SomeImport (component_holder x) (imports_of x) → ComponentFails o x
  import_fails (n, y, m, g, f) = an_import m g f

  export_fails : SomeExport (component_holder x) (exports_of x) → ComponentFails o x
  export_fails (n, y, m, f) = an_export m f

  -- where no interface lacks an identifier and no use fails, the items decide
  pub items_left : (b : Bool) → some_unnamed (uses_of x) ≡ false → (WorldNeeds o (imports_of x) x → ⊥)
      → Decides b (SomeImport (component_holder x) (imports_of x) ⊎ SomeExport (component_holder x) (exports_of x)) → Decides b (ComponentFails o x)
  items_left b e none d = Decides-like b to back d
    where
      to : SomeImport (component_holder x) (imports_of x) ⊎ SomeExport (component_holder x) (exports_of x) → ComponentFails o x
      to (inl f) = import_fails f
      to (inr f) = export_fails f

      back : ComponentFails o x → SomeImport (component_holder x) (imports_of x) ⊎ SomeExport (component_holder x) (exports_of x)
      back (unnamed_use q) = absurd (true≢false (sym q ∙ e))
      back (not_imported {u = u} n w k f q) = absurd (none (record { one = u; needed = w; fails = record { name = n; named = k; missing = f; added = inl q } }))
      back (not_added {u = u} n w k f i q) = absurd (none (record { one = u; needed = w; fails = record { name = n; named = k; missing = f; added = inr (i, q) } }))
      back (an_import {n = n} {x = y} m g f) = inl (n, y, m, g, f)
      back (an_export {n = n} {x = y} m f) = inr (n, y, m, f)

module _ (c : Collection) (a : IsAcyclic c) (o : Bool) (w : WorldId) where
  abbrev x : Stated
  x = stated_of c (ItemKind.Component w)

  exports_decide : (h : Held) (es : List (Name × ItemKind)) → Decides (some_unwritable c o h es) (SomeExport o x h (with_values (stated_of c) es))
  exports_decide h es =
      Decides-like (some_unwritable c o h es) (λ p. (p.0.0, stated_of c p.0.1, among_mapped (λ (e : Name × ItemKind). (e.0, stated_of c e.1)) es p.0 p.1, p.2)) back
      (any_decides (λ e. item_unwritable c o e.0 e.1 h) (λ e. CannotBeWritten o h e.0 (stated_of c e.1)) es (λ e m. written_decides o h e.0 (stated_of c e.1)))
    where
      back : SomeExport o x h (with_values (stated_of c) es) → (e : Name × ItemKind) × Among e es × CannotBeWritten o h e.0 (stated_of c e.1)
      back (n, y, m, f) =
          let p = mapped_among (λ (e : Name × ItemKind). (e.0, stated_of c e.1)) es (n, y) m in
          (p.0, p.1, subst (λ (y : Name × Stated). CannotBeWritten o h y.0 y.1) p.2 f)

  pub world_items_decide : Decides (items_unwritable c o w (component_holder x)) (SomeImport o x (component_holder x) (imports_of x) ⊎ SomeExport o x (component_holder x) (exports_of x))
  world_items_decide =
      let h = component_holder x in
      Decides-or (some_ungiven c o h (imports_in c w)) (some_unwritable c o h (world_exports_in c w))
      (subst (λ l. Decides (some_ungiven c o h (imports_in c w)) (SomeImport o x h l)) (sym (imports_are c a w)) (items_decide c a o h (imports_in c w)))
      (subst (λ l. Decides (some_unwritable c o h (world_exports_in c w)) (SomeExport o x h l)) (sym (world_exports_are c a w)) (exports_decide h (world_exports_in c w)))

  -- ---- a world as a type

  world_node : (v : World) → slice_get c.worlds w.index ≡ Some v → w.collection ≡ c.number → item_node c (ItemKind.Component w) ≡ Some (world_entry v)
  unfolding item_node
  world_node v at own = entry_at-is world_entry c.number c.worlds w.collection w.index v at own

  world_type_node : (v : World) → item_node c (ItemKind.Component w) ≡ Some (world_entry v) → item_node c (ItemKind.Ty (TypeKind.World w)) ≡ Some (type_of (world_entry v).0, (world_entry v).1)
  unfolding item_node
  world_type_node v e = ap (labelled type_of) e

  world_stands : Stands c (ItemKind.Ty (TypeKind.World w)) → Stands c (ItemKind.Component w)
  unfolding item_node
  world_stands s = let t = typed_node c (ItemKind.Ty (TypeKind.World w)) (ItemKind.Component w) refl s in is_there _ t.0 t.1

  abbrev y : Stated
  y = stated_of c (ItemKind.Ty (TypeKind.World w))

  -- it has the parts of the component
  type_decides : (b : Bool) → Stands c (ItemKind.Ty (TypeKind.World w)) → Decides b (ComponentFails o x) → Decides b (ComponentFails o y)
  type_decides b s d =
      let f = world_found c w (world_stands s) in
      let e = world_node f.value f.at f.own in
      let p = stated_step c a (ItemKind.Component w) (world_entry f.value) e in
      let q = stated_step c a (ItemKind.Ty (TypeKind.World w)) (type_of (world_entry f.value).0, (world_entry f.value).1) (world_type_node f.value e) in
      let u : uses_of x ≡ uses_of y = ap uses_of p ∙ sym (ap uses_of q) in
      let i : imports_of x ≡ imports_of y = ap imports_of p ∙ sym (ap imports_of q) in
      let z : exports_of x ≡ exports_of y = ap exports_of p ∙ sym (ap exports_of q) in
      Decides-like b (fails_with o x y u i z) (fails_with o y x (sym u) (sym i) (sym z)) d

-- the test of an item is that of its world
pub world_item : (c : Collection) → IsAcyclic c → (o : Bool) (k : ItemKind) (w : WorldId) (n : Name) (h : Held) (b : Bool) → IsOfWorld k w → Stands c k → Decides b (ComponentFails o (stated_of c (ItemKind.Component w))) → b ≡ item_unwritable c o n k h
world_item c a o (ItemKind.Component v) w n h b e s d =
    component_test o h n (stated_of c (ItemKind.Component v)) b (kind_stated c a (ItemKind.Component v) s) (subst (λ v. Decides b (ComponentFails o (stated_of c (ItemKind.Component v)))) (sym e) d)
world_item c a o (ItemKind.Ty (TypeKind.World v)) w n h b e s d =
    world_test o h n (stated_of c (ItemKind.Ty (TypeKind.World v))) b (kind_stated c a (ItemKind.Ty (TypeKind.World v)) s)
    (type_decides c a o v b s (subst (λ v. Decides b (ComponentFails o (stated_of c (ItemKind.Component v)))) (sym e) d))
world_item c a o (ItemKind.Ty (TypeKind.Resource r)) w n h b e s d = absurd e
world_item c a o (ItemKind.Ty (TypeKind.Func f)) w n h b e s d = absurd e
world_item c a o (ItemKind.Ty (TypeKind.Value v)) w n h b e s d = absurd e
world_item c a o (ItemKind.Ty (TypeKind.Interface i)) w n h b e s d = absurd e
world_item c a o (ItemKind.Ty (TypeKind.Module m)) w n h b e s d = absurd e
world_item c a o (ItemKind.Func f) w n h b e s d = absurd e
world_item c a o (ItemKind.Instance i) w n h b e s d = absurd e
world_item c a o (ItemKind.Module m) w n h b e s d = absurd e
world_item c a o (ItemKind.Value v) w n h b e s d = absurd e

-- ---- an interface inside a component type of its own

module _ (c : Collection) (a : IsAcyclic c) (o : Bool) (id : InterfaceId) (n : Name) where
  abbrev inside : Stated
  inside = stated_of c (ItemKind.Instance id)

  abbrev alone : Stated
  alone = wrapped n inside

  pub wrapped_needs : NeededBy o [] inside → ComponentFails o alone
  wrapped_needs f = needed_fails o alone (item_needed o [] [] ((n, inside) ∷ []) (n, inside, inl refl, f))

  need_inside : SomeUse o [] [] ⊎ SomeItemNeeds o [] ((n, inside) ∷ []) → NeededBy o [] inside
  need_inside (inl (u, m, f)) = absurd m
  need_inside (inr (l, z, inl e, k)) = subst (NeededBy o []) (ap (λ (p : Name × Stated). p.1) e) k
  need_inside (inr (l, z, inr m, k)) = absurd m

  pub wrapped_items : (b : Bool) → Stands c (ItemKind.Instance id) → (NeededBy o [] inside → ⊥) → b ≡ interface_unwritable c o Which.All id → Decides b (ComponentFails o alone)
  wrapped_items b s none e =
      let h = component_holder alone in
      let d : Decides b (CannotBeWritten o h n inside) = subst (λ b. Decides b (CannotBeWritten o h n inside)) (sym (e ∙ interface_item c a o (ItemKind.Instance id) id n h refl s)) (written_decides o h n inside) in
      items_left o alone b refl (λ w. none (need_inside (needed_split o [] [] ((n, inside) ∷ []) w))) (Decides-like b (λ f. inr (n, inside, inl refl, f)) back d)
    where
      back : SomeImport o alone (component_holder alone) [] ⊎ SomeExport o alone (component_holder alone) ((n, inside) ∷ []) → CannotBeWritten o (component_holder alone) n inside
      back (inl (l, z, m, g, f)) = absurd m
      back (inr (l, z, inl e, f)) = subst (λ (p : Name × Stated). CannotBeWritten o (component_holder alone) p.0 p.1) e f
      back (inr (l, z, inr m, f)) = absurd m

-- ---- definitions

pub wrapped_interface_is : (c : Collection) (k : ItemKind) (id : InterfaceId) → Some id ≡ wrapped_in c k → (k ≡ ItemKind.Ty (TypeKind.Interface id)) × IsSome (identifier_in (interface_in c id))
wrapped_interface_is c (ItemKind.Ty (TypeKind.Interface i)) id e = by (is_some (identifier_in (interface_in c i))) refl e
  where
    by : (b : Bool) → is_some (identifier_in (interface_in c i)) ≡ b → Some id ≡ (if b then Some i else None) → (ItemKind.Ty (TypeKind.Interface i) ≡ ItemKind.Ty (TypeKind.Interface id)) × IsSome (identifier_in (interface_in c id))
    by true t q = let s : i ≡ id = sym (same_Some _ _ q) in (ap (λ i. ItemKind.Ty (TypeKind.Interface i)) s, ap (λ i. is_some (identifier_in (interface_in c i))) (sym s) ∙ t)
    by false t q = absurd (none-some _ (sym q))
wrapped_interface_is c (ItemKind.Ty (TypeKind.Resource r)) id e = absurd (none-some _ (sym e))
wrapped_interface_is c (ItemKind.Ty (TypeKind.Func f)) id e = absurd (none-some _ (sym e))
wrapped_interface_is c (ItemKind.Ty (TypeKind.Value v)) id e = absurd (none-some _ (sym e))
wrapped_interface_is c (ItemKind.Ty (TypeKind.World w)) id e = absurd (none-some _ (sym e))
wrapped_interface_is c (ItemKind.Ty (TypeKind.Module m)) id e = absurd (none-some _ (sym e))
wrapped_interface_is c (ItemKind.Func f) id e = absurd (none-some _ (sym e))
wrapped_interface_is c (ItemKind.Instance i) id e = absurd (none-some _ (sym e))
wrapped_interface_is c (ItemKind.Component w) id e = absurd (none-some _ (sym e))
wrapped_interface_is c (ItemKind.Module m) id e = absurd (none-some _ (sym e))
wrapped_interface_is c (ItemKind.Value v) id e = absurd (none-some _ (sym e))

module _ (c : Collection) (a : IsAcyclic c) where
  -- an interface without identifier, and whatever is none, is defined as it is
  defined_kind : (k : ItemKind) (x : Stated) → Stands c k → None ≡ wrapped_in c k → ((i : InterfaceId) → k ≡ ItemKind.Ty (TypeKind.Interface i) → identifier_of x ≡ identifier_in (interface_in c i)) → in_component (item_kind k) (identifier_of x) x ≡ x
  defined_kind (ItemKind.Ty (TypeKind.Interface i)) x s e f = by (identifier_in (interface_in c i)) (f i refl) e
    where
      by : (o : Option Name) → identifier_of x ≡ o → None ≡ (if is_some o then Some i else None) → in_component IsInterface (identifier_of x) x ≡ x
      by None q r = ap (λ o. in_component IsInterface o x) q
      by (Some n) q r = absurd (none-some _ r)
  defined_kind (ItemKind.Ty (TypeKind.Resource r)) x s e f = refl
  defined_kind (ItemKind.Ty (TypeKind.Func j)) x s e f = refl
  defined_kind (ItemKind.Ty (TypeKind.Value v)) x s e f = refl
  defined_kind (ItemKind.Ty (TypeKind.World w)) x s e f = refl
  defined_kind (ItemKind.Ty (TypeKind.Module m)) x s e f = refl
  defined_kind (ItemKind.Func j) x s e f = refl
  defined_kind (ItemKind.Instance i) x s e f = refl
  defined_kind (ItemKind.Component w) x s e f = refl
  defined_kind (ItemKind.Module m) x s e f = refl
  defined_kind (ItemKind.Value v) x s e f = refl

  typed_identifier : (i : InterfaceId) → Stands c (ItemKind.Ty (TypeKind.Interface i)) → identifier_of (stated_of c (ItemKind.Ty (TypeKind.Interface i))) ≡ identifier_in (interface_in c i)
  typed_identifier i s = sym (same_identifier c a true i s) ∙ identifier_is c a i

  pub defined_as_it_is : (k : ItemKind) → Stands c k → None ≡ wrapped_in c k → as_defined (stated_of c k) ≡ stated_of c k
  defined_as_it_is k s e =
      ap (λ j. in_component j (identifier_of (stated_of c k)) (stated_of c k)) (kind_stated c a k s)
      ∙ defined_kind k (stated_of c k) s e (λ i q. ap (λ k. identifier_of (stated_of c k)) q ∙ typed_identifier i (subst (Stands c) q s))

  -- one with an identifier is defined inside a component type
  pub defined_inside : (k : ItemKind) (id : InterfaceId) → Stands c k → Some id ≡ wrapped_in c k → Stands c (ItemKind.Instance id) × ((n : Name) × (as_defined (stated_of c k) ≡ wrapped n (stated_of c (ItemKind.Instance id))))
  defined_inside k id s e =
      let w = wrapped_interface_is c k id e in
      let t = subst (Stands c) w.0 s in
      let m = value_of (identifier_in (interface_in c id)) w.1 in
      let y = stated_of c (ItemKind.Ty (TypeKind.Interface id)) in (
        type_stands c a true id t,
        (
          m.0,
          ap (λ k. as_defined (stated_of c k)) w.0 ∙ ap (λ j. in_component j (identifier_of y) y) (kind_stated c a (ItemKind.Ty (TypeKind.Interface id)) t)
              ∙ ap (λ o. in_component IsInterface o y) (typed_identifier id t ∙ m.1)
              ∙ ap (λ x. wrapped m.0 x) (untyped_interface c a id t),
        ),
      )
