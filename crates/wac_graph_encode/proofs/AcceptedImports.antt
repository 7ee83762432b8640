-- What the imports of a component type give against which no cause stands.
use Rattle.std.proofs.Common.{◌≡◌, ◌+◌, ℕ, Bool, true, false, true≢false, List, ◌++◌, map, Option, Some, None, refl, sym, ap, ◌∙◌, subst, unwrap_or, arith}
use Rattle.std.specs.Prelude.{option_map, if◌then◌else◌}
use Rattle.std.proofs.lemmas.Option.{none-some}
use Rattle.wac_types_base.specs.declared.ids.InterfaceId.{InterfaceId}
use Rattle.wac_types_base.specs.declared.item.«Type».{«Type» as TypeKind}
use Rattle.wac_types_base.specs.declared.item.ItemKind.{ItemKind}
use Rattle.wac_types_base.specs.declared.defined.UsedType.{UsedType}
use Rattle.wac_types_base.specs.Record.{Collection}
use Rattle.wac_types_base.specs.Entries.{Name, AreDistinct, names_of, value_at}
use Rattle.wac_types_base.specs.Graph.{Among}
use Rattle.wac_types_base.specs.Collection.{Stands, IsAcyclic}
use Rattle.wac_types_base.specs.Stated.{Stated, Used, kind_of, stated_of, stated_use, uses_of, imports_of, exports_of}
use Rattle.wac_types_base.specs.Tree.{tree}
use Rattle.wac_types_base.proofs.Adding.{Among-left, option_map-some}
use Rattle.wac_types_base.proofs.Lists.{among_mapped}
use Rattle.wac_types_base.proofs.Stating.{value_with}
use Rattle.wac_types_base.proofs.Telling.{item_kind, kind_stated}
use Rattle.wac_types_base.proofs.Walking.{slice_get-Among}
use Rattle.wac_types_fit.proofs.Items.{value_at-among}
use Rattle.wac_types_parts.specs.Parts.{IsOfInterface}
use Rattle.wac_types_parts.specs.Parts.{exports_of as exports_in, uses_of as uses_in}
use Rattle.wac_types_parts.proofs.PartsStated.{exports_are, identifier_is, imports_are}
use Rattle.wac_types_written.specs.Forms.{ItemsStand}
use Rattle.wac_composition.specs.Classes.{is_instance_kind}
use Rattle.wac_composition.specs.Writable.{has_items, item_in, given_in, stands_as}
use Rattle.wac_composition.specs.NotWritten.{Needs, a_use, under_item, IsImported, not_imported}
use Rattle.wac_writable.proofs.HolderLaws.{used_from}
use Rattle.wac_writable.proofs.InterfaceLaws.{has_parts}
use Rattle.wac_writable.proofs.TypesLaws.{exports_stand}
use Rattle.wac_writable.proofs.UseLaws.{imported_decides, nothing_imported}
use Rattle.wac_graph_scopes.specs.declared.imports.Importing.{Importing}
use Rattle.wac_graph_scopes.specs.Imports.{all_imports, GivesAt}
use Rattle.wac_graph_scopes.specs.Prepared.{IsWithin, itself, exported, taken_by}
use Rattle.wac_graph_encode.specs.PlainOrders.{FindsSpelled}
use Rattle.wac_graph_encode.specs.RefusedImports.{Accepted_imports_give}
use Rattle.wac_graph_encode.proofs.ImportPlaces.{place_here}
use Rattle.wac_graph_encode.proofs.RefusedImports.{within_stands}
use Rattle.wac_graph_encode.proofs.RefusedInstances.{uses_are_mapped}
use Rattle.wac_graph_encode.proofs.SmallerInterfaces.{interface_stands}
use Rattle.wac_graph_encode.proofs.StockLaws.{tree_is}

-- an item that is an instance, by its kind
pub instance_item : (k : ItemKind) → is_instance_kind (item_kind k) ≡ true → (l : InterfaceId) × (k ≡ ItemKind.Instance l)
instance_item (ItemKind.Instance l) e = (l, refl)
instance_item (ItemKind.Ty (TypeKind.Resource r)) e = absurd (true≢false (sym e))
instance_item (ItemKind.Ty (TypeKind.Func r)) e = absurd (true≢false (sym e))
instance_item (ItemKind.Ty (TypeKind.Value r)) e = absurd (true≢false (sym e))
instance_item (ItemKind.Ty (TypeKind.Interface r)) e = absurd (true≢false (sym e))
instance_item (ItemKind.Ty (TypeKind.World r)) e = absurd (true≢false (sym e))
instance_item (ItemKind.Ty (TypeKind.Module r)) e = absurd (true≢false (sym e))
instance_item (ItemKind.Func r) e = absurd (true≢false (sym e))
instance_item (ItemKind.Component r) e = absurd (true≢false (sym e))
instance_item (ItemKind.Module r) e = absurd (true≢false (sym e))
instance_item (ItemKind.Value r) e = absurd (true≢false (sym e))

-- a value under a name, before it was stated
module _ (c : Collection) (a : IsAcyclic c) where
  -- ---- what is needed

  interface_has_items : (k : ItemKind) (j : InterfaceId) → IsOfInterface k j → Stands c k → has_items (kind_of (stated_of c k)) ≡ true
  interface_has_items k j is st = (has_parts c a k j is st).kind

  item_needs : (k : ItemKind) (j : InterfaceId) → IsOfInterface k j → Stands c k → (u : Used) → Needs (uses_of (stated_of c (ItemKind.Instance j))) (exports_of (stated_of c (ItemKind.Instance j))) u → Needs (uses_of (stated_of c k)) (exports_of (stated_of c k)) u
  item_needs k j is st u d =
      let p = has_parts c a k j is st in
      subst (λ us. Needs us (exports_of (stated_of c k)) u) (sym p.uses) (subst (λ es. Needs (uses_of (stated_of c (ItemKind.Instance j))) es u) (sym p.exports) d)

  -- an interface needs what one within it needs
  needed_within : (id : InterfaceId) → Stands c (ItemKind.Instance id) → (i : InterfaceId) → IsWithin c id i → (u : Used) → Needs (uses_of (stated_of c (ItemKind.Instance i))) (exports_of (stated_of c (ItemKind.Instance i))) u
      → Needs (uses_of (stated_of c (ItemKind.Instance id))) (exports_of (stated_of c (ItemKind.Instance id))) u
  needed_within id st _ itself u d = d
  needed_within id st j (exported {i = i} n k w m is) u d =
      let inside = within_stands c a id st i w in
      let item = exports_stand c a i inside (n, k) m in
      needed_within id st i w u (
      under_item n (stated_of c k) (subst (Among (n, stated_of c k)) (sym (exports_are c a i)) (among_mapped (λ (e : Name × ItemKind). (e.0, stated_of c e.1)) (exports_in c i) (n, k) m)) (interface_has_items k j is item)
      (item_needs k j is item u d)
      )

  -- an item of an interface that is stated
  stated_item : (l : InterfaceId) (u : Name × UsedType) → item_in (stated_of c (ItemKind.Instance l)) (stated_use c u) ≡ option_map (stated_of c) (value_at (exports_in c l) (unwrap_or u.1.name u.0))
  stated_item l u = ap (λ es. value_at es (unwrap_or u.1.name u.0)) (exports_are c a l) ∙ value_with (stated_of c) (exports_in c l) (unwrap_or u.1.name u.0)

-- ---- what the imports give

module _ (a : Importing) (acyclic : IsAcyclic a.types.now) (distinct : AreDistinct (names_of (all_imports a))) (stand : ItemsStand a.types.now (all_imports a)) (found : List (Name × ℕ))
    (finds : FindsSpelled (all_imports a) (λ n. n) found) where
  abbrev c : Collection
  c = a.types.now

  abbrev is : List (Name × ItemKind)
  is = all_imports a

  abbrev whole : Stated
  whole = stated_of c (ItemKind.Component a.world)

  abbrev Gives : Name → Name × UsedType → ItemKind → Type 0
  Gives i u item = (m : ℕ) × (value_at found i ≡ Some m) × GivesAt c is m (unwrap_or u.1.name u.0) item

  are : imports_of whole ≡ map (λ (e : Name × ItemKind). (e.0, stated_of c e.1)) is
  are = imports_are c acyclic a.world

  module _ (i : Name) (u : Name × UsedType) (item : ItemKind) (taken : taken_by c u ≡ Some item) where
    -- an instance that is found and has the item gives it
    given_by : (l : InterfaceId) → value_at is i ≡ Some (ItemKind.Instance l) → (y : Stated) → item_in (stated_of c (ItemKind.Instance l)) (stated_use c u) ≡ Some y → tree (stated_of c item) ≡ tree y → Gives i u item
    given_by l e y has same =
        let p = slice_get-Among is (i, ItemKind.Instance l) (value_at-among is i (ItemKind.Instance l) e) in
        let zero : 0 + p.0 ≡ p.0 = omega arith in
        let x = option_map-some (stated_of c) (value_at (exports_in c l) (unwrap_or u.1.name u.0)) y (sym (stated_item c acyclic l u) ∙ has) in (
          p.0,
          finds i ∙ place_here is 0 p.0 i (ItemKind.Instance l) distinct p.2 ∙ ap Some zero,
          record { interface = l; import_is = (i, p.2); export_is = (x.0, x.1, sym (tree_is c acyclic item) ∙ same ∙ ap tree x.2 ∙ tree_is c acyclic x.0) },
        )

    by_kind : (k : ItemKind) → value_at is i ≡ Some k → (x : Stated) → x ≡ stated_of c k → (b : Bool) → is_instance_kind (kind_of x) ≡ b → (y : Stated) → (if b then item_in x (stated_use c u) else None) ≡ Some y → tree (stated_of c item) ≡ tree y → Gives i u item
    by_kind k e x is_x false kind y has same = absurd (none-some _ has)
    by_kind k e x is_x true kind y has same =
        let st = stand (i, k) (value_at-among is i k e) in
        let l = instance_item k (ap is_instance_kind (sym (kind_stated c acyclic k st)) ∙ ap (λ z. is_instance_kind (kind_of z)) (sym is_x) ∙ kind) in
        given_by l.0 (e ∙ ap Some l.1) y (ap (λ z. item_in z (stated_use c u)) (ap (stated_of c) (sym l.1) ∙ sym is_x) ∙ has) same

    from_imported : IsImported (imports_of whole) i (stated_use c u) → Gives i u item
    from_imported h =
        let there = option_map-some (stated_of c) (value_at is i) h.interface (sym (value_with (stated_of c) is i) ∙ ap (λ l. value_at l i) (sym are) ∙ h.there) in
        let has = h.item (stated_of c item) (stated_item c acyclic u.1.interface u ∙ ap (option_map (stated_of c)) (used_from (value_at (exports_in c u.1.interface) (unwrap_or u.1.name u.0)) item taken)) in
        by_kind there.0 there.1 h.interface there.2 (is_instance_kind (kind_of h.interface)) refl has.0 has.1 has.2

    -- that no import gives it is refused, so one does
    not_missing : ((IsImported (imports_of whole) i (stated_use c u) → ⊥) → ⊥) → Gives i u item
    not_missing refuse = by (value_at (imports_of whole) i) refl
      where
        decided : (y : Stated) → value_at (imports_of whole) i ≡ Some y → (b : Bool) → stands_as (item_in (stated_of c (ItemKind.Instance u.1.interface)) (stated_use c u)) (given_in y (stated_use c u)) ≡ b → Gives i u item
        decided y e true t = from_imported ((imported_decides (imports_of whole) i (stated_use c u) y e).0 t)
        decided y e false t = absurd (refuse (λ g. true≢false (sym ((imported_decides (imports_of whole) i (stated_use c u) y e).1 g) ∙ t)))

        by : (o : Option Stated) → value_at (imports_of whole) i ≡ o → Gives i u item
        by None e = absurd (refuse (nothing_imported (imports_of whole) i (stated_use c u) e))
        by (Some y) e = decided y e (stands_as (item_in (stated_of c (ItemKind.Instance u.1.interface)) (stated_use c u)) (given_in y (stated_use c u))) refl

  needed : (n : Name) (k : ItemKind) (id : InterfaceId) → Among (n, k) is → IsOfInterface k id → (j : InterfaceId) → IsWithin c id j → (u : Name × UsedType) → Among u (uses_in c j)
      → Needs (uses_of whole) (imports_of whole ++ exports_of whole) (stated_use c u)
  needed n k id m of j w u among =
      let there = stand (n, k) m in
      let inside = (interface_stands c acyclic k id of there).0 in
      let direct = a_use (subst (Among (stated_use c u)) (sym (uses_are_mapped c acyclic j)) (among_mapped (stated_use c) (uses_in c j) u among)) in
      let import = subst (Among (n, stated_of c k)) (sym are) (among_mapped (λ (e : Name × ItemKind). (e.0, stated_of c e.1)) is (n, k) m) in
      under_item n (stated_of c k) (Among-left (n, stated_of c k) (imports_of whole) (exports_of whole) import) (interface_has_items c acyclic k id of there)
      (item_needs c acyclic k id of there (stated_use c u) (needed_within c acyclic id inside j w (stated_use c u) direct))

pub imports_give : Accepted_imports_give
imports_give a acyclic distinct stand found finds accepted n k id m of standing j w u among i named t item taken =
    not_missing a acyclic distinct stand found finds i u item taken
    (λ f. accepted (not_imported i (needed a acyclic distinct stand found finds n k id m of j w u among) (identifier_is a.types.now acyclic u.1.interface ∙ named) f refl))
