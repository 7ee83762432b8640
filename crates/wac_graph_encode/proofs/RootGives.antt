-- What outer imports give.
use Rattle.std.proofs.Common.{◌≡◌, ◌+◌, ◌<◌, ℕ, List, length, ◌++◌, map, Some, sym, ap, ◌∙◌, subst, unwrap_or, slice_get, arith}
use Rattle.std.specs.Prelude.{option_map}
use Rattle.wac_types_base.specs.declared.ids.InterfaceId.{InterfaceId}
use Rattle.wac_types_base.specs.declared.ids.WorldId.{WorldId}
use Rattle.wac_types_base.specs.declared.item.ItemKind.{ItemKind}
use Rattle.wac_types_base.specs.declared.defined.UsedType.{UsedType}
use Rattle.wac_types_base.specs.Record.{Collection}
use Rattle.wac_types_base.specs.Entries.{Name, names_of, value_at}
use Rattle.wac_types_base.specs.Graph.{Among}
use Rattle.wac_types_base.specs.Parts.{identifier_in}
use Rattle.wac_types_base.specs.Collection.{Stands, IsAcyclic}
use Rattle.wac_types_base.specs.Stated.{Stated, stated_of, identifier_of}
use Rattle.wac_types_base.specs.Tree.{tree}
use Rattle.wac_types_base.specs.Fits.{Fits}
use Rattle.wac_types_base.proofs.Adding.{option_map-some}
use Rattle.wac_types_base.proofs.Stating.{value_with}
use Rattle.wac_types_base.proofs.Walking.{slice_get-Among}
use Rattle.wac_types_fit.specs.Checking.{IsFlat}
use Rattle.wac_types_fit.specs.Trees.{tree_in}
use Rattle.wac_types_fit.proofs.ItemKinds.{fits_kind, kind_is}
use Rattle.wac_types_fit.proofs.Items.{value_at-among, among-value_at}
use Rattle.wac_types_parts.specs.Parts.{interface_in, imports_of, exports_of, uses_of, used_if, IsOfInterface}
use Rattle.wac_types_parts.proofs.PartsStated.{identifier_is}
use Rattle.wac_composition.specs.Composition.{Composition}
use Rattle.wac_composition.specs.Asks.{Ask, asks_of}
use Rattle.wac_composition.specs.Circles.{used_inside}
use Rattle.wac_composition.specs.Classes.{is_instance_kind, class, spelling}
use Rattle.wac_composition.specs.OuterImports.{outer_of, outer_imports}
use Rattle.wac_composition.specs.OuterLaws.{IsMet}
use Rattle.wac_composition.proofs.OuterClasses.{outer_of_ask, within}
use Rattle.wac_writable.proofs.HolderLaws.{used_from}
use Rattle.wac_writable.proofs.TypesLaws.{exports_stand}
use Rattle.wac_graph_scopes.specs.Imports.{own_places, FindsFirst, GivesAt}
use Rattle.wac_graph_scopes.specs.Prepared.{IsWithin, taken_by}
use Rattle.wac_graph_asks.specs.Outers.{AreOuters}
use Rattle.wac_graph_causes.proofs.UsedInside.{same_inside}
use Rattle.wac_graph_encode.specs.RefusedImports.{Outer_imports_give}
use Rattle.wac_graph_encode.proofs.AcceptedImports.{instance_item}
use Rattle.wac_graph_encode.proofs.Exported.{imports_stand}
use Rattle.wac_graph_encode.proofs.FittingGives.{used_flat, with_item_stands, type_given}
use Rattle.wac_graph_encode.proofs.ImportPlaces.{place_here}
use Rattle.wac_graph_encode.proofs.OutersFound.{outers_found}
use Rattle.wac_graph_encode.proofs.RefusedImports.{use_inside}
use Rattle.wac_graph_encode.proofs.SmallerInterfaces.{interface_stands}
use Rattle.wac_graph_encode.proofs.StockLaws.{tree_is}
use Rattle.wac_graph_encode.proofs.UsesAsked.{uses_asked}
use Rattle.wac_graph_encode.proofs.UsesKept.{uses_kept}

module _ (k : Composition ℕ ℕ) (c : Collection) (acyclic : IsAcyclic c) (world : WorldId) (places : List (Name × ℕ)) (outers : AreOuters (asks_of k) c world places) (found : List (Name × ℕ))
    (first : FindsFirst found (places ++ own_places 0 (names_of (imports_of c world)))) where
  abbrev asks : List (Ask ℕ)
  asks = asks_of k

  abbrev is : List (Name × ItemKind)
  is = imports_of c world

  -- under a name stands what is stated of the import
  outer_at : (n : Name) → value_at (outer_imports asks) n ≡ value_at (map (λ (e : Name × ItemKind). (e.0, stated_of c e.1)) is) n
  outer_at n = ap (λ l. value_at l n) (sym outers.imports)

  stand : (n : Name) (x : ItemKind) → value_at is n ≡ Some x → Stands c x
  stand n x e = imports_stand c acyclic world outers.stands outers.distinct (n, x) (value_at-among is n x e)

  -- some ask for that interface is met under the name
  abbrev AskMet : Name → Stated → Type 0
  AskMet i y = (b : Ask ℕ) × IsMet asks b × (b.name ≡ i) × (b.item ≡ y)

  -- what an outer import uses is asked, and met
  used_met : (n : Name) (x : ItemKind) → Among (n, x) is → (y : Stated) → Among y (used_inside (stated_of c x)) → (i : Name) → identifier_of y ≡ Some i → AskMet i y
  used_met n x m y used i e = of_outer (outer_of_ask asks n (stated_of c x) there)
    where
      there : value_at (outer_imports asks) n ≡ Some (stated_of c x)
      there = outer_at n ∙ value_with (stated_of c) is n ∙ ap (option_map (stated_of c)) (among-value_at is n x outers.distinct m)

      met : (d : Ask ℕ) × Among d asks × (d.name ≡ i) × (d.item ≡ y) → AskMet i y
      met (d, among, name, item) = (d, outers.met d among, name, item)

      of_ask : (a : Ask ℕ) → Among a asks → (b : Ask ℕ) × Among b (class asks a) × Among y (used_inside b.item) → AskMet i y
      of_ask a among (b, in_class, u) = met (uses_asked k b (within asks a b among in_class) y u i e)

      of_outer : (a : Ask ℕ) × Among a asks × (outer_of (class asks a) ≡ Some (n, stated_of c x)) → AskMet i y
      of_outer (a, among, outer) = of_ask a among (uses_kept (class asks a) n (stated_of c x) outer y used)

  abbrev Gives : Name → Name → ItemKind → Type 0
  Gives i n item = (m : ℕ) × (value_at found i ≡ Some m) × GivesAt c is m n item

  -- an instance under the spelling that fits the interface gives its types
  instance_gives : (i : Name) (l j : InterfaceId) → value_at is (spelling asks i) ≡ Some (ItemKind.Instance l) → Stands c (ItemKind.Instance j) → Fits (tree_in c (ItemKind.Instance l)) (tree_in c (ItemKind.Instance j))
      → (n : Name) (item : ItemKind) → used_if (value_at (exports_of c j) n) ≡ Some item → Gives i n item
  instance_gives i l j e right fit n item taken = at (slice_get-Among is (spelling asks i, ItemKind.Instance l) (value_at-among is (spelling asks i) (ItemKind.Instance l) e))
    where
      has : value_at (exports_of c j) n ≡ Some item
      has = used_from (value_at (exports_of c j) n) item taken

      flat : IsFlat item
      flat = used_flat (value_at (exports_of c j) n) item taken

      stands : Stands c item
      stands = exports_stand c acyclic j right (n, item) (value_at-among (exports_of c j) n item has)

      at : (p : ℕ) × (p < length is) × (slice_get is p ≡ Some (spelling asks i, ItemKind.Instance l)) → Gives i n item
      at (p, less, import_is) =
          let zero : 0 + p ≡ p = omega arith in (
            p,
            outers_found asks c world places outers found first i ∙ place_here is 0 p (spelling asks i) (ItemKind.Instance l) outers.distinct import_is ∙ ap Some zero,
            record {
              interface = l;
              import_is = (spelling asks i, import_is);
              export_is = type_given c acyclic l j (stand (spelling asks i) (ItemKind.Instance l) e) right fit n item has flat stands;
            },
          )

  -- and what fits it is an instance
  item_gives : (i : Name) (j : InterfaceId) (z : ItemKind) → value_at is (spelling asks i) ≡ Some z → Fits (tree_in c z) (tree_in c (ItemKind.Instance j))
      → (n : Name) (item : ItemKind) → used_if (value_at (exports_of c j) n) ≡ Some item → Gives i n item
  item_gives i j z e fit n item taken =
      at (instance_item z (ap is_instance_kind (sym (kind_is c acyclic z (stand (spelling asks i) z e)) ∙ fits_kind (tree_in c z) (tree_in c (ItemKind.Instance j)) fit ∙ kind_is c acyclic (ItemKind.Instance j) right)))
    where
      right : Stands c (ItemKind.Instance j)
      right = with_item_stands c acyclic j n item (used_from (value_at (exports_of c j) n) item taken)

      at : (l : InterfaceId) × (z ≡ ItemKind.Instance l) → Gives i n item
      at (l, same) = instance_gives i l j (e ∙ ap Some same) right (subst (λ y. Fits (tree_in c y) (tree_in c (ItemKind.Instance j))) same fit) n item taken

  outer_gives : (i : Name) (j : InterfaceId) (x : Stated) → value_at (outer_imports asks) (spelling asks i) ≡ Some x → Fits (tree x) (tree (stated_of c (ItemKind.Instance j)))
      → (n : Name) (item : ItemKind) → used_if (value_at (exports_of c j) n) ≡ Some item → Gives i n item
  outer_gives i j x there fits n item taken = at (option_map-some (stated_of c) (value_at is (spelling asks i)) x (sym (outer_at (spelling asks i) ∙ value_with (stated_of c) is (spelling asks i)) ∙ there))
    where
      at : (z : ItemKind) × (value_at is (spelling asks i) ≡ Some z) × (x ≡ stated_of c z) → Gives i n item
      at (z, e, same) =
          item_gives i j z e
          (subst (Fits (tree_in c z)) (tree_is c acyclic (ItemKind.Instance j)) (subst (λ t. Fits t (tree (stated_of c (ItemKind.Instance j)))) (ap tree same ∙ tree_is c acyclic z) fits))
          n item taken

  ask_gives : (i : Name) (j : InterfaceId) → AskMet i (stated_of c (ItemKind.Instance j)) → (n : Name) (item : ItemKind) → used_if (value_at (exports_of c j) n) ≡ Some item → Gives i n item
  ask_gives i j (d, met, name, item_is) n item taken =
      outer_gives i j met.item (ap (λ o. value_at (outer_imports asks) (spelling asks o)) (sym name) ∙ met.there) (subst (λ y. Fits (tree met.item) (tree y)) item_is met.fits) n item taken

  gives : (n : Name) (x : ItemKind) (id : InterfaceId) → Among (n, x) is → IsOfInterface x id → (j : InterfaceId) → IsWithin c id j → (u : Name × UsedType) → Among u (uses_of c j)
      → (i : Name) → identifier_in (interface_in c u.1.interface) ≡ Some i → (item : ItemKind) → taken_by c u ≡ Some item → Gives i (unwrap_or u.1.name u.0) item
  gives n x id m of j w u among i named item taken =
      let there = stand n x (among-value_at is n x outers.distinct m) in
      let used = subst (Among (stated_of c (ItemKind.Instance u.1.interface))) (sym (same_inside c acyclic x id of there)) (use_inside c acyclic id (interface_stands c acyclic x id of there).0 j w u among) in
      ask_gives i u.1.interface (used_met n x m (stated_of c (ItemKind.Instance u.1.interface)) used i (identifier_is c acyclic u.1.interface ∙ named)) (unwrap_or u.1.name u.0) item taken

pub root_gives : Outer_imports_give
root_gives k c world places acyclic outers a types imports found first n x id m of standing j w u among i named t item taken =
    let now = sym types in
    let g = gives k a.types.now (subst IsAcyclic now acyclic) world places (subst (λ d. AreOuters (asks_of k) d world places) now outers) found
    (subst (λ d. FindsFirst found (places ++ own_places 0 (names_of (imports_of d world)))) now first) n x id (subst (Among (n, x)) (imports ∙ ap (λ d. imports_of d world) now) m) of j w u among i named item taken in
    (g.0, g.1, subst (λ is. GivesAt a.types.now is g.0 (unwrap_or u.1.name u.0) item) (sym (imports ∙ ap (λ d. imports_of d world) now)) g.2)
