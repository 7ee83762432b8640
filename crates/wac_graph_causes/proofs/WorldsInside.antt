-- The component types that stand in an item are those of its parts, behind the item itself where it is one.
use Rattle.std.proofs.Common.{◌≡◌, ℕ, ◌+◌, List, [], ◌∷◌, ◌++◌, map, take, Option, Some, slice_get, refl, sym, ap, subst, ◌∙◌, inl, inr}
use Rattle.std.specs.List.{flat_map}
use Rattle.std.proofs.lemmas.List.{append-nil}
use Rattle.std.proofs.lemmas.Grind.{flat_map-append}
use Rattle.wac_types_base.specs.declared.item.«Type».{«Type» as TypeKind}
use Rattle.wac_types_base.specs.declared.item.ItemKind.{ItemKind}
use Rattle.wac_types_base.specs.declared.ids.InterfaceId.{InterfaceId}
use Rattle.wac_types_base.specs.declared.ids.WorldId.{WorldId}
use Rattle.wac_types_base.specs.declared.defined.Interface.{Interface}
use Rattle.wac_types_base.specs.declared.defined.World.{World}
use Rattle.wac_types_base.specs.Record.{Collection}
use Rattle.wac_types_base.specs.Entries.{Name}
use Rattle.wac_types_base.specs.Graph.{Among, Wholes, node}
use Rattle.wac_types_base.specs.Collection.{Shape, interface, world, type_of, Stands, IsAcyclic}
use Rattle.wac_types_base.specs.Stated.{Kind, IsInstance, IsInterface, IsComponent, IsWorld, Parts, Stated, Used, as_type, filled, interface_of, kind_of, names, names_used, shape_kind, stated_of, used_places, world_of}
use Rattle.wac_types_base.proofs.Lists.{among_last}
use Rattle.wac_types_base.proofs.Loops.{map-one_more, mapped_next}
use Rattle.wac_types_base.proofs.Standing.{interface_found, world_found}
use Rattle.wac_types_base.proofs.Telling.{item_kind, kind_stated}
use Rattle.wac_types_written.specs.Forms.{stated_items, stated_uses}
use Rattle.wac_types_written.proofs.Ids.{IsOther, interface_states, interface_type_states, world_states, world_type_states}
use Rattle.wac_types_written.proofs.Loops.{append_assoc}
use Rattle.wac_types_written.proofs.Parts.{found_item, found_places, interface_parts, world_parts}
use Rattle.wac_composition.specs.Circles.{Imports, imports_inside, imports_inside_at, in_items, in_world}
use Rattle.wac_types_parts.proofs.PartLaws.{imports_there}
use Rattle.wac_types_parts.proofs.PartsStated.{stated_nothing}
use Rattle.wac_graph_causes.specs.Inside.{AddsWorlds, WorldsStand, inside_items, world_imports}

-- ---- interfaces and worlds

abbrev inside_all : List (Name × Stated) → Imports
inside_all xs = flat_map (λ (e : Name × Stated). imports_inside e.1) xs

items_found : (xs : List (Name × Stated)) → in_items (map (found_item imports_inside) xs) ≡ inside_all xs
items_found [] = refl
items_found (x ∷ xs) = ap (λ l. imports_inside x.1 ++ l) (items_found xs)

items_own : (xs : List (Name × Stated)) → map (λ (e : Name × (Stated × Imports)). (e.0, e.1.0)) (map (found_item imports_inside) xs) ≡ xs
items_own [] = refl
items_own (x ∷ xs) = ap (λ l. x ∷ l) (items_own xs)

module _ (i : Option Name) (us : List Used) (is es : List (Name × Stated)) where
  interface_inside : imports_inside (interface_of i us es) ≡ inside_all es
  interface_inside =
      ap (imports_inside_at (interface i (names_used us) (names es))) (found_places imports_inside_at (used_places us ++ filled es))
      ∙ ap (λ (p : Parts Imports). in_items p.exports) (interface_parts imports_inside i us es)
      ∙ items_found es

  interface_type_inside : imports_inside (as_type (interface_of i us es)) ≡ imports_inside (interface_of i us es)
  interface_type_inside = refl

  world_inside : imports_inside (world_of i us is es) ≡ is ∷ (inside_all is ++ inside_all es)
  world_inside =
      ap (imports_inside_at (world i (names_used us) (names is) (names es))) (found_places imports_inside_at (used_places us ++ (filled is ++ filled es)))
      ∙ ap (λ (p : Parts Imports). in_world p) (world_parts imports_inside i us is es)
      ∙ (λ j. items_own is j ∷ (items_found is j ++ items_found es j))

  world_type_inside : imports_inside (as_type (world_of i us is es)) ≡ imports_inside (world_of i us is es)
  world_type_inside = refl

-- ---- what is neither

abbrev IsNeither : Kind → Type 0
IsNeither IsInstance = ⊥
IsNeither IsInterface = ⊥
IsNeither IsComponent = ⊥
IsNeither IsWorld = ⊥
IsNeither k = Unit {0}

nothing_at : (s : Shape) (ts : Wholes Shape) → IsNeither (shape_kind s) → imports_inside (node s ts) ≡ []
nothing_at (interface i us es) ts h = absurd h
nothing_at (type_of (interface i us es)) ts h = absurd h
nothing_at (world i us is es) ts h = absurd h
nothing_at (type_of (world i us is es)) ts h = absurd h
nothing_at s ts h = refl

nothing_inside : (x : Stated) → IsNeither (kind_of x) → imports_inside x ≡ []
nothing_inside (node s ts) h = nothing_at s ts h

other_kind : (k : ItemKind) → IsOther k → IsNeither (item_kind k)
other_kind (ItemKind.Instance i) h = absurd h
other_kind (ItemKind.Component w) h = absurd h
other_kind (ItemKind.Ty (TypeKind.Interface i)) h = absurd h
other_kind (ItemKind.Ty (TypeKind.World w)) h = absurd h
other_kind k h = tt

-- ---- of a collection

module _ (c : Collection) (a : IsAcyclic c) where
  pub instance_inside : (id : InterfaceId) (i : Interface) → slice_get c.interfaces id.index ≡ Some i → id.collection ≡ c.number → imports_inside (stated_of c (ItemKind.Instance id)) ≡ inside_items c i.exports
  instance_inside id i at own = ap imports_inside (interface_states c a id i at own) ∙ interface_inside i.id (stated_uses c i.uses) [] (stated_items c i.exports)

  pub component_inside : (id : WorldId) (w : World) → slice_get c.worlds id.index ≡ Some w → id.collection ≡ c.number → imports_inside (stated_of c (ItemKind.Component id)) ≡ world_imports c id ∷ (inside_items c w.imports ++ inside_items c w.exports)
  component_inside id w at own =
      ap imports_inside (world_states c a id w at own) ∙ world_inside w.id (stated_uses c w.uses) (stated_items c w.imports) (stated_items c w.exports)
      ∙ ap (λ xs. stated_items c xs ∷ (inside_items c w.imports ++ inside_items c w.exports)) (sym (imports_there c id w at own))

  pub interface_same : (id : InterfaceId) → Stands c (ItemKind.Instance id) → imports_inside (stated_of c (ItemKind.Ty (TypeKind.Interface id))) ≡ imports_inside (stated_of c (ItemKind.Instance id))
  interface_same id s =
      let f = interface_found c id s in
      let e = interface_states c a id f.value f.at f.own in
      ap imports_inside (interface_type_states c a id s ∙ ap as_type e) ∙ interface_type_inside f.value.id (stated_uses c f.value.uses) [] (stated_items c f.value.exports) ∙ ap imports_inside (sym e)

  pub world_same : (id : WorldId) → Stands c (ItemKind.Component id) → imports_inside (stated_of c (ItemKind.Ty (TypeKind.World id))) ≡ imports_inside (stated_of c (ItemKind.Component id))
  world_same id s =
      let f = world_found c id s in
      let e = world_states c a id f.value f.at f.own in
      ap imports_inside (world_type_states c a id s ∙ ap as_type e) ∙ world_type_inside f.value.id (stated_uses c f.value.uses) (stated_items c f.value.imports) (stated_items c f.value.exports) ∙ ap imports_inside (sym e)

  pub other_inside : (k : ItemKind) → Stands c k → IsOther k → imports_inside (stated_of c k) ≡ []
  other_inside k s h = nothing_inside (stated_of c k) (subst IsNeither (sym (kind_stated c a k s)) (other_kind k h))

-- what does not stand has none
pub missing_inside : (c : Collection) (k : ItemKind) → (Stands c k → ⊥) → imports_inside (stated_of c k) ≡ []
missing_inside c k n = ap imports_inside (stated_nothing c k n)

-- ---- what is added

module _ (c : Collection) where
  pub adds_none : (xs : Imports) (ws : List WorldId) → xs ≡ [] → WorldsStand c ws → AddsWorlds c xs ws ws
  adds_none xs ws e h = record { stand = h; imports = sym (append-nil (map (world_imports c) ws)) ∙ ap (λ l. map (world_imports c) ws ++ l) (sym e) }

  pub adds_one : (w : WorldId) (old new : List WorldId) → new ≡ old ++ w ∷ [] → Stands c (ItemKind.Component w) → WorldsStand c old → AddsWorlds c (world_imports c w ∷ []) old new
  adds_one w old new e s h = record {
    stand = λ v m. elim (among_last v w old (subst (Among v) e m)) [ inl o ↦ h v o | inr is ↦ subst (λ u. Stands c (ItemKind.Component u)) (sym is) s ];
    imports = ap (map (world_imports c)) e ∙ mapped_next (world_imports c) old w;
  }

  pub adds_both : (xs ys : Imports) (old mid new : List WorldId) → AddsWorlds c xs old mid → AddsWorlds c ys mid new → AddsWorlds c (xs ++ ys) old new
  adds_both xs ys old mid new h k = record { stand = k.stand; imports = k.imports ∙ ap (λ l. l ++ ys) h.imports ∙ append_assoc (map (world_imports c) old) xs ys }

  pub adds_as : (xs ys : Imports) (old new : List WorldId) → xs ≡ ys → AddsWorlds c xs old new → AddsWorlds c ys old new
  adds_as xs ys old new e h = subst (λ l. AddsWorlds c l old new) e h

  pub items_next : (xs : List (Name × ItemKind)) (i : ℕ) (n : Name) (k : ItemKind) → slice_get xs i ≡ Some (n, k) → inside_items c (take i xs) ++ imports_inside (stated_of c k) ≡ inside_items c (take (i + 1) xs)
  items_next xs i n k at =
      ap (λ l. inside_items c (take i xs) ++ l) (sym (append-nil (imports_inside (stated_of c k))))
      ∙ sym (flat_map-append (λ (e : Name × Stated). imports_inside e.1) (stated_items c (take i xs)) ((n, stated_of c k) ∷ []))
      ∙ ap inside_all (sym (map-one_more (λ (x : Name × ItemKind). (x.0, stated_of c x.1)) xs i (n, k) at))
