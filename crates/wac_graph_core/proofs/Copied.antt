-- A copy of a graph over a collection under another number is a graph.
use Rattle.std.proofs.Common.{◌≡◌, ◌==◌, ◌<◌, ℕ, zero, suc, Bool, true, false, List, [], ◌∷◌, map, get_or, slice_get, Option, Some, None, IsSome, refl, sym, ap, subst, ◌∙◌}
use Rattle.std.proofs.lemmas.Option.{same_Some}
use Rattle.std.specs.Prelude.{option_map, if◌then◌else◌}
use Rattle.wac_types_base.specs.declared.item.ValueType.{ValueType}
use Rattle.wac_types_base.specs.declared.item.«Type».{«Type» as TypeKind}
use Rattle.wac_types_base.specs.declared.item.ItemKind.{ItemKind}
use Rattle.wac_types_base.specs.Record.{Collection}
use Rattle.wac_types_base.specs.Collection.{Stands}
use Rattle.wac_types_base.specs.Copying.{IsCopy}
use Rattle.wac_types_base.specs.Entries.{Name, names_of, value_at, AreDistinct}
use Rattle.wac_types_base.specs.Fits.{Fits}
use Rattle.wac_types_base.specs.Graph.{Among}
use Rattle.wac_types_base.specs.Renaming.{under, value_renamed, type_renamed, kind_under}
use Rattle.wac_types_base.specs.Stated.{stated_in, stated_of, instance_type, imports_of, exports_of}
use Rattle.wac_types_base.specs.Tree.{tree}
use Rattle.wac_types_base.proofs.Slots.{stands_borrow, stands_own, stands_typed_func, stands_typed_value, stands_typed_interface, stands_typed_world, stands_typed_module}
use Rattle.wac_types_base.proofs.Standing.{defined_found, resource_found, func_found, interface_found, world_found, module_found}
use Rattle.wac_types_names.specs.Packaged.{Packaged, packaged_under}
use Rattle.wac_types_names.specs.Keys.{package_key}
use Rattle.wac_graph_core.specs.declared.ids.PackageId.{PackageId}
use Rattle.wac_graph_core.specs.declared.edge.Edge.{Edge}
use Rattle.wac_graph_core.specs.declared.package.Place.{Place}
use Rattle.wac_graph_core.specs.Nodes.{NodeData, IsResource, IsDefinedType}
use Rattle.wac_graph_core.specs.NodeMaps.{IsImport, IsDefinition, AreOnce}
use Rattle.wac_graph_core.specs.Edges.{IsAcyclic, AreKeyed, HasAlias}
use Rattle.wac_graph_core.specs.Graph.{Graph, node_at, ContainsNode, held_at, package_of, package_if, package_made, instantiated, PackageStands, is_instance, NodeStands, GivesExport, FillsImport, passed, passed_as, EdgeStands, AreWired, AreExports, ArePlaces, IsGraph}
use Rattle.wac_graph_core.specs.Slots.{nodes_in}
use Rattle.wac_graph_core.specs.Copying.{node_under, AreUnder, place_under, IsGraphUnder}
use Rattle.wac_graph_core.proofs.NodeMap.{get-slots}
use Rattle.wac_graph_core.proofs.GraphSteps.{instantiated_stands}

-- ---- options and lists

there_mapped : {X Y : Type 0} (f : X → Y) (o : Option X) → IsSome o → IsSome (option_map f o)
there_mapped f None h = absurd (cc h)
there_mapped f (Some x) h = refl

there_before : {X Y : Type 0} (f : X → Y) (o : Option X) → IsSome (option_map f o) → IsSome o
there_before f None h = absurd (cc h)
there_before f (Some x) h = refl

-- what a mapped option has, by what the option had
record Before {X Y : Type 0} (f : X → Y) (o : Option X) (y : Y) : Type 0 where
  value : X
  at : o ≡ Some value
  is : y ≡ f value

before_mapped : {X Y : Type 0} (f : X → Y) (o : Option X) (y : Y) → option_map f o ≡ Some y → Before f o y
before_mapped f None y e = absurd (cc e)
before_mapped f (Some x) y e = record { value = x; at = refl; is = sym (same_Some _ _ e) }

get-mapped : {X Y : Type 0} (f : X → Y) (xs : List X) (i : ℕ) → slice_get (map f xs) i ≡ option_map f (slice_get xs i)
get-mapped f [] i = refl
get-mapped f (x ∷ xs) zero = refl
get-mapped f (x ∷ xs) (suc i) = get-mapped f xs i

-- what stands under an index in slots that are copied
slot_there : (n : ℕ) (slots : List (Option NodeData)) (k : ℕ) → get_or (map (option_map (node_under n)) slots) k None ≡ option_map (node_under n) (get_or slots k None)
slot_there n [] k = refl
slot_there n (x ∷ slots) zero = refl
slot_there n (x ∷ slots) (suc k) = slot_there n slots k

pub slots_there : (n : ℕ) (slots copies : List (Option NodeData)) → copies ≡ map (option_map (node_under n)) slots → AreUnder n (nodes_in slots) (nodes_in copies)
slots_there n slots copies is k =
    get-slots copies k ∙ ap (λ l. get_or l k None) is ∙ slot_there n slots k ∙ ap (option_map (node_under n)) (sym (get-slots slots k))

-- ---- types under one number and then another

module _ (m n : ℕ) where
  value_again : (v : ValueType) → value_renamed (under m) (value_renamed (under n) v) ≡ value_renamed (under m) v
  value_again (ValueType.Primitive p) = refl
  value_again (ValueType.Borrow r) = refl
  value_again (ValueType.Own r) = refl
  value_again (ValueType.Defined d) = refl

  type_again : (t : TypeKind) → type_renamed (under m) (type_renamed (under n) t) ≡ type_renamed (under m) t
  type_again (TypeKind.Resource r) = refl
  type_again (TypeKind.Func f) = refl
  type_again (TypeKind.Value v) = ap TypeKind.Value (value_again v)
  type_again (TypeKind.Interface i) = refl
  type_again (TypeKind.World w) = refl
  type_again (TypeKind.Module k) = refl

module _ (c : Collection) where
  -- what stands has the collection's number
  value_own : (v : ValueType) → Stands c (ItemKind.Value v) → value_renamed (under c.number) v ≡ v
  value_own (ValueType.Primitive p) s = refl
  value_own (ValueType.Borrow r) s = ap (λ a. ValueType.Borrow (record { collection = a; index = r.index })) (sym (resource_found c r (stands_borrow c r s)).own)
  value_own (ValueType.Own r) s = ap (λ a. ValueType.Own (record { collection = a; index = r.index })) (sym (resource_found c r (stands_own c r s)).own)
  value_own (ValueType.Defined d) s = ap (λ a. ValueType.Defined (record { collection = a; index = d.index })) (sym (defined_found c d s).own)

  type_own : (t : TypeKind) → Stands c (ItemKind.Ty t) → type_renamed (under c.number) t ≡ t
  type_own (TypeKind.Resource r) s = ap (λ a. TypeKind.Resource (record { collection = a; index = r.index })) (sym (resource_found c r s).own)
  type_own (TypeKind.Func f) s = ap (λ a. TypeKind.Func (record { collection = a; index = f.index })) (sym (func_found c f (stands_typed_func c f s)).own)
  type_own (TypeKind.Value v) s = ap TypeKind.Value (value_own v (stands_typed_value c v s))
  type_own (TypeKind.Interface i) s = ap (λ a. TypeKind.Interface (record { collection = a; index = i.index })) (sym (interface_found c i (stands_typed_interface c i s)).own)
  type_own (TypeKind.World w) s = ap (λ a. TypeKind.World (record { collection = a; index = w.index })) (sym (world_found c w (stands_typed_world c w s)).own)
  type_own (TypeKind.Module k) s = ap (λ a. TypeKind.Module (record { collection = a; index = k.index })) (sym (module_found c k (stands_typed_module c k s)).own)

  -- so two types that stand are one where they are one under another number
  type_once : (n : ℕ) (s t : TypeKind) → Stands c (ItemKind.Ty s) → Stands c (ItemKind.Ty t) → type_renamed (under n) s ≡ type_renamed (under n) t → s ≡ t
  type_once n s t ss st e =
      sym (type_own s ss) ∙ sym (type_again c.number n s) ∙ ap (type_renamed (under c.number)) e ∙ type_again c.number n t ∙ type_own t st

type_in : ItemKind → Option TypeKind
type_in (ItemKind.Ty t) = Some t
type_in k = None

resource_before : (n : ℕ) (t : TypeKind) → IsResource (type_renamed (under n) t) → IsResource t
resource_before n (TypeKind.Resource r) h = (r, refl)
resource_before n (TypeKind.Func f) h = absurd (cc h.1)
resource_before n (TypeKind.Value v) h = absurd (cc h.1)
resource_before n (TypeKind.Interface i) h = absurd (cc h.1)
resource_before n (TypeKind.World w) h = absurd (cc h.1)
resource_before n (TypeKind.Module m) h = absurd (cc h.1)

defined_under : (n : ℕ) (k : ItemKind) → IsDefinedType k → IsDefinedType (kind_under n k)
defined_under n k d = record { type = type_renamed (under n) d.type; is = ap (kind_under n) d.is; no_resource = λ r. d.no_resource (resource_before n d.type r) }

instance_under : (n : ℕ) (k : ItemKind) → is_instance k ≡ true → is_instance (kind_under n k) ≡ true
instance_under n (ItemKind.Ty t) h = absurd (cc h)
instance_under n (ItemKind.Func f) h = absurd (cc h)
instance_under n (ItemKind.Instance i) h = refl
instance_under n (ItemKind.Component w) h = absurd (cc h)
instance_under n (ItemKind.Module m) h = absurd (cc h)
instance_under n (ItemKind.Value v) h = absurd (cc h)

-- ---- the graph

module _ (n : ℕ) (g h : Graph) (same : IsGraphUnder n g h) (copied : (k : ItemKind) → Stands g.types k → IsCopy g.types h.types k (kind_under n k)) (sound : IsGraph g) where
  stands : (k : ItemKind) → Stands g.types k → Stands h.types (kind_under n k)
  stands k s = (copied k s).stands

  states : (k : ItemKind) → Stands g.types k → stated_of h.types (kind_under n k) ≡ stated_of g.types k
  states k s = ap stated_in (copied k s).same

  node_there : (k : ℕ) (x : NodeData) → node_at g k ≡ Some x → node_at h k ≡ Some (node_under n x)
  node_there k x e = same.nodes k ∙ ap (option_map (node_under n)) e

  node_before : (k : ℕ) (y : NodeData) → node_at h k ≡ Some y → Before (node_under n) (node_at g k) y
  node_before k y e = before_mapped (node_under n) (node_at g k) y (sym (same.nodes k) ∙ e)

  some_there : (k : ℕ) → ContainsNode g k → ContainsNode h k
  some_there k s = subst IsSome (sym (same.nodes k)) (there_mapped (node_under n) (node_at g k) s)

  -- ---- packages

  held_there : (o : Option Place) (k : ℕ) → held_at (option_map (place_under n) o) k ≡ option_map (packaged_under n) (held_at o k)
  held_there None k = refl
  held_there (Some p) k = by_test (p.generation == k)
    where
      by_test : (b : Bool) → (if b then option_map (packaged_under n) p.held else None) ≡ option_map (packaged_under n) (if b then p.held else None)
      by_test true = refl
      by_test false = refl

  place_there : (i : ℕ) → slice_get h.places i ≡ option_map (place_under n) (slice_get g.places i)
  place_there i = ap (λ ps. slice_get ps i) same.places ∙ get-mapped (place_under n) g.places i

  package_there : (id : PackageId) → package_of h id ≡ option_map (packaged_under n) (package_of g id)
  package_there id = ap (λ o. held_at o id.generation) (place_there id.place) ∙ held_there (slice_get g.places id.place) id.generation

  package_before : (id : PackageId) (q : Packaged) → package_of h id ≡ Some q → Before (packaged_under n) (package_of g id) q
  package_before id q e = before_mapped (packaged_under n) (package_of g id) q (sym (package_there id) ∙ e)

  if_there : (o : Option PackageId) → package_if h o ≡ option_map (packaged_under n) (package_if g o)
  if_there None = refl
  if_there (Some id) = package_there id

  made_there : (o : Option NodeData) → package_made h (option_map (node_under n) o) ≡ option_map (packaged_under n) (package_made g o)
  made_there None = refl
  made_there (Some x) = if_there x.of

  instantiated_there : (k : ℕ) (p : Packaged) → instantiated g k ≡ Some p → instantiated h k ≡ Some (packaged_under n p)
  instantiated_there k p e = ap (package_made h) (same.nodes k) ∙ made_there (node_at g k) ∙ ap (option_map (packaged_under n)) e

  package_stands : (p : Packaged) → PackageStands g.types p → PackageStands h.types (packaged_under n p)
  package_stands p s =
      record {
        world = stands (ItemKind.Component p.ty) s.world;
        instance = stands (ItemKind.Instance p.instance_type) s.instance;
        exports = states (ItemKind.Instance p.instance_type) s.instance ∙ s.exports ∙ ap instance_type (sym (states (ItemKind.Component p.ty) s.world));
      }

  places_stand : ArePlaces h.types h.places
  places_stand =
      record {
        stand = λ id q at. let b = package_before id q at in subst (PackageStands h.types) (sym b.is) (package_stands b.value (sound.packages.stand id b.value b.at));
        low = λ i q at some.
            let b = before_mapped (place_under n) (slice_get g.places i) q (sym (place_there i) ∙ at) in
            let held = there_before (packaged_under n) b.value.held (subst (λ (x : Place). IsSome x.held) b.is some) in
            subst (λ (x : Place). x.generation < 18446744073709551615) (sym b.is) (sound.packages.low i b.value b.at held);
        once = λ i j p q at bt e.
            let a = package_before i p at in
            let b = package_before j q bt in
            sound.packages.once i j a.value b.value a.at b.at (sym (ap package_key a.is) ∙ e ∙ ap package_key b.is);
      }

  -- ---- nodes

  node_stands : (x : NodeData) → NodeStands g.types g.places x → NodeStands h.types h.places (node_under n x)
  node_stands x s =
      record {
        item = stands x.item_kind s.item;
        of = λ id e. subst IsSome (sym (package_there id)) (there_mapped (packaged_under n) (package_of g id) (s.of id e));
        made = s.made;
        only = s.only;
        defined = λ r. defined_under n x.item_kind (s.defined r);
        instance = λ id q e at.
            let b = package_before id q at in
            ap (kind_under n) (s.instance id b.value e b.at) ∙ sym (ap (λ (p : Packaged). ItemKind.Instance p.instance_type) b.is);
      }

  import_before : (k : ℕ) (m : Name) → IsImport h.nodes k m → IsImport g.nodes k m
  import_before k m i =
      let b = node_before k i.node i.there in
      record { node = b.value; there = b.at; role = sym (ap (λ (x : NodeData). x.role) b.is) ∙ i.role }

  -- a definition there is one here, of a type that stands
  record DefinedBefore (k : ℕ) (item : ItemKind) : Type 0 where
    type : TypeKind
    of : IsDefinition g.nodes k (ItemKind.Ty type)
    stands_here : Stands g.types (ItemKind.Ty type)
    is : item ≡ ItemKind.Ty (type_renamed (under n) type)

  definition_before : (k : ℕ) (item : ItemKind) → IsDefinition h.nodes k item → DefinedBefore k item
  definition_before k item d =
      let b = node_before k d.node d.there in
      let role = sym (ap (λ (x : NodeData). x.role) b.is) ∙ d.role in
      let here = sound.nodes k b.value b.at in
      let t = here.defined role in
      record {
        type = t.type;
        of = record { node = b.value; there = b.at; role = role; type = t.is };
        stands_here = subst (Stands g.types) t.is here.item;
        is = sym d.type ∙ ap (λ (x : NodeData). x.item_kind) b.is ∙ ap (kind_under n) t.is;
      }

  once : AreOnce h.nodes
  unfolding type_in
  once =
      record {
        imports = λ j k m a b. sound.once.imports j k m (import_before j m a) (import_before k m b);
        definitions = λ j k item a b.
            let x = definition_before j item a in
            let y = definition_before k item b in
            let one : x.type ≡ y.type = type_once g.types n x.type y.type x.stands_here y.stands_here (same_Some _ _ (ap type_in (sym x.is ∙ y.is))) in
            sound.once.definitions j k (ItemKind.Ty y.type) (subst (λ t. IsDefinition g.nodes j (ItemKind.Ty t)) one x.of) y.of;
      }

  -- ---- edges

  item_stands : (k : ℕ) (x : NodeData) → node_at g k ≡ Some x → Stands g.types x.item_kind
  item_stands k x e = (sound.nodes k x e).item

  passed_there : (x : NodeData) → Stands g.types x.item_kind → passed h.types (node_under n x) ≡ passed g.types x
  passed_there x s = ap (passed_as x.role) (states x.item_kind s)

  gives_export : (i : ℕ) (m : Name) (k : ℕ) → GivesExport g i m k → GivesExport h i m k
  gives_export i m k x =
      record {
        instance = node_under n x.instance;
        instance_at = node_there i x.instance x.instance_at;
        one = instance_under n x.instance.item_kind x.one;
        alias = node_under n x.alias;
        alias_at = node_there k x.alias x.alias_at;
        export = ap (λ t. value_at (exports_of t) m) (states x.instance.item_kind (item_stands i x.instance x.instance_at)) ∙ x.export
            ∙ ap (λ t. Some t) (sym (states x.alias.item_kind (item_stands k x.alias x.alias_at)));
      }

  fills_import : (a i : ℕ) (m : Name) → FillsImport g a i m → FillsImport h a i m
  fills_import a i m x =
      let made = instantiated_stands g i x.of sound x.is in
      record {
        argument = node_under n x.argument;
        argument_at = node_there a x.argument x.argument_at;
        of = packaged_under n x.of;
        is = instantiated_there i x.of x.is;
        asked = x.asked;
        import = ap (λ t. value_at (imports_of t) m) (states (ItemKind.Component x.of.ty) made.world) ∙ x.import;
        fits = subst (λ t. Fits (tree t) (tree x.asked)) (sym (passed_there x.argument (item_stands a x.argument x.argument_at))) x.fits;
      }

  edge_stands : (e : Edge) → EdgeStands g e → EdgeStands h e
  edge_stands e s =
      record {
        from = some_there e.from s.from;
        to = some_there e.to s.to;
        alias = λ m is. let a = s.alias m is in (node_under n a.0, node_there e.to a.0 a.1, a.2);
        export = λ m is. gives_export e.from m e.to (s.export m is);
        argument = λ m is. fills_import e.from e.to m (s.argument m is);
      }

  wired : AreWired h
  wired =
      record {
        edges = λ e at. edge_stands e (sound.wired.edges e (subst (Among e) same.edges at));
        sources = λ k y at role.
            let b = node_before k y at in
            let a = sound.wired.sources k b.value b.at (sym (ap (λ (x : NodeData). x.role) b.is) ∙ role) in
            (a.0, a.1, subst (λ es. HasAlias es a.0 a.1 k) (sym same.edges) a.2);
      }

  exported : AreExports h.nodes h.exports
  exported =
      record {
        distinct = subst (λ es. AreDistinct (names_of es)) (sym same.exports) sound.exported.distinct;
        stand = λ m k at. some_there k (sound.exported.stand m k (subst (Among (m, k)) same.exports at));
        named = λ k y m at is.
            let b = node_before k y at in
            subst (Among (m, k)) (sym same.exports) (sound.exported.named k b.value m b.at (sym (ap (λ (x : NodeData). x.export) b.is) ∙ is));
      }

  pub IsGraph-under : IsGraph h
  IsGraph-under =
      record {
        nodes = λ k y at. let b = node_before k y at in subst (NodeStands h.types h.places) (sym b.is) (node_stands b.value (sound.nodes k b.value b.at));
        once = once;
        acyclic = subst IsAcyclic (sym same.edges) sound.acyclic;
        keyed = subst AreKeyed (sym same.edges) sound.keyed;
        wired = wired;
        exported = exported;
        packages = places_stand;
      }
