-- What stays while packages come into a graph.
use Rattle.std.proofs.Common.{◌≡◌, ◌≢◌, List, [], ◌∷◌, ◌++◌, length, Some, Result, Ok, Err, OnOk, IfOk, OnErr, refl, sym, ap, subst, ◌∙◌, slice_get, slice_set}
use Rattle.wac_types_base.specs.Record.{Collection}
use Rattle.wac_types_base.specs.Kept.{keeping as keeping_so}
use Rattle.wac_types_base.specs.Collection.{Grows, IsAcyclic, Stands, item_node, defined_entry, resource_entry, func_entry, interface_entry, world_entry}
use Rattle.wac_types_base.proofs.Adding.{Grows-refl, Grows-trans}
use Rattle.wac_types_base.proofs.GraphLemmas.{is_there}
use Rattle.wac_types_names.specs.Packaged.{Packaged}
use Rattle.wac_graph_core.specs.declared.ids.PackageId.{PackageId}
use Rattle.wac_graph_core.specs.declared.package.Place.{Place}
use Rattle.wac_graph_core.specs.Graph.{Graph, ContainsPackage, package_of, package_in}
use Rattle.wac_graph_core.specs.Packages.{IsFreePlace, PutsPlace, put_last, put_free, Registers, held_place}
use Rattle.wac_graph_core.specs.Types.{Enlarges, with_collection}
use Rattle.wac_graph_core.proofs.PlaceSteps.{Held, held_in, in_held, get_before, get_set_same, get_set_other}
use Rattle.std.specs.declared.alloc.AllocError.{AllocError}
use Rattle.wac_types_base.specs.declared.item.ItemKind.{ItemKind}
use Rattle.wac_types_base.specs.declared.item.ValueType.{ValueType}
use Rattle.wac_types_base.specs.declared.item.«Type».{«Type» as TypeKind}
use Rattle.wac_types_base.specs.declared.defined.DefinedType.{DefinedType}
use Rattle.wac_types_base.specs.declared.defined.Resource.{Resource}
use Rattle.wac_types_base.specs.declared.defined.FuncType.{FuncType}
use Rattle.wac_types_base.specs.declared.defined.Interface.{Interface}
use Rattle.wac_types_base.specs.declared.defined.World.{World}
use Rattle.wac_types_base.specs.declared.ids.DefinedTypeId.{DefinedTypeId}
use Rattle.wac_types_base.specs.declared.ids.ResourceId.{ResourceId}
use Rattle.wac_types_base.specs.declared.ids.FuncTypeId.{FuncTypeId}
use Rattle.wac_types_base.specs.declared.ids.InterfaceId.{InterfaceId}
use Rattle.wac_types_base.specs.declared.ids.WorldId.{WorldId}
use Rattle.wac_types_base.specs.Copying.{IsCopy}
use Rattle.wac_types_base.proofs.Slots.{stands_typed_world}
use Rattle.wac_parser_resolve.specs.Keeping.{Keeps}
use Rattle.wac_parser_declare.proofs.Added.{defined_added, resource_added, func_added, interface_added, world_added}
use Rattle.wac_types_base.proofs.Copying.{last_place}

-- ---- a package that is put

place_kept : (ps : List Place) (p : Packaged) (i : PackageId) (free : IsFreePlace ps i) (id : PackageId) (q : Packaged) (h : Held ps id q) → id.place ≢ i.place
place_kept ps p i free id q h e =
    let same : Some h.place ≡ Some free.place = sym h.there ∙ ap (slice_get ps) e ∙ free.there in
    let place : h.place ≡ free.place = cc in
    cc (h.held, ap (λ (x : Place). x.held) place, free.free.empty)

pub put_keeps : (ps qs : List Place) (i : PackageId) (p : Packaged) → PutsPlace ps i p qs → (id : PackageId) (q : Packaged) → package_in ps id ≡ Some q → package_in qs id ≡ Some q
put_keeps ps qs i p (put_last new) id q at =
    let h = held_in ps id q at in
    in_held (ps ++ held_place 0 p ∷ []) id q (record { place = h.place; there = get_before ps (held_place 0 p) id.place h.place h.there; now = h.now; held = h.held })
put_keeps ps qs i p (put_free free) id q at =
    let h = held_in ps id q at in
    in_held (slice_set ps i.place (held_place i.generation p)) id q
    (record { place = h.place; there = get_set_other ps i.place id.place (held_place i.generation p) (place_kept ps p i free id q h) ∙ h.there; now = h.now; held = h.held })

pub put_there : (ps qs : List Place) (i : PackageId) (p : Packaged) → PutsPlace ps i p qs → package_in qs i ≡ Some p
put_there ps qs i p (put_last new) =
    in_held (ps ++ held_place 0 p ∷ []) i p
    (record { place = held_place 0 p; there = ap (slice_get (ps ++ held_place 0 p ∷ [])) new.place ∙ last_place ps (held_place 0 p); now = sym new.first; held = refl })
put_there ps qs i p (put_free free) =
    in_held (slice_set ps i.place (held_place i.generation p)) i p
    (record { place = held_place i.generation p; there = get_set_same ps i.place (held_place i.generation p) free.place free.there; now = refl; held = refl })

-- ---- graphs

pub registered : (g h : Graph) (p : Packaged) (i : PackageId) → Registers g h p i → ContainsPackage h i
registered g h p i r = is_there (package_of h i) p (put_there g.places h.places i p r.put)

pub Keeps-registered : (g h : Graph) (p : Packaged) (i : PackageId) → IsAcyclic g.types → Registers g h p i → Keeps g h
Keeps-registered g h p i a r = record {
  types = subst (Grows g.types) (sym (ap (λ (x : Graph). x.types) r.made)) (Grows-refl g.types a);
  nodes = ap (λ (x : Graph). x.nodes) r.made;
  edges = ap (λ (x : Graph). x.edges) r.made;
  exports = ap (λ (x : Graph). x.exports) r.made;
  packages = λ id q at. put_keeps g.places h.places i p r.put id q at;
}

pub Keeps-enlarged : (g h : Graph) → Enlarges g h → Keeps g h
Keeps-enlarged g h e = record {
  types = e.grows;
  nodes = ap (λ (x : Graph). x.nodes) e.same;
  edges = ap (λ (x : Graph). x.edges) e.same;
  exports = ap (λ (x : Graph). x.exports) e.same;
  packages = λ id q at. subst (λ (x : Graph). package_of x id ≡ Some q) (sym e.same) at;
}

pub Keeps-refl : (g : Graph) → IsAcyclic g.types → Keeps g g
Keeps-refl g a = record { types = Grows-refl g.types a; nodes = refl; edges = refl; exports = refl; packages = λ id q at. at }

pub Keeps-trans : (g h i : Graph) → Keeps g h → Keeps h i → Keeps g i
Keeps-trans g h i a b = record {
  types = Grows-trans g.types h.types i.types a.types b.types;
  nodes = b.nodes ∙ a.nodes;
  edges = b.edges ∙ a.edges;
  exports = b.exports ∙ a.exports;
  packages = λ id q at. b.packages id q (a.packages id q at);
}

pub Keeps-types : (g h : Graph) → Keeps g h → Grows g.types h.types
Keeps-types g h k = k.types

pub found_package : (g : Graph) (i : PackageId) (p : Packaged) → package_of g i ≡ Some p → ContainsPackage g i
found_package g i p e = is_there (package_of g i) p e

-- by what was answered
pub Keeps-by : {E : Type 0} (g h : Graph) (p : Packaged) (r : Result PackageId E) → IsAcyclic g.types → IfOk r (λ i. Registers g h p i) → OnErr r (h ≡ g) → Keeps g h
Keeps-by g h p (Ok i) a f k = Keeps-registered g h p i a f
Keeps-by g h p (Err e) a f k = subst (Keeps g) (sym k) (Keeps-refl g a)

-- ---- what is added through a graph

module _ (g h : Graph) where
  pub lent_defined : (x : DefinedType) (r : Result DefinedTypeId AllocError) → OnOk r (h ≡ with_collection g (keeping_so h.types.kept (record g.types { defined_types = g.types.defined_types ++ x ∷ [] }))) → IfOk r (λ i. i ≡ record { collection = g.types.number; index = length g.types.defined_types })
      → IfOk r (λ i. item_node h.types (ItemKind.Value (ValueType.Defined i)) ≡ Some (defined_entry x))
  lent_defined x (Ok i) e id = defined_added g.types h.types x (Ok i) (ap (λ (y : Graph). y.types) e) id
  lent_defined x (Err f) e id = tt

  pub lent_resource : (x : Resource) (r : Result ResourceId AllocError) → OnOk r (h ≡ with_collection g (keeping_so h.types.kept (record g.types { resources = g.types.resources ++ x ∷ [] }))) → IfOk r (λ i. i ≡ record { collection = g.types.number; index = length g.types.resources })
      → IfOk r (λ i. item_node h.types (ItemKind.Ty (TypeKind.Resource i)) ≡ Some (resource_entry x))
  lent_resource x (Ok i) e id = resource_added g.types h.types x (Ok i) (ap (λ (y : Graph). y.types) e) id
  lent_resource x (Err f) e id = tt

  pub lent_func : (x : FuncType) (r : Result FuncTypeId AllocError) → OnOk r (h ≡ with_collection g (keeping_so h.types.kept (record g.types { func_types = g.types.func_types ++ x ∷ [] }))) → IfOk r (λ i. i ≡ record { collection = g.types.number; index = length g.types.func_types })
      → IfOk r (λ i. item_node h.types (ItemKind.Func i) ≡ Some (func_entry x))
  lent_func x (Ok i) e id = func_added g.types h.types x (Ok i) (ap (λ (y : Graph). y.types) e) id
  lent_func x (Err f) e id = tt

  pub lent_interface : (x : Interface) (r : Result InterfaceId AllocError) → OnOk r (h ≡ with_collection g (keeping_so h.types.kept (record g.types { interfaces = g.types.interfaces ++ x ∷ [] }))) → IfOk r (λ i. i ≡ record { collection = g.types.number; index = length g.types.interfaces })
      → IfOk r (λ i. item_node h.types (ItemKind.Instance i) ≡ Some (interface_entry x))
  lent_interface x (Ok i) e id = interface_added g.types h.types x (Ok i) (ap (λ (y : Graph). y.types) e) id
  lent_interface x (Err f) e id = tt

  pub lent_world : (x : World) (r : Result WorldId AllocError) → OnOk r (h ≡ with_collection g (keeping_so h.types.kept (record g.types { worlds = g.types.worlds ++ x ∷ [] }))) → IfOk r (λ i. i ≡ record { collection = g.types.number; index = length g.types.worlds })
      → IfOk r (λ i. item_node h.types (ItemKind.Component i) ≡ Some (world_entry x))
  lent_world x (Ok i) e id = world_added g.types h.types x (Ok i) (ap (λ (y : Graph). y.types) e) id
  lent_world x (Err f) e id = tt

pub enlarged : (g h : Graph) → Enlarges g h → Grows g.types h.types
enlarged g h e = e.grows

-- a copy stands
pub copy_stands : (c d : Collection) (k j : ItemKind) → IsCopy c d k j → Stands d j
copy_stands c d k j h = h.stands

pub ruleset keeping = (copy_stands, enlarged, stands_typed_world, lent_defined, lent_resource, lent_func, lent_interface, lent_world, registered, Keeps-registered, Keeps-enlarged, Keeps-refl, Keeps-trans, Keeps-types, found_package)
