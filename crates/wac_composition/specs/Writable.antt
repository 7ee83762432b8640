-- Which types cannot be written.
use Rattle.std.specs.Prelude.{Bool, true, false, not, ◌&&◌, ◌||◌, List, [], ◌∷◌, ◌++◌, map, Option, Some, None, is_none, option_map, filter, filter_map, bytes_eq, unwrap_or, if◌then◌else◌}
use Rattle.std.specs.List.{flat_map, list_all, list_any}
use Rattle.wac_types_base.specs.declared.core_types.HeapType.{HeapType}
use Rattle.wac_types_base.specs.declared.core_types.CoreRefType.{CoreRefType}
use Rattle.wac_types_base.specs.declared.core_types.CoreType.{CoreType}
use Rattle.wac_types_base.specs.declared.core_types.CoreFuncType.{CoreFuncType}
use Rattle.wac_types_base.specs.declared.core_types.CoreExtern.{CoreExtern}
use Rattle.wac_types_base.specs.declared.core_types.ModuleType.{ModuleType}
use Rattle.wac_types_base.specs.Entries.{Name, value_at, has_name}
use Rattle.wac_types_base.specs.Collection.{Shape, resource, resource_alias, func, interface, world, module_type, type_of, own_of, borrow_of}
use Rattle.wac_types_base.specs.Stated.{Stated, Kind, IsInstance, IsValue, IsValueType, IsResource, IsInterface, Parts, parts_at, Used, folded, kind_of, untyped, over, world_of, exports_of, identifier_of, root_name}
use Rattle.wac_types_base.specs.Tree.{tree}
use Rattle.wac_composition.specs.Tests.{same_tree}
use Rattle.wac_composition.specs.Classes.{is_instance_kind}
use Rattle.wac_composition.specs.Merging.{reached}
use Rattle.wac_types_written.specs.Written.{is_type}

-- ---- core items: references to functions and to outside alone, no shared table or global, no own page size

abbrev pub writable_heap : HeapType → Bool
writable_heap HeapType.Func = true
writable_heap HeapType.Extern = true
writable_heap _ = false

abbrev pub writable_reference : CoreRefType → Bool
writable_reference r = r.nullable && writable_heap r.heap_type

abbrev pub writable_core_type : CoreType → Bool
writable_core_type (CoreType.Ref r) = writable_reference r
writable_core_type _ = true

abbrev pub writable_signature : CoreFuncType → Bool
writable_signature f = list_all writable_core_type f.params && list_all writable_core_type f.results

abbrev pub writable_extern : CoreExtern → Bool
writable_extern (CoreExtern.Func f) = writable_signature f
writable_extern (CoreExtern.Table r initial maximum table64 shared) = writable_reference r && not shared
writable_extern (CoreExtern.Memory memory64 shared initial maximum page_size) = is_none page_size
writable_extern (CoreExtern.Global t mutable shared) = writable_core_type t && not shared
writable_extern (CoreExtern.Tag f) = writable_signature f

abbrev pub writable_module : ModuleType → Bool
writable_module m = list_all (λ i. writable_extern i.1) m.imports && list_all (λ e. writable_extern e.1) m.exports

-- ---- what stands directly in an interface, a component type or the root: items that are used, and root names of resources

pub record Holder : Type 0 where
  pub used : List (Name × Stated)
  pub roots : List Name

-- the name there of what a use takes, the item that an interface has under it, and that with the use's name
abbrev pub there_of : Used → Name
there_of u = unwrap_or u.there u.name

abbrev pub item_in : Stated → Used → Option Stated
item_in i u = value_at (exports_of i) (there_of u)

abbrev pub has_items : Kind → Bool
has_items IsInstance = true
has_items IsInterface = true
has_items k = false

-- what an import has there: only an instance has items that stand
abbrev pub given_in : Stated → Used → Option Stated
given_in x u = if is_instance_kind (kind_of x) then item_in x u else None

-- a resource or a value type; nothing else is taken by a use
abbrev pub is_used_kind : Kind → Bool
is_used_kind IsResource = true
is_used_kind IsValueType = true
is_used_kind k = false

abbrev pub usable : Option Stated → Option Stated
usable None = None
usable (Some x) = if is_used_kind (kind_of x) then Some x else None

abbrev pub taken : Used → Option (Name × Stated)
taken u = option_map (λ x. (u.name, x)) (usable (item_in u.interface u))

abbrev pub is_resource : Kind → Bool
is_resource IsResource = true
is_resource k = false

-- a resource under its own name
abbrev pub is_fresh : Name × Stated → Bool
is_fresh e = is_resource (kind_of e.1) && bytes_eq e.0 (root_name e.1)

abbrev pub root_of : Name × Stated → Name
root_of e = root_name e.1

-- root names: of resource items of that name, and of resources that are used
abbrev pub holder : List Used → List (Name × Stated) → Holder
holder us items = record {
  used = filter_map taken us;
  roots = map root_of (filter is_fresh items) ++ map root_of (filter (λ e. is_resource (kind_of e.1)) (filter_map taken us));
}

-- a use gives the item under its name: what it takes has the item's tree
abbrev pub is_taken_as : Option Stated → Stated → Bool
is_taken_as None x = false
is_taken_as (Some y) x = same_tree (tree y) (tree x)

abbrev pub is_given : Holder → Name → Stated → Bool
is_given h n x = is_taken_as (value_at h.used n) x

abbrev pub is_value_type : Kind → Bool
is_value_type IsValueType = true
is_value_type k = false

-- the tree of one of the types that are used
abbrev pub is_used_value : Holder → Stated → Bool
is_used_value h v = list_any (λ e. is_value_type (kind_of e.1) && same_tree (tree (untyped e.1)) (tree v)) h.used

-- ---- values: a handle, not inside a used type, of a resource whose root name the holder does not have

-- what stands over places with these types
abbrev pub stated_at : {A : Type 0} → Shape → List (Option (Stated × A)) → Stated
stated_at s os = over s (map (option_map (λ x. x.0)) os)

module _ (h : Holder) where
  abbrev pub place_fails : List (Option (Stated × Bool)) → Bool
  place_fails [] = false
  place_fails (None ∷ os) = place_fails os
  place_fails (Some x ∷ os) = (not (is_used_value h x.0) && x.1) || place_fails os

  abbrev pub value_at_label : Shape → List (Option (Stated × Bool)) → Bool
  value_at_label (resource n) os = false
  value_at_label (resource_alias n) os = false
  value_at_label (own_of s) os = not (has_name h.roots (root_name (stated_at (own_of s) os)))
  value_at_label (borrow_of s) os = not (has_name h.roots (root_name (stated_at (borrow_of s) os)))
  value_at_label s os = place_fails os

  abbrev pub value_fails : Stated → Bool
  value_fails v = not (is_used_value h v) && folded value_at_label v

-- ---- items

-- A test asks for an item's name, what holds it, and whether it stands in an outer import.
abbrev pub WritingTest : Type 0
WritingTest = Name → Holder → Bool → Bool

-- a use, the identifier of its interface, and the test of that interface's types alone
pub record Needed : Type 0 where
  pub name : Name
  pub by : Used
  pub types : Bool → Bool

-- what is found of each place: its test; the test of its type exports alone; the uses below it; whether it fails as an imported
-- package
pub record Found : Type 0 where
  pub test : WritingTest
  pub types : Bool → Bool
  pub uses : List Needed
  pub as_package : Bool

-- some interface reached by uses has no identifier
abbrev pub some_unnamed : List Used → Bool
some_unnamed us =
    list_any (λ u. is_none (identifier_of u.interface) || list_any (λ x. is_none (identifier_of x)) (reached u.interface)) us

abbrev pub Item : Type 0
Item = Name × (Stated × Found)

abbrev pub plain : List Item → List (Name × Stated)
plain es = map (λ e. (e.0, e.1.0)) es

-- an item that no use gives fails
abbrev pub some_fails : Holder → Bool → List Item → Bool
some_fails h outer es = list_any (λ e. not (is_given h e.0 e.1.0) && e.1.1.test e.0 h outer) es

abbrev pub used_of : Parts Found → List Used
used_of p = map (λ u. u.0) p.uses

abbrev pub interface_fails : List Used → List Item → Bool → Bool
interface_fails us es outer = some_unnamed us || some_fails (holder us (plain es)) outer es

abbrev pub type_items : List Item → List Item
type_items es = filter (λ e. is_type (kind_of e.1.0)) es

abbrev pub needed_from : Used × Found → Option Name → List Needed
needed_from u None = []
needed_from u (Some n) = record { name = n; by = u.0; types = u.1.types } ∷ []

abbrev pub needs_of_use : Used × Found → List Needed
needs_of_use u = u.1.uses ++ needed_from u (identifier_of u.0.interface)

abbrev pub below_items : List Item → List Needed
below_items es = flat_map (λ e. e.1.1.uses) es

-- what a component type and its items use
abbrev pub all_needed : Parts Found → List Needed
all_needed p = flat_map needs_of_use p.uses ++ (below_items p.imports ++ below_items p.exports)

-- what is used stands there, as itself
abbrev pub stands_as : Option Stated → Option Stated → Bool
stands_as None o = true
stands_as (Some x) None = false
stands_as (Some x) (Some y) = same_tree (tree x) (tree y)

abbrev pub is_given_by : Option (Stated × Found) → Used → Bool
is_given_by None u = false
is_given_by (Some x) u = stands_as (item_in u.interface u) (given_in x.0 u)

-- a use that the imports do not give: in an outer import it fails; in a definition the interface is added, unless the name is
-- there
abbrev pub use_fails : Parts Found → Bool → Needed → Bool
use_fails p outer u = not (is_given_by (value_at p.imports u.name) u.by) && (outer || u.types outer)

abbrev pub with_roots : Holder → List Name → Holder
with_roots h ns = record { used = h.used; roots = h.roots ++ ns }

abbrev pub world_holder : Parts Found → Holder
world_holder p = with_roots (holder (used_of p) (plain p.imports)) (map root_of (filter is_fresh (plain p.exports)))

-- in an outer import a component type imports what it uses
abbrev pub world_fails : Parts Found → Bool → Bool
world_fails p outer =
    some_unnamed (used_of p) || list_any (use_fails p outer) (all_needed p)
    || (some_fails (world_holder p) outer p.imports || list_any (λ e. e.1.1.test e.0 (world_holder p) outer) p.exports)

-- what gives the exports of an imported package their uses: its own exports, and its imports under other names
abbrev pub over_exports : Parts Found → Parts Found
over_exports p = record p { imports = p.exports ++ p.imports }

-- an imported package: its imports are over imports, its exports over exports where it has them
abbrev pub package_fails : Parts Found → Bool
package_fails p =
    some_unnamed (used_of p)
    || (list_any (use_fails p true) (flat_map needs_of_use p.uses ++ below_items p.imports)
    || list_any (use_fails (over_exports p) true) (below_items p.exports))
    || (some_fails (world_holder p) true p.imports || list_any (λ e. e.1.1.test e.0 (world_holder p) true) p.exports)

abbrev pub any_value : Holder → List (Option (Stated × Found)) → Bool
any_value h [] = false
any_value h (None ∷ os) = any_value h os
any_value h (Some x ∷ os) = value_fails h x.0 || any_value h os

abbrev pub simple : WritingTest → Found
simple t = record { test = t; types = λ outer. false; uses = []; as_package = false }

abbrev pub found_component : Parts Found → Found
found_component p = record (simple (λ n h outer. world_fails p outer)) { as_package = package_fails p }

abbrev pub found_interface : Parts Found → Found
found_interface p = record {
  test = λ n h outer. interface_fails (used_of p) p.exports outer;
  types = interface_fails (used_of p) (type_items p.exports);
  uses = flat_map needs_of_use p.uses ++ below_items p.exports;
  as_package = false;
}

abbrev pub found_at : Shape → List (Option (Stated × Found)) → Found
found_at (func ps a) os = simple (λ n h outer. any_value h os)
found_at (type_of (func ps a)) os = simple (λ n h outer. any_value h os)
found_at (interface i us es) os = found_interface (parts_at (interface i us es) os)
found_at (type_of (interface i us es)) os = found_interface (parts_at (interface i us es) os)
found_at (world i us is es) os = found_component (parts_at (world i us is es) os)
found_at (type_of (world i us is es)) os = simple (λ n h outer. world_fails (parts_at (world i us is es) os) outer)
found_at (module_type m) os = simple (λ n h outer. not (writable_module m))
-- a module type as a type item
found_at (type_of (module_type m)) os = simple (λ n h outer. true)
-- a resource under another name, that no use gives
found_at (resource r) os = simple (λ n h outer. not (bytes_eq n r) && not (is_given h n (stated_at (resource r) os)))
found_at (resource_alias r) os = simple (λ n h outer. not (has_name h.roots (root_name (stated_at (resource_alias r) os))))
found_at (type_of s) os = simple (λ n h outer. value_fails h (stated_at s os))
-- a value item
found_at s os = simple (λ n h outer. true)

abbrev pub unwritable : Stated → WritingTest
unwritable x = (folded found_at x).test

-- ---- at the root

-- an outer import, beside all of them
abbrev pub outer_unwritable : List (Name × Stated) → Name × Stated → Bool
outer_unwritable outers e = unwritable e.1 e.0 (holder [] outers) true

-- an interface with identifier is written inside a component type
abbrev pub in_component : Kind → Option Name → Stated → Stated
in_component IsInterface (Some i) x = world_of None [] [] ((i, untyped x) ∷ [])
in_component k i x = x

abbrev pub as_defined : Stated → Stated
as_defined x = in_component (kind_of x) (identifier_of x) x

-- a definition, beside the outer imports
abbrev pub definition_unwritable : List (Name × Stated) → Name × Stated → Bool
definition_unwritable outers d = unwritable (as_defined d.1) d.0 (holder [] outers) false

-- an imported package's world, under the dependency's name
abbrev pub package_unwritable : Name × Stated → Bool
package_unwritable p = (folded found_at p.1).as_package

-- an alias of a value item
abbrev pub is_value : Kind → Bool
is_value IsValue = true
is_value k = false

abbrev pub alias_unwritable : Name × Stated → Bool
alias_unwritable a = is_value (kind_of a.1)
