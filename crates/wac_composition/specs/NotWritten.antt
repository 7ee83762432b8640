-- When a type cannot be written. `Writable` has the test, and a law ties both.
use Rattle.std.specs.Prelude.{◌≡◌, Bool, true, false, List, [], ◌++◌, map, Some, filter}
use Rattle.std.specs.Bool.{Decides}
use Rattle.wac_types_base.specs.declared.core_types.ModuleType.{ModuleType}
use Rattle.wac_types_base.specs.Entries.{Name, value_at}
use Rattle.wac_types_base.specs.Graph.{Among}
use Rattle.wac_types_base.specs.Collection.{Shape, resource, resource_alias, module_type, own_of, borrow_of}
use Rattle.wac_types_base.specs.Stated.{Stated, Kind, IsFunction, IsInstance, IsComponent, IsValue, IsResource, IsFunctionType, IsValueType, IsInterface, IsWorld, IsModuleType, Used, shape_of, places_of, kind_of, untyped, uses_of, imports_of, exports_of, identifier_of, root_name}
use Rattle.wac_types_base.specs.Tree.{tree}
use Rattle.wac_types_written.specs.Written.{is_type}
use Rattle.wac_composition.specs.Writable.{Holder, writable_module, has_items, item_in, given_in, is_fresh, root_of, holder, with_roots, some_unnamed, unwritable, package_unwritable}

-- ---- what stands in a holder

-- a use gives the item of that name, with its tree
pub record IsGiven (h : Holder) (n : Name) (x : Stated) : Type 0 where
  pub item : Stated
  pub taken : value_at h.used n ≡ Some item
  pub same : tree item ≡ tree x

-- a value type that is used has its tree
pub record IsUsed (h : Holder) (v : Stated) : Type 0 where
  pub name : Name
  pub item : Stated
  pub taken : Among (name, item) h.used
  pub kind : kind_of item ≡ IsValueType
  pub same : tree (untyped item) ≡ tree v

-- the resource at the end of its aliases stands there
abbrev pub HasRoot : Holder → Stated → Type 0
HasRoot h x = Among (root_name x) h.roots

-- ---- values

pub data Role : Type 0 where
  Handle : Role
  Resource : Role
  Compound : Role

abbrev pub role : Shape → Role
role (own_of s) = Handle
role (borrow_of s) = Handle
role (resource n) = Resource
role (resource_alias n) = Resource
role s = Compound

-- A handle stands in the value type, and not inside a type that is used, whose resource does not stand there.
pub data Dangles (h : Holder) : Stated → Type 0 where
  handle : {v : Stated} → role (shape_of v) ≡ Handle → (IsUsed h v → ⊥) → (HasRoot h v → ⊥) → Dangles h v
  part : {v u : Stated} → role (shape_of v) ≡ Compound → (IsUsed h v → ⊥) → Among (Some u) (places_of v) → Dangles h u
      → Dangles h v

-- ---- what is used

-- these uses and items need that use: it is one of them, or below an interface that is used or an item
pub data Needs : List Used → List (Name × Stated) → Used → Type 0 where
  a_use : {us : List Used} {es : List (Name × Stated)} {u : Used} → Among u us → Needs us es u
  under_use : {us : List Used} {es : List (Name × Stated)} {v : Used} (u : Used) → Among u us
      → has_items (kind_of u.interface) ≡ true → Needs (uses_of u.interface) (exports_of u.interface) v → Needs us es v
  under_item : {us : List Used} {es : List (Name × Stated)} {v : Used} (n : Name) (x : Stated) → Among (n, x) es
      → has_items (kind_of x) ≡ true → Needs (uses_of x) (exports_of x) v → Needs us es v

-- an instance that is imported under that name has the item that the use takes, with its tree
pub record IsImported (is : List (Name × Stated)) (n : Name) (u : Used) : Type 0 where
  pub interface : Stated
  pub there : value_at is n ≡ Some interface
  pub item : (x : Stated) → item_in u.interface u ≡ Some x
      → (y : Stated) × (given_in interface u ≡ Some y) × (tree x ≡ tree y)

abbrev pub type_exports : Stated → List (Name × Stated)
type_exports x = filter (λ e. is_type (kind_of e.1)) (exports_of x)

-- what stands in a component type: what it uses and imports, and the resources that it exports
abbrev pub component_holder : Stated → Holder
component_holder w = with_roots (holder (uses_of w) (imports_of w)) (map root_of (filter is_fresh (exports_of w)))

-- ---- items

mutual
  -- under that name in that holder; an outer import, or a part of one, imports all that it uses
  pub data CannotBeWritten (outer : Bool) : Holder → Name → Stated → Type 0 where
    a_value : {h : Holder} {n : Name} {x : Stated} → kind_of x ≡ IsValue → CannotBeWritten outer h n x
    core_items : {h : Holder} {n : Name} {x : Stated} (m : ModuleType) → shape_of x ≡ module_type m → writable_module m ≡ false
        → CannotBeWritten outer h n x
    module_as_type : {h : Holder} {n : Name} {x : Stated} → kind_of x ≡ IsModuleType → CannotBeWritten outer h n x
    -- a resource under another name than its own, that no use gives
    renamed : {h : Holder} {n : Name} {x : Stated} (r : Name) → shape_of x ≡ resource r → (n ≡ r → ⊥) → (IsGiven h n x → ⊥)
        → CannotBeWritten outer h n x
    -- an alias of a resource that does not stand there
    an_alias : {h : Holder} {n : Name} {x : Stated} (r : Name) → shape_of x ≡ resource_alias r → (HasRoot h x → ⊥)
        → CannotBeWritten outer h n x
    a_function : {h : Holder} {n : Name} {x v : Stated} → kind_of x ≡ IsFunction → Among (Some v) (places_of x) → Dangles h v
        → CannotBeWritten outer h n x
    a_function_type : {h : Holder} {n : Name} {x v : Stated} → kind_of x ≡ IsFunctionType → Among (Some v) (places_of x)
        → Dangles h v → CannotBeWritten outer h n x
    a_value_type : {h : Holder} {n : Name} {x : Stated} → kind_of x ≡ IsValueType → Dangles h (untyped x)
        → CannotBeWritten outer h n x
    an_instance : {h : Holder} {n : Name} {x : Stated} → kind_of x ≡ IsInstance → ItemsFail outer (uses_of x) (exports_of x)
        → CannotBeWritten outer h n x
    an_interface : {h : Holder} {n : Name} {x : Stated} → kind_of x ≡ IsInterface → ItemsFail outer (uses_of x) (exports_of x)
        → CannotBeWritten outer h n x
    a_component : {h : Holder} {n : Name} {x : Stated} → kind_of x ≡ IsComponent → ComponentFails outer x
        → CannotBeWritten outer h n x
    a_world : {h : Holder} {n : Name} {x : Stated} → kind_of x ≡ IsWorld → ComponentFails outer x → CannotBeWritten outer h n x

  -- the items of an interface, beside its uses
  pub data ItemsFail (outer : Bool) : List Used → List (Name × Stated) → Type 0 where
    unnamed : {us : List Used} {es : List (Name × Stated)} → some_unnamed us ≡ true → ItemsFail outer us es
    an_item : {us : List Used} {es : List (Name × Stated)} {n : Name} {x : Stated} → Among (n, x) es
        → (IsGiven (holder us es) n x → ⊥) → CannotBeWritten outer (holder us es) n x → ItemsFail outer us es

  pub data ComponentFails (outer : Bool) : Stated → Type 0 where
    unnamed_use : {w : Stated} → some_unnamed (uses_of w) ≡ true → ComponentFails outer w
    -- a use that no import gives, in an outer import
    not_imported : {w : Stated} {u : Used} (n : Name) → Needs (uses_of w) (imports_of w ++ exports_of w) u
        → identifier_of u.interface ≡ Some n → (IsImported (imports_of w) n u → ⊥) → outer ≡ true → ComponentFails outer w
    -- elsewhere the interface is added with its types alone, which cannot be written
    not_added : {w : Stated} {u : Used} (n : Name) → Needs (uses_of w) (imports_of w ++ exports_of w) u
        → identifier_of u.interface ≡ Some n → (IsImported (imports_of w) n u → ⊥)
        → has_items (kind_of u.interface) ≡ true → ItemsFail outer (uses_of u.interface) (type_exports u.interface)
        → ComponentFails outer w
    an_import : {w : Stated} {n : Name} {x : Stated} → Among (n, x) (imports_of w) → (IsGiven (component_holder w) n x → ⊥)
        → CannotBeWritten outer (component_holder w) n x → ComponentFails outer w
    an_export : {w : Stated} {n : Name} {x : Stated} → Among (n, x) (exports_of w)
        → CannotBeWritten outer (component_holder w) n x → ComponentFails outer w

-- ---- imported packages

-- what gives the exports of a package their uses: its own exports, and its imports under other names
abbrev pub given_to_exports : Stated → List (Name × Stated)
given_to_exports w = exports_of w ++ imports_of w

-- the component type of an imported package: its imports are over imports, its exports over exports where it has them
pub data PackageFails (w : Stated) : Type 0 where
  unnamed_in_package : some_unnamed (uses_of w) ≡ true → PackageFails w
  not_imported_by : {u : Used} (n : Name) → Needs (uses_of w) (imports_of w) u → identifier_of u.interface ≡ Some n
      → (IsImported (imports_of w) n u → ⊥) → PackageFails w
  not_given_by : {u : Used} (n : Name) → Needs [] (exports_of w) u → identifier_of u.interface ≡ Some n
      → (IsImported (given_to_exports w) n u → ⊥) → PackageFails w
  import_of_package : {n : Name} {x : Stated} → Among (n, x) (imports_of w) → (IsGiven (component_holder w) n x → ⊥)
      → CannotBeWritten true (component_holder w) n x → PackageFails w
  export_of_package : {n : Name} {x : Stated} → Among (n, x) (exports_of w) → CannotBeWritten true (component_holder w) n x
      → PackageFails w

pub record PackageCannotBeWritten (x : Stated) : Type 0 where
  pub component : kind_of x ≡ IsComponent
  pub fails : PackageFails x

-- The test says yes exactly of what cannot be written.
abbrev pub Test_of_writing : Type 0
Test_of_writing =
    (outer : Bool) (h : Holder) (n : Name) (x : Stated) → Decides (unwritable x n h outer) (CannotBeWritten outer h n x)

-- And that of packages.
abbrev pub Test_of_packages : Type 0
Test_of_packages = (n : Name) (x : Stated) → Decides (package_unwritable (n, x)) (PackageCannotBeWritten x)
