-- What a test answers of items.
use Rattle.std.specs.Prelude.{◌≡◌, ◌&&◌, ◌||◌, not, ℕ, Bool, true, false, List, [], ◌∷◌, take, Option, Some, None, is_some, option_map, slice_get, if◌then◌else◌}
use Rattle.std.specs.Bool.{Decides}
use Rattle.std.specs.List.{list_any}
use Rattle.wac_types_base.specs.declared.ids.InterfaceId.{InterfaceId}
use Rattle.wac_types_base.specs.declared.ids.WorldId.{WorldId}
use Rattle.wac_types_base.specs.declared.item.«Type».{«Type» as TypeKind}
use Rattle.wac_types_base.specs.declared.item.ItemKind.{ItemKind}
use Rattle.wac_types_base.specs.Record.{Collection}
use Rattle.wac_types_base.specs.Entries.{Name}
use Rattle.wac_types_base.specs.Collection.{Stands}
use Rattle.wac_types_base.specs.Stated.{Stated, Used, stated_of, world_of}
use Rattle.wac_composition.specs.Writable.{holder, is_given, item_in, given_in, stands_as, unwritable, as_defined}
use Rattle.wac_composition.specs.Writable.{Holder as Held}
use Rattle.wac_composition.specs.NotWritten.{component_holder, ComponentFails, PackageCannotBeWritten}
use Rattle.wac_types_parts.specs.declared.parts.Use.{Use}
use Rattle.wac_types_parts.specs.declared.parts.Item.{Item}
use Rattle.wac_types_base.specs.Parts.{identifier_in}
use Rattle.wac_types_parts.specs.Parts.{exports_of as exports_in, imports_of as imports_in, world_exports_of as world_exports_in, interface_in}
use Rattle.wac_writable.specs.declared.holder.Holder.{Holder}
use Rattle.wac_writable.specs.declared.writable.Test.{Test}
use Rattle.wac_writable.specs.declared.writable.Which.{Which}
use Rattle.wac_writable.specs.Unnamed.{KnowsAll, uses_unnamed}
use Rattle.wac_writable.specs.Holders.{Holds, TellsIn, interface_holder}
use Rattle.wac_writable.specs.Items.{item_unwritable}

-- ---- what is asked

-- whether the item cannot be written in what the holder has
abbrev pub TellsOf : Test → Holder → Item → Bool → Type 0
TellsOf t s x b = TellsIn t.types.now s x.kind (item_unwritable t.types.now t.is_outer x.name.now x.kind) b

-- where what is found of interfaces is true, this is so of the answer
abbrev pub TellsFound : Test → (Bool → Type 0) → Bool → Type 0
TellsFound t P b = KnowsAll t.types.now t.unnamed.now → P b

-- ---- items of an interface

abbrev pub is_tested : Which → ItemKind → Bool
is_tested Which.All k = true
is_tested Which.TypesOnly (ItemKind.Ty t) = true
is_tested Which.TypesOnly k = false

-- an item cannot be written that no use gives
abbrev pub ungiven_unwritable : Collection → Bool → Name × ItemKind → Held → Bool
ungiven_unwritable c outer e h = not (is_given h e.0 (stated_of c e.1)) && item_unwritable c outer e.0 e.1 h

-- and is tested
abbrev pub tested_unwritable : Collection → Bool → Which → Held → Name × ItemKind → Bool
tested_unwritable c outer which h e = is_tested which e.1 && ungiven_unwritable c outer e h

abbrev pub exports_unwritable : Collection → Bool → Which → InterfaceId → Held → Bool
exports_unwritable c outer which id h = list_any (tested_unwritable c outer which h) (exports_in c id)

-- an interface with these items cannot be written
abbrev pub interface_unwritable : Collection → Bool → Which → InterfaceId → Bool
interface_unwritable c outer which id =
    uses_unnamed c id || exports_unwritable c outer which id (interface_holder (stated_of c (ItemKind.Instance id)))

abbrev pub TellsUngiven : Test → Holder → Item → Bool → Type 0
TellsUngiven t s x b = TellsIn t.types.now s x.kind (ungiven_unwritable t.types.now t.is_outer (x.name.now, x.kind)) b

abbrev pub TellsTested : Test → Holder → Which → Item → Bool → Type 0
TellsTested t s which x b =
    TellsIn t.types.now s x.kind (λ h. tested_unwritable t.types.now t.is_outer which h (x.name.now, x.kind)) b

abbrev pub TellsExports : Test → Holder → Which → InterfaceId → Bool → Type 0
TellsExports t s which id b = (h : Held) → Holds t.types.now s h → b ≡ exports_unwritable t.types.now t.is_outer which id h

abbrev pub TellsInterface : Test → Which → InterfaceId → Bool → Type 0
TellsInterface t which id b = b ≡ interface_unwritable t.types.now t.is_outer which id

-- ---- items of a world

-- one of these items cannot be written that no use gives, and one of these
abbrev pub some_ungiven : Collection → Bool → Held → List (Name × ItemKind) → Bool
some_ungiven c outer h es = list_any (λ e. ungiven_unwritable c outer e h) es

abbrev pub some_unwritable : Collection → Bool → Held → List (Name × ItemKind) → Bool
some_unwritable c outer h es = list_any (λ e. item_unwritable c outer e.0 e.1 h) es

-- an import that no use gives, or an export, cannot be written
abbrev pub items_unwritable : Collection → Bool → WorldId → Held → Bool
items_unwritable c outer w h = some_ungiven c outer h (imports_in c w) || some_unwritable c outer h (world_exports_in c w)

abbrev pub TellsImports : Test → Holder → WorldId → Bool → Type 0
TellsImports t s w b = (h : Held) → Holds t.types.now s h → b ≡ some_ungiven t.types.now t.is_outer h (imports_in t.types.now w)

abbrev pub TellsWorldExports : Test → Holder → WorldId → Bool → Type 0
TellsWorldExports t s w b =
    (h : Held) → Holds t.types.now s h → b ≡ some_unwritable t.types.now t.is_outer h (world_exports_in t.types.now w)

abbrev pub TellsItems : Test → Holder → WorldId → Bool → Type 0
TellsItems t s w b = (h : Held) → Holds t.types.now s h → b ≡ items_unwritable t.types.now t.is_outer w h

-- beside its own
abbrev pub TellsItemsOfWorld : Test → WorldId → Bool → Type 0
TellsItemsOfWorld t w b =
    b ≡ items_unwritable t.types.now t.is_outer w (component_holder (stated_of t.types.now (ItemKind.Component w)))

-- whether a component type cannot be written
abbrev pub TellsWorld : Test → WorldId → Bool → Type 0
TellsWorld t w b = Decides b (ComponentFails t.is_outer (stated_of t.types.now (ItemKind.Component w)))

-- ---- at the root

-- the first that passes a test, by its place
abbrev pub IsFirst : {X : Type 0} → (X → Bool) → List X → Option ℕ → Type 0
IsFirst p xs None = list_any p xs ≡ false
IsFirst {X} p xs (Some i) = (x : X) × (slice_get xs i ≡ Some x) × (p x ≡ true) × (list_any p (take i xs) ≡ false)

abbrev pub import_unwritable : Test → Held → Name × ItemKind → Bool
import_unwritable t h e = item_unwritable t.types.now t.is_outer e.0 e.1 h

-- the place of the first import that cannot be written in what the holder has
abbrev pub TellsFirstUnwritten : Test → Holder → WorldId → Option ℕ → Type 0
TellsFirstUnwritten t s w o =
    KnowsAll t.types.now t.unnamed.now → (h : Held) → Holds t.types.now s h
    → IsFirst (import_unwritable t h) (imports_in t.types.now w) o

-- the place of the first that cannot be written beside all of them
abbrev pub TellsOuter : Test → WorldId → Option ℕ → Type 0
TellsOuter t w o =
    KnowsAll t.types.now t.unnamed.now
    → IsFirst (import_unwritable t (component_holder (stated_of t.types.now (ItemKind.Component w))))
    (imports_in t.types.now w) o

-- a component type that has an instance alone, under this name
abbrev pub wrapped : Name → Stated → Stated
wrapped n x = world_of None [] [] ((n, x) ∷ [])

-- the interface with identifier that a definition is
abbrev pub wrapped_in : Collection → ItemKind → Option InterfaceId
wrapped_in c (ItemKind.Ty (TypeKind.Interface i)) = if is_some (identifier_in (interface_in c i)) then Some i else None
wrapped_in c k = None

-- whether a component type cannot be written that has an interface alone, under any name
abbrev pub TellsWrapped : Test → InterfaceId → Bool → Type 0
TellsWrapped t i b =
    Stands t.types.now (ItemKind.Instance i) → (n : Name)
    → Decides b (ComponentFails t.is_outer (wrapped n (stated_of t.types.now (ItemKind.Instance i))))

-- whether the item, as it is defined, cannot be written in what the holder has
abbrev pub TellsDefinition : Test → Holder → Item → Bool → Type 0
TellsDefinition t s x b =
    TellsIn t.types.now s x.kind (λ h. unwritable (as_defined (stated_of t.types.now x.kind)) x.name.now h t.is_outer) b

-- whether the component type of a package that stands cannot be written
abbrev pub TellsPackage : Test → WorldId → Bool → Type 0
TellsPackage t w b =
    Stands t.types.now (ItemKind.Component w)
    → Decides b (PackageCannotBeWritten (stated_of t.types.now (ItemKind.Component w)))

-- whether an item that stands cannot be written where nothing stands beside it
abbrev pub TellsAlone : Test → Item → Bool → Type 0
TellsAlone t x b = Stands t.types.now x.kind → b ≡ item_unwritable t.types.now t.is_outer x.name.now x.kind (holder [] [])

-- ---- uses

-- a use, as it is stated
abbrev pub used_of : Collection → Use → Used
used_of c u = record { name = u.name.now; there = Some u.there.now; interface = stated_of c (ItemKind.Instance u.interface) }

-- an import has what is used, a resource with its tree
abbrev pub given_by : Collection → ItemKind → Use → Bool
given_by c import u =
    stands_as (item_in (stated_of c (ItemKind.Instance u.interface)) (used_of c u)) (given_in (stated_of c import) (used_of c u))

-- what there is stands for the item
abbrev pub stands_in : Collection → ItemKind → Option ItemKind → Bool
stands_in c k o = stands_as (Some (stated_of c k)) (option_map (stated_of c) o)

-- of an import that stands, whether it has what is used
abbrev pub TellsGivenBy : Test → ItemKind → Use → Bool → Type 0
TellsGivenBy t import u b = Stands t.types.now import → b ≡ given_by t.types.now import u
