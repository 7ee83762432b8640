-- What holds of a scope of written types with items of all sorts while it is being written, and of the types that stand around
-- it.
use Rattle.std.specs.Prelude.{◌≡◌, ℕ, ◌+◌, Bool, true, false, List, [], ◌∷◌, ◌++◌, length, take, Result, Option, Some, None, slice_get, IfOk, IfSome, IfNone, ◌⊎◌}
use Rattle.std.specs.declared.alloc.Global.{Global}
use Rattle.std.specs.declared.vec.Vec.{Vec}
use Rattle.wac_types_base.specs.declared.ids.InterfaceId.{InterfaceId}
use Rattle.wac_types_base.specs.declared.ids.ModuleTypeId.{ModuleTypeId}
use Rattle.wac_types_base.specs.declared.item.ItemKind.{ItemKind}
use Rattle.wac_types_base.specs.declared.item.«Type».{«Type» as TypeKind}
use Rattle.wac_types_base.specs.Record.{Collection}
use Rattle.wac_types_base.specs.Graph.{Among}
use Rattle.wac_types_base.specs.Entries.{Name, names_of, value_at, has_name, AreDistinct}
use Rattle.wac_types_base.specs.Parts.{identifier_in}
use Rattle.wac_types_base.specs.Collection.{Stands}
use Rattle.wac_types_base.specs.Tree.{Tree}
use Rattle.wac_types_fit.specs.Trees.{tree_in}
use Rattle.wac_graph_bytes.specs.declared.value.Sort.{Sort}
use Rattle.wac_graph_bytes.specs.declared.value.Sort.TheVariants as sort
use Rattle.wac_graph_bytes.specs.declared.value.Description.{Description}
use Rattle.wac_graph_bytes.specs.declared.value.Description.TheVariants as desc
use Rattle.wac_graph_bytes.specs.declared.entry.Declaration.{Declaration}
use Rattle.wac_graph_bytes.specs.Counting.{description_sort}
use Rattle.wac_graph_bytes.specs.Entries.{Declarations, End}
use Rattle.wac_graph_bytes.specs.Typing.{◌>>=◌, Worlds, Meaning, Scope, space, with_one, with_core, Inside, nothing_inside, adds_inside, declared, described, found_at, found, item_tree, type_tree, type_at, item_of, type_in, export_named, instance_tree, component_tree}
use Rattle.wac_graph_bytes.specs.Typing as typing
use Rattle.wac_graph_bytes.specs.Views.{before, declarations_of}
use Rattle.wac_graph_scopes.specs.declared.scope.KnownTypes.{KnownTypes}
use Rattle.wac_graph_scopes.specs.declared.items.ItemScope.{ItemScope}
use Rattle.wac_graph_scopes.specs.declared.items.Around.{Around}
use Rattle.wac_graph_scopes.specs.declared.items.PlacedInterface.{PlacedInterface}
use Rattle.wac_types_parts.specs.declared.parts.Item.{Item}
use Rattle.wac_types_parts.specs.declared.parts.Use.{Use}
use Rattle.wac_graph_scopes.specs.declared.used.UsedIndex.{UsedIndex}
use Rattle.wac_graph_scopes.specs.Used.{Used, used_at, IsUsedAs}
use Rattle.wac_types_parts.specs.Parts.{interface_in, exports_of, uses_of, IsUsedKind, IsFresh}
use Rattle.wac_graph_scopes.specs.Scopes.{Extends, AreKnown, IsScope, IsEntryIn, IsTypeDeclaration}

-- The types can be read, and the counters of the other sorts are true.
pub record IsItemScope (w : Worlds) (c : Collection) (outer : List Scope) (i : Inside) (s : ItemScope) : Type 0 where
  pub written : IsScope w c outer i s.types
  pub cores : s.cores ≡ length i.here.cores
  pub funcs : s.funcs ≡ length i.here.funcs
  pub components : s.components ≡ length i.here.components
  pub instances : s.instances ≡ length i.here.instances
  pub modules : s.modules ≡ length i.here.modules

-- The scope stands again, extended; nothing is imported and nothing exported.
pub record ItemsGo (w : Worlds) (c : Collection) (outer : List Scope) (i after : Inside) (s : ItemScope) : Type 0 where
  pub stands : IsItemScope w c outer after s
  pub extends : Extends i.here after.here
  pub imports : after.imports ≡ i.imports
  pub exports : after.exports ≡ i.exports

-- and the index stands for the type with that tree
pub record GivesType (w : Worlds) (c : Collection) (outer : List Scope) (i : Inside) (t : Tree) (s : ItemScope)
    (k : ℕ) : Type 0 where
  pub after : Inside
  pub goes : ItemsGo w c outer i after s
  pub index : type_at w (after.here ∷ outer) k ≡ Some t

-- the sort of an item; a value has none
abbrev pub sort_of : ItemKind → Option Sort
sort_of (ItemKind.Ty t) = Some sort.Ty
sort_of (ItemKind.Func f) = Some sort.Func
sort_of (ItemKind.Instance i) = Some sort.Instance
sort_of (ItemKind.Component w) = Some sort.Component
sort_of (ItemKind.Module m) = Some sort.Module
sort_of (ItemKind.Value v) = None

-- the description is one of the item's sort
abbrev pub IsSorted : ItemKind → Description → Type 0
IsSorted kind d = sort_of kind ≡ Some (description_sort d)

-- and what is so described is the item, whatever its name
pub record Describes (w : Worlds) (c : Collection) (outer : List Scope) (i : Inside) (kind : ItemKind) (s : ItemScope)
    (d : Description) : Type 0 where
  pub after : Inside
  pub goes : ItemsGo w c outer i after s
  pub sorted : IsSorted kind d
  pub reads : (n : Name) → described w (after.here ∷ outer) n d ≡ Some (description_sort d, tree_in c kind)

-- The scope stands, extended, with the item behind the other exports.
pub record ExportsItem (w : Worlds) (c : Collection) (outer : List Scope) (i : Inside) (n : Name) (t : Tree)
    (s : ItemScope) : Type 0 where
  pub after : Inside
  pub stands : IsItemScope w c outer after s
  pub extends : Extends i.here after.here
  pub imports : after.imports ≡ i.imports
  pub exports : after.exports ≡ i.exports ++ (n, t) ∷ []

-- And the export's index stands for it.
pub record ExportsIndex (w : Worlds) (c : Collection) (outer : List Scope) (i : Inside) (n : Name) (kind : ItemKind) (s : ItemScope)
    (k : ℕ) : Type 0 where
  pub exported : ExportsItem w c outer i n (tree_in c kind) s
  pub means : (x : Sort) → sort_of kind ≡ Some x → found (exported.after.here ∷ outer) x k ≡ Some (typing.Item n x (tree_in c kind))

-- ---- types that stand around

-- the index, so many scopes further out, stands for the type that the item is
pub record IsTypeItem (w : Worlds) (ss : List Scope) (depth : ℕ) (t : Tree) (k : ℕ) : Type 0 where
  pub there : Tree
  pub item : item_of there ≡ t
  pub reads : (found_at ss depth sort.Ty k >>= type_tree w) ≡ Some there

-- a resource or a value type that stands, by its index
pub record IsUsedType (w : Worlds) (c : Collection) (ss : List Scope) (depth : ℕ) (u : UsedIndex) : Type 0 where
  pub stands : Stands c u.item
  pub kind : IsUsedKind u.item
  pub index : IsTypeItem w ss depth (tree_in c u.item) u.index

-- all of them are true, in scopes so far out
abbrev pub AreUsed : Worlds → Collection → List Scope → ℕ → Used → Type 0
AreUsed w c ss depth us = (i n : Name) (u : UsedIndex) → used_at us i n ≡ Some u → IsUsedType w c ss depth u

-- the same whatever stands in the innermost scope
abbrev pub AreAround : Worlds → Collection → List Scope → ℕ → Used → Type 0
AreAround w c outer depth us = (here : Scope) → AreUsed w c (here ∷ outer) depth us

-- the index stands for the type that a type item is
abbrev pub IsNotable : Worlds → Collection → List Scope → ItemKind → ℕ → Type 0
IsNotable w c ss (ItemKind.Ty t) k = Stands c (ItemKind.Ty t) × (type_at w ss k ≡ type_in (tree_in c (ItemKind.Ty t)))
IsNotable w c ss kind k = Unit {0}

-- ---- interfaces and worlds

-- the tree of the item of that name
abbrev pub IsTreeOf : Collection → List (Name × ItemKind) → Name → Tree → Type 0
IsTreeOf c es n t = (k : ItemKind) × (value_at es n ≡ Some k) × (t ≡ tree_in c k)

abbrev pub AreTreesOf : Collection → List (Name × ItemKind) → List (Name × Tree) → Type 0
AreTreesOf c es xs = (n : Name) (t : Tree) → Among (n, t) xs → IsTreeOf c es n t

-- The scope stands, with these of the imports and these of the exports, each once and with its tree.
pub record Writing (w : Worlds) (c : Collection) (outer : List Scope) (is es : List (Name × ItemKind)) (s : ItemScope)
    (imported exported : List Name) : Type 0 where
  pub inside : Inside
  pub stands : IsItemScope w c outer inside s
  pub imports : names_of inside.imports ≡ imported
  pub imports_once : AreDistinct imported
  pub import_trees : AreTreesOf c is inside.imports
  pub exports : names_of inside.exports ≡ exported
  pub exports_once : AreDistinct exported
  pub export_trees : AreTreesOf c es inside.exports

-- in those scopes the declarations state the instance type with that tree
abbrev pub StatesInstance : Worlds → List Scope → Tree → Declarations → Type 0
StatesInstance w outer t ds = (declared w outer nothing_inside ds >>= instance_tree) ≡ Some t

abbrev pub StatesComponent : Worlds → List Scope → Tree → Declarations → Type 0
StatesComponent w outer t ds = (declared w outer nothing_inside ds >>= component_tree) ≡ Some t

-- ---- whatever scope of the collection it was, this is answered

-- one more type stands, with that index
pub record HasType (w : Worlds) (c : Collection) (outer : List Scope) (i : Inside) (m : Meaning) (s : ItemScope)
    (k : ℕ) : Type 0 where
  pub goes : ItemsGo w c outer i (adds_inside sort.Ty m i) s
  pub index : k ≡ length i.here.types

abbrev pub AddsType : {E : Type 0} → Declaration → ItemScope → ItemScope → Result ℕ E → Type 0
AddsType d old new r =
    (w : Worlds) (c : Collection) (outer : List Scope) (i : Inside) (m : Meaning) → IsItemScope w c outer i old
    → declared w outer i (before d End) ≡ Some (adds_inside sort.Ty m i) → IfOk r (HasType w c outer i m new)

abbrev pub adds_core : Tree → Inside → Inside
adds_core t i = record i { here = with_core t i.here }

pub record HasCore (w : Worlds) (c : Collection) (outer : List Scope) (i : Inside) (t : Tree) (s : ItemScope)
    (k : ℕ) : Type 0 where
  pub goes : ItemsGo w c outer i (adds_core t i) s
  pub index : k ≡ length i.here.cores

abbrev pub AddsCore : {E : Type 0} → Declaration → ItemScope → ItemScope → Result ℕ E → Type 0
AddsCore d old new r = (w : Worlds) (c : Collection) (outer : List Scope) (i : Inside) (t : Tree) → IsItemScope w c outer i old
    → declared w outer i (before d End) ≡ Some (adds_core t i) → IfOk r (HasCore w c outer i t new)

-- how many items of a description's sort stand there
abbrev pub count_of : Description → ItemScope → ℕ
count_of (desc.Module k) s = s.modules
count_of (desc.Func k) s = s.funcs
count_of (desc.Equal k) s = s.types.types
count_of desc.Resource s = s.types.types
count_of (desc.Component k) s = s.components
count_of (desc.Instance k) s = s.instances

abbrev pub with_count : Description → ℕ → ItemScope → ItemScope
with_count (desc.Module k) n s = record s { modules = n }
with_count (desc.Func k) n s = record s { funcs = n }
with_count (desc.Equal k) n s = record s { types = record s.types { types = n } }
with_count desc.Resource n s = record s { types = record s.types { types = n } }
with_count (desc.Component k) n s = record s { components = n }
with_count (desc.Instance k) n s = record s { instances = n }

-- the scope, where these types are known
abbrev pub with_known : KnownTypes → ItemScope → ItemScope
with_known ks s = record s { types = record s.types { known = ks } }

-- one more item stands, with that index: an import or an export
pub record HasItem (w : Worlds) (c : Collection) (outer : List Scope) (i j : Inside) (d : Description) (s : ItemScope)
    (k : ℕ) : Type 0 where
  pub stands : IsItemScope w c outer j s
  pub index : k ≡ length (space (description_sort d) i.here)

abbrev pub AddsItem : {E : Type 0} → Declaration → Description → ItemScope → ItemScope → Result ℕ E → Type 0
AddsItem e d old new r =
    (w : Worlds) (c : Collection) (outer : List Scope) (i j : Inside) (m : Meaning) → IsItemScope w c outer i old
    → declared w outer i (before e End) ≡ Some j → j.here ≡ with_one (description_sort d) m i.here
    → IfOk r (HasItem w c outer i j d new)

-- the scope goes on, and the index stands there for the type that the item is
pub record GivesItem (w : Worlds) (c : Collection) (outer : List Scope) (i : Inside) (t : Tree) (s : ItemScope)
    (k : ℕ) : Type 0 where
  pub after : Inside
  pub goes : ItemsGo w c outer i after s
  pub index : IsTypeItem w (after.here ∷ outer) 0 t k

abbrev pub AliasesOuter : {E : Type 0} → ℕ → ℕ → ItemScope → ItemScope → Result ℕ E → Type 0
AliasesOuter depth k old new r =
    (w : Worlds) (c : Collection) (outer : List Scope) (i : Inside) (t : Tree) → IsItemScope w c outer i old
    → IsTypeItem w (i.here ∷ outer) depth t k → IfOk r (GivesItem w c outer i t new)

-- the scope goes on, and an index stands for the same as this one
pub record GivesMeaning (w : Worlds) (c : Collection) (outer : List Scope) (i : Inside) (m : Meaning) (s : ItemScope)
    (k : ℕ) : Type 0 where
  pub after : Inside
  pub goes : ItemsGo w c outer i after s
  pub index : slice_get after.here.types k ≡ Some m

abbrev pub RepeatsType : {E : Type 0} → ℕ → ItemScope → ItemScope → Result ℕ E → Type 0
RepeatsType k old new r = (w : Worlds) (c : Collection) (outer : List Scope) (i : Inside) (m : Meaning) → IsItemScope w c outer i old
    → slice_get i.here.types k ≡ Some m → IfOk r (GivesMeaning w c outer i m new)

-- the index stands for an instance with that tree
abbrev pub IsInstanceAt : Worlds → List Scope → Tree → ℕ → Type 0
IsInstanceAt w ss t k = (m : Meaning) × (found ss sort.Instance k ≡ Some m) × (item_tree w m ≡ Some t)

-- an alias of a type that an instance exports
abbrev pub AliasesExport : {E : Type 0} → ℕ → Name → ItemScope → ItemScope → Result ℕ E → Type 0
AliasesExport k n old new r =
    (w : Worlds) (c : Collection) (outer : List Scope) (i : Inside) (t u x : Tree) → IsItemScope w c outer i old
    → IsInstanceAt w (i.here ∷ outer) t k → export_named n t ≡ Some u → type_in u ≡ Some x → item_of x ≡ u
    → IfOk r (GivesItem w c outer i u new)

-- what stands for a type item is remembered
abbrev pub Notes : {U E : Type 0} → Collection → ItemKind → ℕ → ItemScope → ItemScope → Result U E → Type 0
Notes c kind k old new r = (w : Worlds) (outer : List Scope) (i : Inside) → IsItemScope w c outer i old
    → IsNotable w c (i.here ∷ outer) kind k → IfOk r (λ _. IsItemScope w c outer i new)

-- what is found of the types that stand around is that item's type
abbrev pub FindsUsed : {E : Type 0} → Collection → Used → ItemKind → Result (Option ℕ) E → Type 0
FindsUsed c us item r = (w : Worlds) (ss : List Scope) (depth : ℕ) → AreUsed w c ss depth us
    → IfOk r (λ o. IfSome o (IsTypeItem w ss depth (tree_in c item)))

-- and it is the one under that identifier and that name
abbrev pub FindsUnder : {E : Type 0} → Collection → Used → Name → Name → ItemKind → Result (Option ℕ) E → Type 0
FindsUnder c us i n item r = Stands c item → IsUsedKind item → IfOk r (λ o. IfSome o (IsUsedAs c us i n item))

-- nothing is so
abbrev pub Never : {X : Type 0} → (X → Type 0) → Type 0
Never P = (x : _) → P x → ⊥

-- nothing is found only where there is nothing of the kind
abbrev pub Misses : {X E : Type 0} → Collection → ItemKind → (X → Type 0) → Result (Option X) E → Type 0
Misses c item P r = Stands c item → IfOk r (λ o. IfNone o (Never P))

-- the type that a use takes, which stands there under its name
abbrev pub IsUsedBy : Collection → Used → Use → ItemKind → ℕ → Type 0
IsUsedBy c us u item k = (i : Name) × (identifier_in (interface_in c u.interface) ≡ Some i) × IsUsedAs c us i u.there.now item k

abbrev pub MayGive : Worlds → Collection → List Scope → Inside → Tree → ItemScope → Option ℕ → Type 0
MayGive w c outer i t s None = IsItemScope w c outer i s
MayGive w c outer i t s (Some k) = GivesItem w c outer i t s k

-- an alias of a type that stands around, if it does
abbrev pub AliasesUsed : {E : Type 0} → Collection → Around → ItemKind → ItemScope → ItemScope → Result (Option ℕ) E → Type 0
AliasesUsed c a item old new r = (w : Worlds) (outer : List Scope) (i : Inside) → IsItemScope w c outer i old
    → AreUsed w c (i.here ∷ outer) a.depth a.used.now
    → IfOk r (MayGive w c outer i (tree_in c item) new)

-- whether the interface has that export, which is the item
abbrev pub ExportsTaken : {E : Type 0} → Collection → InterfaceId → Name → ItemKind → Result Bool E → Type 0
ExportsTaken c id n item r =
    Stands c item → IsUsedKind item → IfOk r (λ yes. yes ≡ true → IsTreeOf c (exports_of c id) n (tree_in c item))

-- nor is it said of an export that is the item
abbrev pub NotTaken : {E : Type 0} → Collection → InterfaceId → Name → ItemKind → Result Bool E → Type 0
NotTaken c id n item r =
    Stands c item → IfOk r (λ yes. yes ≡ false → IsTreeOf c (exports_of c id) n (tree_in c item) → ⊥)

-- the name at the place, if there is one, is among these
abbrev pub HasNameAt : List Name → ℕ → List Name → Type 0
HasNameAt ns at given = (n : Name) → slice_get ns at ≡ Some n → has_name given n ≡ true

-- an export of the interface is written, or nothing is
abbrev pub MayExport : Worlds → Collection → List Scope → Inside → List (Name × ItemKind) → Name → ItemScope → Bool → Type 0
MayExport w c outer i es n s false = (after : Inside) × ItemsGo w c outer i after s
MayExport w c outer i es n s true = (t : Tree) × IsTreeOf c es n t × ExportsItem w c outer i n t s

abbrev pub ExportsUsed : {E : Type 0} → Collection → InterfaceId → Use → ItemKind → ℕ → ItemScope → ItemScope → Result Bool E
    → Type 0
ExportsUsed c id used item k old new r =
    (w : Worlds) (outer : List Scope) (i : Inside) → IsItemScope w c outer i old → Stands c item → IsUsedKind item
    → IsTypeItem w (i.here ∷ outer) 0 (tree_in c item) k → IfOk r (MayExport w c outer i (exports_of c id) used.name.now new)

-- what is used around the interface stands in the scopes
abbrev pub StandsAround : Worlds → List Scope → PlacedInterface → Type 0
StandsAround w outer p = AreAround w p.types.now outer p.around.depth p.around.used.now

abbrev pub TakesUse : {E : Type 0} → PlacedInterface → Use → ItemScope → ItemScope → Result Bool E → Type 0
TakesUse p used old new r = (w : Worlds) (outer : List Scope) (i : Inside) → IsItemScope w p.types.now outer i old
    → AreUsed w p.types.now (i.here ∷ outer) p.around.depth p.around.used.now
    → IfOk r (MayExport w p.types.now outer i (exports_of p.types.now p.id) used.name.now new)

-- the items of an interface whose names these are, each with its tree
abbrev pub WritesSome : Worlds → Collection → List Scope → InterfaceId → ItemScope → List Name → Type 0
WritesSome w c outer id s given = Writing w c outer [] (exports_of c id) s [] given

-- those that its uses before this one give
pub record UsesTaken (w : Worlds) (c : Collection) (outer : List Scope) (id : InterfaceId) (at : ℕ) (s : ItemScope)
    (given : List Name) : Type 0 where
  pub writing : WritesSome w c outer id s given
  pub before_it : (n : Name) → Among n given → Among n (take at (names_of (uses_of c id)))

abbrev pub TakesAt : {U E : Type 0} → PlacedInterface → ℕ → ItemScope → List Name → ItemScope → List Name → Result U E → Type 0
TakesAt p at old before_names new names r = (w : Worlds) (outer : List Scope) → StandsAround w outer p
    → UsesTaken w p.types.now outer p.id at old before_names
    → IfOk r (λ _. UsesTaken w p.types.now outer p.id (at + 1) new names)

abbrev pub GrowsBy : Name → List Name → List Name → Type 0
GrowsBy n old new = (m : Name) → Among m new → Among m old ⊎ (m ≡ n)

abbrev pub TakesNamed : {U E : Type 0} → PlacedInterface → Use → ItemScope → List Name → ItemScope → List Name → Result U E
    → Type 0
TakesNamed p used old before_names new names r = (w : Worlds) (outer : List Scope) → StandsAround w outer p
    → WritesSome w p.types.now outer p.id old before_names → (Among used.name.now before_names → ⊥)
    → IfOk r (λ _. WritesSome w p.types.now outer p.id new names × GrowsBy used.name.now before_names names)

abbrev pub BeginsInstance : {E : Type 0} → PlacedInterface → ItemScope → ItemScope → Result (List Name) E → Type 0
BeginsInstance p old new r = (w : Worlds) (outer : List Scope) → StandsAround w outer p
    → WritesSome w p.types.now outer p.id old [] → IfOk r (WritesSome w p.types.now outer p.id new)

abbrev pub KeepsWriting : {U E : Type 0} → Collection → InterfaceId → ItemScope → List Name → ItemScope → List Name → Result U E
    → Type 0
KeepsWriting c id old before_names new names r = (w : Worlds) (outer : List Scope) → WritesSome w c outer id old before_names
    → IfOk r (λ _. WritesSome w c outer id new names)

abbrev pub ExportsDescribed : {E : Type 0} → Collection → Item → Description → ItemScope → ItemScope → Result ℕ E → Type 0
ExportsDescribed c x d old new r =
    (w : Worlds) (outer : List Scope) (i : Inside) → IsItemScope w c outer i old → Stands c x.kind → IsSorted x.kind d
    → described w (i.here ∷ outer) x.name.now d ≡ Some (description_sort d, tree_in c x.kind)
    → IfOk r (ExportsIndex w c outer i x.name.now x.kind new)

abbrev pub ExportsFresh : {U E : Type 0} → Collection → Item → ItemScope → ItemScope → Result U E → Type 0
ExportsFresh c x old new r = (w : Worlds) (outer : List Scope) (i : Inside) → IsItemScope w c outer i old
    → IsFresh c x.name.now x.kind → IfOk r (λ _. ExportsItem w c outer i x.name.now (tree_in c x.kind) new)

-- ---- types of their own

-- the description is the type at an index that stands for a type entry of its own
abbrev pub IsEntryOf : Worlds → List Scope → List Declaration → Description → Type 0
IsEntryOf w outer ds d = (k : ℕ) × (d ≡ desc.Equal k) × IsEntryIn w outer ds k

abbrev pub EntersType : {E : Type 0} → Declaration → ItemScope → ItemScope → Result ℕ E → Type 0
EntersType d old new r = IsTypeDeclaration d → (w : Worlds) (c : Collection) (outer : List Scope) (i : Inside)
    → IsItemScope w c outer i old → IfOk r (IsEntryIn w outer new.types.declarations.items)

abbrev pub MakesItem : {E : Type 0} → Collection → ItemScope → ItemScope → Result ℕ E → Type 0
MakesItem c old new r = (w : Worlds) (outer : List Scope) (i : Inside) → IsItemScope w c outer i old
    → IfOk r (IsEntryIn w outer new.types.declarations.items)

abbrev pub DescribesEntry : {E : Type 0} → Collection → ItemScope → ItemScope → Result Description E → Type 0
DescribesEntry c old new r = (w : Worlds) (outer : List Scope) (i : Inside) → IsItemScope w c outer i old
    → IfOk r (IsEntryOf w outer new.types.declarations.items)

-- the same of another collection, where these of its types are known
abbrev pub DescribesOwn : {E : Type 0} → Collection → ItemScope → KnownTypes → ItemScope → Result Description E → Type 0
DescribesOwn other old known new r = (w : Worlds) (c : Collection) (outer : List Scope) (i : Inside)
    → IsItemScope w c outer i old → AreKnown w (i.here ∷ outer) other known
    → IfOk r (IsEntryOf w outer new.types.declarations.items)

-- an interface or a world
abbrev pub HasEntry : ItemKind → Type 0
HasEntry (ItemKind.Ty (TypeKind.Interface i)) = Unit {0}
HasEntry (ItemKind.Ty (TypeKind.World w)) = Unit {0}
HasEntry k = ⊥

-- any but a resource
abbrev pub IsNoResource : TypeKind → Type 0
IsNoResource (TypeKind.Resource r) = ⊥
IsNoResource t = Unit {0}

-- ---- types of things

abbrev pub StatesType : {E : Type 0} → Collection → ItemKind → ItemScope → ItemScope → Result ℕ E → Type 0
StatesType c kind old new r = (w : Worlds) (outer : List Scope) (i : Inside) → IsItemScope w c outer i old
    → IfOk r (GivesType w c outer i (tree_in c kind) new)

abbrev pub StatesTypeItem : {E : Type 0} → Collection → TypeKind → ItemScope → ItemScope → Result ℕ E → Type 0
StatesTypeItem c t old new r = (w : Worlds) (outer : List Scope) (i : Inside) → IsItemScope w c outer i old
    → IfOk r (GivesItem w c outer i (tree_in c (ItemKind.Ty t)) new)

-- the scope goes on, and the index stands for the core module type
pub record GivesCore (w : Worlds) (c : Collection) (outer : List Scope) (i : Inside) (t : Tree) (s : ItemScope)
    (k : ℕ) : Type 0 where
  pub after : Inside
  pub goes : ItemsGo w c outer i after s
  pub index : slice_get after.here.cores k ≡ Some t

abbrev pub StatesModule : {E : Type 0} → Collection → ModuleTypeId → ItemScope → ItemScope → Result ℕ E → Type 0
StatesModule c id old new r = (w : Worlds) (outer : List Scope) (i : Inside) → IsItemScope w c outer i old
    → IfOk r (GivesCore w c outer i (tree_in c (ItemKind.Module id)) new)

abbrev pub DescribesSimply : {E : Type 0} → Collection → ItemKind → ItemScope → ItemScope → Result Description E → Type 0
DescribesSimply c kind old new r =
    (w : Worlds) (outer : List Scope) (i : Inside) → IsItemScope w c outer i old → IfOk r (Describes w c outer i kind new)

-- what a thing of the type at an index is, or that type itself
abbrev pub described_as : ItemKind → ℕ → Description
described_as (ItemKind.Instance id) k = desc.Instance k
described_as (ItemKind.Component id) k = desc.Component k
described_as kind k = desc.Equal k

-- ---- instances

-- the type of what the kind names, which stands
abbrev pub StatesClosed : {E : Type 0} → Collection → ItemKind → ItemScope → ItemScope → Result ℕ E → Type 0
StatesClosed c kind old new r = Stands c kind → StatesType c kind old new r

abbrev pub StatesItem : {E : Type 0} → Collection → Around → ItemKind → ItemScope → ItemScope → Result ℕ E → Type 0
StatesItem c a kind old new r = Stands c kind → (w : Worlds) (outer : List Scope) (i : Inside) → IsItemScope w c outer i old
    → AreUsed w c (i.here ∷ outer) a.depth a.used.now
    → IfOk r (GivesType w c outer i (tree_in c kind) new)

abbrev pub DescribesItem : {E : Type 0} → Collection → Around → ItemKind → ItemScope → ItemScope → Result Description E → Type 0
DescribesItem c a kind old new r = (w : Worlds) (outer : List Scope) (i : Inside) → IsItemScope w c outer i old
    → AreUsed w c (i.here ∷ outer) a.depth a.used.now
    → IfOk r (Describes w c outer i kind new)

abbrev pub ExportsOne : {E : Type 0} → Collection → Around → Item → ItemScope → ItemScope → Result ℕ E → Type 0
ExportsOne c a x old new r = Stands c x.kind → (w : Worlds) (outer : List Scope) (i : Inside) → IsItemScope w c outer i old
    → AreUsed w c (i.here ∷ outer) a.depth a.used.now
    → IfOk r (ExportsIndex w c outer i x.name.now x.kind new)

-- the items before this one are written, and perhaps others
pub record ItemsWritten (w : Worlds) (c : Collection) (outer : List Scope) (id : InterfaceId) (at : ℕ) (s : ItemScope)
    (given : List Name) : Type 0 where
  pub writing : WritesSome w c outer id s given
  pub all_before : (n : Name) → Among n (take at (names_of (exports_of c id))) → Among n given

abbrev pub WritesOtherAt : {U E : Type 0} → PlacedInterface → ℕ → ItemScope → List Name → ItemScope → List Name → Result U E
    → Type 0
WritesOtherAt p at old before_names new names r =
    Stands p.types.now (ItemKind.Instance p.id) → (w : Worlds) (outer : List Scope) → StandsAround w outer p
    → ItemsWritten w p.types.now outer p.id at old before_names
    → IfOk r (λ _. ItemsWritten w p.types.now outer p.id (at + 1) new names)

abbrev pub WritesOthers : {U E : Type 0} → PlacedInterface → ItemScope → List Name → ItemScope → List Name → Result U E → Type 0
WritesOthers p old before_names new names r =
    Stands p.types.now (ItemKind.Instance p.id) → (w : Worlds) (outer : List Scope) → StandsAround w outer p
    → WritesSome w p.types.now outer p.id old before_names
    → IfOk r (λ _. ItemsWritten w p.types.now outer p.id (length (exports_of p.types.now p.id)) new names)

abbrev pub WritesInstance : {E : Type 0} → PlacedInterface → ItemScope → Result (Vec Declaration Global) E → Type 0
WritesInstance p old r =
    Stands p.types.now (ItemKind.Instance p.id) → (w : Worlds) (outer : List Scope) → StandsAround w outer p
    → WritesSome w p.types.now outer p.id old []
    → IfOk r (λ v. StatesInstance w outer (tree_in p.types.now (ItemKind.Instance p.id)) (declarations_of v.items))

-- in every world and whatever stands around, the declarations state the interface
abbrev pub MakesInstance : {E : Type 0} → PlacedInterface → Result (Vec Declaration Global) E → Type 0
MakesInstance p r =
    Stands p.types.now (ItemKind.Instance p.id) → (w : Worlds) (outer : List Scope) → StandsAround w outer p
    → IfOk r (λ v. StatesInstance w outer (tree_in p.types.now (ItemKind.Instance p.id)) (declarations_of v.items))
