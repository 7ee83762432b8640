-- What holds of the imports and exports of a world while they are written.
use Rattle.std.specs.Prelude.{◌≡◌, ℕ, ◌+◌, List, [], ◌∷◌, ◌++◌, length, Result, Option, Some, None, slice_get, Bool, true, false, IfOk, IfSome, option_to_list, ◌⊎◌}
use Rattle.std.specs.declared.alloc.Global.{Global}
use Rattle.std.specs.declared.vec.Vec.{Vec}
use Rattle.wac_types_base.specs.declared.ids.InterfaceId.{InterfaceId}
use Rattle.wac_types_base.specs.declared.ids.WorldId.{WorldId}
use Rattle.wac_types_base.specs.declared.item.ItemKind.{ItemKind}
use Rattle.wac_types_base.specs.Record.{Collection}
use Rattle.wac_types_base.specs.Graph.{Among}
use Rattle.wac_types_base.specs.Entries.{Name, names_of, value_at, AreDistinct}
use Rattle.wac_types_base.specs.Parts.{identifier_in}
use Rattle.wac_types_base.specs.Collection.{Stands}
use Rattle.wac_types_base.specs.Tree.{Tree}
use Rattle.wac_types_fit.specs.Trees.{tree_in, SameTree}
use Rattle.wac_graph_bytes.specs.declared.value.Sort.{Sort}
use Rattle.wac_graph_bytes.specs.declared.value.Sort.TheVariants as sort
use Rattle.wac_graph_bytes.specs.declared.value.Description.{Description}
use Rattle.wac_graph_bytes.specs.declared.entry.Declaration.{Declaration}
use Rattle.wac_graph_bytes.specs.Counting.{description_sort}
use Rattle.wac_graph_bytes.specs.Typing as typing
use Rattle.wac_graph_bytes.specs.Typing.{Worlds, Scope, Inside, found, export_named, described}
use Rattle.wac_graph_bytes.specs.Views.{declarations_of}
use Rattle.wac_graph_scopes.specs.declared.scope.KnownTypes.{KnownTypes}
use Rattle.wac_graph_scopes.specs.declared.items.ItemScope.{ItemScope}
use Rattle.wac_graph_scopes.specs.declared.imports.Importing.{Importing}
use Rattle.wac_graph_scopes.specs.declared.imports.SortIndex.{SortIndex}
use Rattle.wac_graph_scopes.specs.declared.imports.ImportScope.{ImportScope}
use Rattle.wac_graph_scopes.specs.declared.imports.TakenUse.{TakenUse}
use Rattle.wac_types_parts.specs.declared.parts.Item.{Item}
use Rattle.wac_types_parts.specs.declared.parts.Use.{Use}
use Rattle.wac_graph_scopes.specs.Used.{IsUsedAs}
use Rattle.wac_types_parts.specs.Parts.{interface_in, exports_of, world_uses_of, imports_of, world_exports_of, IsUseNamed, IsUsedKind, taken_in}
use Rattle.wac_graph_scopes.specs.Scopes.{Extends, GoesOn, AreKnown}
use Rattle.wac_graph_scopes.specs.Items.{IsItemScope, AreUsed, IsTypeItem, IsInstanceAt, IsTreeOf, sort_of, IsSorted, Writing, StatesComponent}

-- what the world imports and exports
abbrev pub all_imports : Importing → List (Name × ItemKind)
all_imports a = imports_of a.types.now a.world

abbrev pub all_exports : Importing → List (Name × ItemKind)
all_exports a = world_exports_of a.types.now a.world

-- the use that gives a name: the world's own, or else one that is told beside the world
abbrev pub IsUseOf : Importing → Name → Use → Type 0
IsUseOf a n u = IsUseNamed (world_uses_of a.types.now a.world) n u
    ⊎ ((value_at (world_uses_of a.types.now a.world) n ≡ None) × IsUseNamed a.uses.now n u)

-- the use gives the import: it is that of its name, and what it takes has the import's tree
pub record IsGivenBy (a : Importing) (x : Item) (t : TakenUse) : Type 0 where
  pub use_is : IsUseOf a x.name.now t.used
  pub taken : taken_in a.types.now t.used ≡ Some t.item
  pub taken_stands : Stands a.types.now t.item
  pub stands : Stands a.types.now x.kind
  pub same : SameTree a.types.now t.item a.types.now x.kind

abbrev pub IsGiven : Importing → Item → Type 0
IsGiven a x = (t : TakenUse) × IsGivenBy a x t

-- ---- what is written of imports

abbrev pub NoneWritten : List (Option SortIndex) → Type 0
NoneWritten ps = (at : ℕ) (p : SortIndex) → slice_get ps at ≡ Some (Some p) → ⊥

-- the import at the place is an instance of that interface
abbrev pub IsInstanceImport : List (Name × ItemKind) → ℕ → InterfaceId → Type 0
IsInstanceImport is at id = (n : Name) × (slice_get is at ≡ Some (n, ItemKind.Instance id))

-- of the import at the place an instance is written, with that index
abbrev pub IsPlaced : List (Option SortIndex) → ℕ → ℕ → Type 0
IsPlaced ps at k = slice_get ps at ≡ Some (Some (record { sort = sort.Instance; index = k }))

-- the index stands for the import of that name, and is of the item's sort
pub record IsImportAt (c : Collection) (ss : List Scope) (n : Name) (k : ItemKind) (p : SortIndex) : Type 0 where
  pub sort : sort_of k ≡ Some p.sort
  pub means : found ss p.sort p.index ≡ Some (typing.Item n p.sort (tree_in c k))

-- what is written of an import stands for it
abbrev pub ArePlaced : Worlds → Collection → List Scope → List (Name × ItemKind) → List (Option SortIndex) → Type 0
ArePlaced w c ss is ps = (at : ℕ) (n : Name) (k : ItemKind) (p : SortIndex) → slice_get is at ≡ Some (n, k)
    → slice_get ps at ≡ Some (Some p) → IsImportAt c ss n k p

-- for each of these imports something stands that is written of it
abbrev pub HavePlaces : List Name → (imported : List Name) → List (Option SortIndex) → Type 0
HavePlaces ns imported ps =
    (at : ℕ) (n : Name) → slice_get ns at ≡ Some n → Among n imported → (p : SortIndex) × (slice_get ps at ≡ Some (Some p))

-- the import at the place is an instance that exports the item under that name
pub record GivesAt (c : Collection) (is : List (Name × ItemKind)) (at : ℕ) (n : Name) (item : ItemKind) : Type 0 where
  pub interface : InterfaceId
  pub import_is : IsInstanceImport is at interface
  pub export_is : IsTreeOf c (exports_of c interface) n (tree_in c item)

abbrev pub GivesTaken : {E : Type 0} → Importing → ℕ → Name → ItemKind → Result Bool E → Type 0
GivesTaken a at n item r =
    Stands a.types.now item → IsUsedKind item → IfOk r (λ yes. yes ≡ true → GivesAt a.types.now (all_imports a) at n item)

-- nor is it said of an instance that exports the item
abbrev pub NotGiven : {E : Type 0} → Importing → ℕ → Name → ItemKind → Result Bool E → Type 0
NotGiven a at n item r =
    Stands a.types.now item → IfOk r (λ yes. yes ≡ false → GivesAt a.types.now (all_imports a) at n item → ⊥)

-- ---- how imports are found

-- the places of names, from this place on
abbrev pub own_places : ℕ → List Name → List (Name × ℕ)
own_places at [] = []
own_places at (n ∷ ns) = (n, at) ∷ own_places (at + 1) ns

-- the places under the names under which imports are asked for, and then under their own
abbrev pub import_places : Importing → List (Name × ℕ)
import_places a = a.places.now ++ own_places 0 (names_of (all_imports a))

-- of each name the first place is found
abbrev pub FindsFirst : List (Name × ℕ) → List (Name × ℕ) → Type 0
FindsFirst found all = (n : Name) → value_at found n ≡ value_at all n

-- the import that is found under the identifier is an instance that exports the item under the name, and this is its index
pub record IsImportedAs (a : Importing) (s : ImportScope) (i n : Name) (item : ItemKind) (k : ℕ) : Type 0 where
  pub at : ℕ
  pub found : value_at s.found i ≡ Some at
  pub placed : IsPlaced s.places.items at k
  pub gives : GivesAt a.types.now (all_imports a) at n item

-- the type that a use takes stands there under its name, or the import does that exports it
abbrev pub IsFoundFor : Importing → ImportScope → Use → ItemKind → ℕ → Type 0
IsFoundFor a s u item k = (i : Name) × (identifier_in (interface_in a.types.now u.interface) ≡ Some i)
    × (IsUsedAs a.types.now s.used i u.there.now item k ⊎ IsImportedAs a s i u.there.now item k)

-- ---- a world that is being written

-- The scope stands, with these of the world's imports and these of its exports; the used types and the places of imports are
-- true, and each import that is written has its place.
pub record WritesWorld (w : Worlds) (c : Collection) (outer : List Scope) (world : WorldId) (s : ImportScope)
    (imported exported : List Name) : Type 0 where
  pub writing : Writing w c outer (imports_of c world) (world_exports_of c world) s.scope imported exported
  pub used : AreUsed w c (writing.inside.here ∷ outer) 0 s.used
  pub placed : ArePlaced w c (writing.inside.here ∷ outer) (imports_of c world) s.places.items
  pub many : length s.places.items ≡ length (imports_of c world)
  pub have : HavePlaces (names_of (imports_of c world)) imported s.places.items

-- The world is written on from there: what stood stands, and the same is imported and exported.
pub record WritesOn (w : Worlds) (c : Collection) (outer : List Scope) (world : WorldId) (i : Inside) (s : ImportScope)
    (imported exported : List Name) : Type 0 where
  pub goes : WritesWorld w c outer world s imported exported
  pub on : GoesOn i goes.writing.inside

-- the index stands for an instance that exports a type with that tree
abbrev pub IsSource : Worlds → List Scope → Name → Tree → ℕ → Type 0
IsSource w ss n t k = (u : Tree) × IsInstanceAt w ss u k × (export_named n u ≡ Some t)

abbrev pub FindsSource : {E : Type 0} → Importing → Name → ItemKind → ImportScope → Result (Option ℕ) E → Type 0
FindsSource a n item s r = Stands a.types.now item → IsUsedKind item
    → (w : Worlds) (outer : List Scope) (imported exported : List Name)
    → (h : WritesWorld w a.types.now outer a.world s imported exported)
    → IfOk r (λ o. IfSome o (IsSource w (h.writing.inside.here ∷ outer) n (tree_in a.types.now item)))

-- and it is that of the import that is found under the identifier
abbrev pub FindsImported : {E : Type 0} → Importing → ImportScope → Name → Name → ItemKind → Result (Option ℕ) E → Type 0
FindsImported a s i n item r =
    Stands a.types.now item → IsUsedKind item → IfOk r (λ o. IfSome o (IsImportedAs a s i n item))

-- the world is written on, and the index, if there is one, stands for a type item with that tree
pub record HasAlias (w : Worlds) (c : Collection) (outer : List Scope) (world : WorldId) (i : Inside) (s : ImportScope)
    (imported exported : List Name) (t : Tree) (o : Option ℕ) : Type 0 where
  pub goes : WritesWorld w c outer world s imported exported
  pub on : GoesOn i goes.writing.inside
  pub index : IfSome o (IsTypeItem w (goes.writing.inside.here ∷ outer) 0 t)

abbrev pub AliasesUse : {E : Type 0} → Importing → ItemKind → ImportScope → ImportScope → Result (Option ℕ) E → Type 0
AliasesUse a item old new r =
    Stands a.types.now item → IsUsedKind item → (w : Worlds) (outer : List Scope) (i : Inside) (imported exported : List Name)
    → WritesOn w a.types.now outer a.world i old imported exported
    → IfOk r (HasAlias w a.types.now outer a.world i new imported exported (tree_in a.types.now item))

-- the world is written on with aliases of what a source, or an instance of that interface, exports
abbrev pub AliasesSource : {U E : Type 0} → Importing → ℕ → Name → ItemKind → ImportScope → ImportScope → Result U E → Type 0
AliasesSource a k n item old new r = (w : Worlds) (outer : List Scope) (i : Inside) (imported exported : List Name)
    → WritesOn w a.types.now outer a.world i old imported exported
    → IsSource w (i.here ∷ outer) n (tree_in a.types.now item) k
    → IfOk r (λ _. WritesOn w a.types.now outer a.world i new imported exported)

abbrev pub AliasesInstance : {U E : Type 0} → Importing → InterfaceId → ℕ → ImportScope → ImportScope → Result U E → Type 0
AliasesInstance a id k old new r = (w : Worlds) (outer : List Scope) (i : Inside) (imported exported : List Name)
    → WritesOn w a.types.now outer a.world i old imported exported
    → IsInstanceAt w (i.here ∷ outer) (tree_in a.types.now (ItemKind.Instance id)) k
    → IfOk r (λ _. WritesOn w a.types.now outer a.world i new imported exported)

abbrev pub AddsUsed : {E : Type 0} → Collection → WorldId → ℕ → Name → ItemKind → ImportScope → ImportScope → Result ℕ E → Type 0
AddsUsed c world k n item old new r = Stands c item → IsUsedKind item
    → (w : Worlds) (outer : List Scope) (i : Inside) (imported exported : List Name)
    → (h : WritesOn w c outer world i old imported exported)
    → IsSource w (h.goes.writing.inside.here ∷ outer) n (tree_in c item) k
    → IfOk r (λ j. HasAlias w c outer world i new imported exported (tree_in c item) (Some j))

-- a world that is written on from somewhere still is
abbrev pub KeepsWorld : {U E : Type 0} → Importing → ImportScope → ImportScope → Result U E → Type 0
KeepsWorld a old new r = (w : Worlds) (outer : List Scope) (i : Inside) (imported exported : List Name)
    → WritesOn w a.types.now outer a.world i old imported exported
    → IfOk r (λ _. WritesOn w a.types.now outer a.world i new imported exported)

-- the world is written on, and what is so described under the name is the item
pub record DescribesIn (w : Worlds) (c : Collection) (outer : List Scope) (world : WorldId) (i : Inside) (n : Name)
    (kind : ItemKind) (s : ImportScope) (imported exported : List Name) (d : Description) : Type 0 where
  pub goes : WritesWorld w c outer world s imported exported
  pub on : GoesOn i goes.writing.inside
  pub sorted : IsSorted kind d
  pub reads : described w (goes.writing.inside.here ∷ outer) n d ≡ Some (description_sort d, tree_in c kind)

abbrev pub DescribesImport : {E : Type 0} → Importing → Item → ImportScope → ImportScope → Result Description E → Type 0
DescribesImport a x old new r = (w : Worlds) (outer : List Scope) (i : Inside) (imported exported : List Name)
    → WritesOn w a.types.now outer a.world i old imported exported
    → IfOk r (DescribesIn w a.types.now outer a.world i x.name.now x.kind new imported exported)

-- under any name, of whatever world
abbrev pub DescribesThere : {E : Type 0} → Collection → ItemKind → ImportScope → ImportScope → Result Description E → Type 0
DescribesThere c kind old new r =
    (world : WorldId) (n : Name) (w : Worlds) (outer : List Scope) (i : Inside) (imported exported : List Name)
    → WritesOn w c outer world i old imported exported
    → IfOk r (DescribesIn w c outer world i n kind new imported exported)

-- The world is written on, and what is so described under any name is the item of the other collection, of whose types these are
-- known.
pub record DescribesApart (w : Worlds) (c other : Collection) (outer : List Scope) (world : WorldId) (i : Inside)
    (kind : ItemKind) (s : ImportScope) (ks : KnownTypes) (imported exported : List Name) (d : Description) : Type 0 where
  pub goes : WritesWorld w c outer world s imported exported
  pub on : GoesOn i goes.writing.inside
  pub known : AreKnown w (goes.writing.inside.here ∷ outer) other ks
  pub sorted : IsSorted kind d
  pub reads : (n : Name) → described w (goes.writing.inside.here ∷ outer) n d ≡ Some (description_sort d, tree_in other kind)

-- of whatever world
abbrev pub DescribesOther : {E : Type 0} → Collection → ItemKind → ImportScope → KnownTypes → ImportScope → KnownTypes
    → Result Description E → Type 0
DescribesOther other kind old before new after r =
    (world : WorldId) (w : Worlds) (c : Collection) (outer : List Scope) (i : Inside) (imported exported : List Name)
    → (h : WritesOn w c outer world i old imported exported) → AreKnown w (h.goes.writing.inside.here ∷ outer) other before
    → IfOk r (DescribesApart w c other outer world i kind new after imported exported)

abbrev pub MayDescribeIn : Worlds → Collection → List Scope → WorldId → Inside → Name → ItemKind → ImportScope → List Name
    → List Name → Option Description → Type 0
MayDescribeIn w c outer world i n kind s imported exported None = WritesOn w c outer world i s imported exported
MayDescribeIn w c outer world i n kind s imported exported (Some d) = DescribesIn w c outer world i n kind s imported exported d

abbrev pub MayDescribe : {E : Type 0} → Importing → Item → ImportScope → ImportScope → Result (Option Description) E → Type 0
MayDescribe a x old new r = (w : Worlds) (outer : List Scope) (i : Inside) (imported exported : List Name)
    → WritesOn w a.types.now outer a.world i old imported exported
    → IfOk r (MayDescribeIn w a.types.now outer a.world i x.name.now x.kind new imported exported)

-- ---- imports

-- The scope stands, extended, with the item behind the other imports; the index stands for it.
pub record ImportsItem (w : Worlds) (c : Collection) (outer : List Scope) (i : Inside) (n : Name) (t : Tree) (d : Description)
    (s : ItemScope) (p : SortIndex) : Type 0 where
  pub after : Inside
  pub stands : IsItemScope w c outer after s
  pub extends : Extends i.here after.here
  pub imports : after.imports ≡ i.imports ++ (n, t) ∷ []
  pub exports : after.exports ≡ i.exports
  pub sort_is : p.sort ≡ description_sort d
  pub means : found (after.here ∷ outer) p.sort p.index ≡ Some (typing.Item n p.sort t)

abbrev pub ImportsDescribed : {E : Type 0} → Collection → Item → Description → ItemScope → ItemScope → Result SortIndex E
    → Type 0
ImportsDescribed c x d old new r =
    (w : Worlds) (outer : List Scope) (i : Inside) → IsItemScope w c outer i old → Stands c x.kind → IsSorted x.kind d
    → described w (i.here ∷ outer) x.name.now d ≡ Some (description_sort d, tree_in c x.kind)
    → IfOk r (ImportsItem w c outer i x.name.now (tree_in c x.kind) d new)

-- the names at these places
abbrev pub names_at : List Name → List ℕ → List Name
names_at ns [] = []
names_at ns (k ∷ ks) = option_to_list (slice_get ns k) ++ names_at ns ks

-- the import at the place is written, which was not
abbrev pub ImportsAt : {U E : Type 0} → Importing → Item → Description → ℕ → ImportScope → ImportScope → Result U E → Type 0
ImportsAt a x d at old new r = (w : Worlds) (outer : List Scope) (i : Inside) (imported exported : List Name)
    → AreDistinct (names_of (imports_of a.types.now a.world)) → Stands a.types.now x.kind
    → slice_get (imports_of a.types.now a.world) at ≡ Some (x.name.now, x.kind) → (Among x.name.now imported → ⊥)
    → DescribesIn w a.types.now outer a.world i x.name.now x.kind old imported exported d
    → IfOk r (λ _. WritesWorld w a.types.now outer a.world new (imported ++ x.name.now ∷ []) exported)

abbrev pub IsNewAt : List Name → ℕ → List Name → Type 0
IsNewAt ns at imported = (n : Name) → slice_get ns at ≡ Some n → Among n imported → ⊥

abbrev pub WritesImport : {U E : Type 0} → Importing → ℕ → ImportScope → ImportScope → Result U E → Type 0
WritesImport a at old new r = (w : Worlds) (outer : List Scope) (imported exported : List Name)
    → WritesWorld w a.types.now outer a.world old imported exported
    → IsNewAt (names_of (imports_of a.types.now a.world)) at imported
    → IfOk r (λ _. WritesWorld w a.types.now outer a.world new
    (imported ++ option_to_list (slice_get (names_of (imports_of a.types.now a.world)) at)) exported)

-- the imports at these places are written, each once
abbrev pub WritesInOrder : {U E : Type 0} → Importing → List ℕ → ImportScope → ImportScope → Result U E → Type 0
WritesInOrder a order old new r = (w : Worlds) (outer : List Scope) (imported exported : List Name)
    → AreDistinct (names_of (imports_of a.types.now a.world)) → AreDistinct order
    → ((k : ℕ) → Among k order → IsNewAt (names_of (imports_of a.types.now a.world)) k imported)
    → WritesWorld w a.types.now outer a.world old imported exported
    → IfOk r (λ _. WritesWorld w a.types.now outer a.world new
    (imported ++ names_at (names_of (imports_of a.types.now a.world)) order) exported)

-- ---- exports

abbrev pub KeepsExporting : {U E : Type 0} → Importing → ImportScope → List Name → ImportScope → List Name → Result U E → Type 0
KeepsExporting a old before_names new names r =
    (w : Worlds) (outer : List Scope) (imported : List Name) → WritesWorld w a.types.now outer a.world old imported before_names
    → IfOk r (λ _. WritesWorld w a.types.now outer a.world new imported names)

-- the exports at these places are written, and perhaps others
pub record ExportsWritten (w : Worlds) (c : Collection) (outer : List Scope) (world : WorldId) (places : List ℕ) (s : ImportScope)
    (imported exported : List Name) : Type 0 where
  pub goes : WritesWorld w c outer world s imported exported
  pub those : (k : ℕ) (n : Name) → Among k places → slice_get (names_of (world_exports_of c world)) k ≡ Some n → Among n exported

abbrev pub ExportsAt : {U E : Type 0} → Importing → ℕ → ImportScope → List Name → ImportScope → List Name → Result U E → Type 0
ExportsAt a at old before_names new names r = (w : Worlds) (outer : List Scope) (imported : List Name) (places : List ℕ)
    → ExportsWritten w a.types.now outer a.world places old imported before_names
    → IfOk r (λ _. ExportsWritten w a.types.now outer a.world (places ++ at ∷ []) new imported names)

abbrev pub ExportsInOrder : {U E : Type 0} → Importing → List ℕ → ImportScope → List Name → ImportScope → List Name → Result U E
    → Type 0
ExportsInOrder a order old before_names new names r =
    (w : Worlds) (outer : List Scope) (imported : List Name) → WritesWorld w a.types.now outer a.world old imported before_names
    → IfOk r (λ _. ExportsWritten w a.types.now outer a.world order new imported names)

-- all are written
abbrev pub AllExported : Worlds → Collection → List Scope → WorldId → ImportScope → (imported exported : List Name) → Type 0
AllExported w c outer world s imported exported = WritesWorld w c outer world s imported exported
    × ((n : Name) → Among n (names_of (world_exports_of c world)) → Among n exported)

abbrev pub ExportsAll : {U E : Type 0} → Importing → ImportScope → List Name → ImportScope → List Name → Result U E → Type 0
ExportsAll a old before_names new names r =
    (w : Worlds) (outer : List Scope) (imported : List Name) → WritesWorld w a.types.now outer a.world old imported before_names
    → IfOk r (λ _. AllExported w a.types.now outer a.world new imported names)

abbrev pub ExportsThere : {U E : Type 0} → Importing → Item → ImportScope → ImportScope → Result U E → Type 0
ExportsThere a x old new r = (w : Worlds) (outer : List Scope) (imported exported : List Name) → Stands a.types.now x.kind
    → IsTreeOf a.types.now (world_exports_of a.types.now a.world) x.name.now (tree_in a.types.now x.kind)
    → (Among x.name.now exported → ⊥)
    → WritesWorld w a.types.now outer a.world old imported exported
    → IfOk r (λ _. WritesWorld w a.types.now outer a.world new imported (exported ++ x.name.now ∷ []))

-- and the export's index stands for it
pub record HasExported (w : Worlds) (c : Collection) (outer : List Scope) (world : WorldId) (n : Name) (kind : ItemKind)
    (s : ImportScope) (imported exported : List Name) (k : ℕ) : Type 0 where
  pub goes : WritesWorld w c outer world s imported exported
  pub means : (x : Sort) → sort_of kind ≡ Some x
      → found (goes.writing.inside.here ∷ outer) x k ≡ Some (typing.Item n x (tree_in c kind))

abbrev pub ExportsIndexed : {E : Type 0} → Importing → Item → ImportScope → ImportScope → Result ℕ E → Type 0
ExportsIndexed a x old new r = (w : Worlds) (outer : List Scope) (imported exported : List Name) → Stands a.types.now x.kind
    → IsTreeOf a.types.now (world_exports_of a.types.now a.world) x.name.now (tree_in a.types.now x.kind)
    → (Among x.name.now exported → ⊥)
    → WritesWorld w a.types.now outer a.world old imported exported
    → IfOk r (HasExported w a.types.now outer a.world x.name.now x.kind new imported (exported ++ x.name.now ∷ []))

-- ---- the whole world

-- all imports are written, and these of the exports
abbrev pub WritesAllImports : Worlds → Collection → List Scope → WorldId → ImportScope → List Name → Type 0
WritesAllImports w c outer world s exported = (imported : List Name) × WritesWorld w c outer world s imported exported
    × ((n : Name) → Among n (names_of (imports_of c world)) → Among n imported)

abbrev pub WritesBeforeOthers : {E : Type 0} → Importing → ImportScope → ImportScope → Result (List Name) E → Type 0
WritesBeforeOthers a old new r = (w : Worlds) (outer : List Scope) → WritesWorld w a.types.now outer a.world old [] []
    → IfOk r (WritesAllImports w a.types.now outer a.world new)

abbrev pub WritesBetween : {E : Type 0} → Importing → ImportScope → ImportScope → Result (List Name) E → Type 0
WritesBetween a old new r = (w : Worlds) (outer : List Scope) (imported : List Name)
    → WritesWorld w a.types.now outer a.world old imported [] → IfOk r (WritesWorld w a.types.now outer a.world new imported)

-- in every world and whatever stands around, the declarations state the component type
abbrev pub MakesComponent : {E : Type 0} → Collection → WorldId → Result (Vec Declaration Global) E → Type 0
MakesComponent c world r = Stands c (ItemKind.Component world) → (w : Worlds) (outer : List Scope)
    → IfOk r (λ v. StatesComponent w outer (tree_in c (ItemKind.Component world)) (declarations_of v.items))

-- the world is begun
abbrev pub BeginsWorld : Importing → ImportScope → Type 0
BeginsWorld a s = (w : Worlds) (outer : List Scope) → WritesWorld w a.types.now outer a.world s [] []
