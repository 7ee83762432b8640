-- The root of a component, to which is taken what is written in a scope.
use Rattle.std.specs.Prelude.{◌≡◌, ℕ, List, [], ◌∷◌, ◌++◌, map, Option, Result, Some, None, OnOk, IfOk, nat_eq, option_map}
use Rattle.std.specs.Map.{lookup}
use Rattle.wac_types_base.specs.declared.ids.WorldId.{WorldId}
use Rattle.wac_types_base.specs.declared.item.ItemKind.{ItemKind}
use Rattle.wac_types_base.specs.Record.{Collection}
use Rattle.wac_types_base.specs.Entries.{AreDistinct, Name, names_of}
use Rattle.wac_graph_bytes.specs.declared.value.Sort.{Sort}
use Rattle.wac_graph_bytes.specs.declared.value.Sort.TheVariants as sort
use Rattle.wac_graph_bytes.specs.declared.value.Description.{Description}
use Rattle.wac_graph_bytes.specs.declared.entry.Entry.{Entry as CodeEntry}
use Rattle.wac_graph_bytes.specs.declared.entry.Declaration.{Declaration}
use Rattle.wac_graph_bytes.specs.declared.entry.Alias.{Alias}
use Rattle.wac_graph_bytes.specs.Entries.{Entry, Declarations}
use Rattle.wac_graph_bytes.specs.Counting.{count_of}
use Rattle.wac_graph_bytes.specs.Typing.{Worlds, Scope, Inside, nothing_inside}
use Rattle.wac_graph_bytes.specs.Meaning.{start}
use Rattle.wac_graph_bytes.specs.Views.{view, declarations_of}
use Rattle.wac_graph_scopes.specs.declared.items.ItemScope.{ItemScope}
use Rattle.wac_graph_scopes.specs.declared.imports.Importing.{Importing}
use Rattle.wac_graph_scopes.specs.declared.imports.ImportScope.{ImportScope}
use Rattle.wac_graph_scopes.specs.Items.{IsItemScope, IsEntryOf}
use Rattle.wac_types_parts.specs.Parts.{imports_of}
use Rattle.wac_graph_scopes.specs.Imports.{ArePlaced, DescribesIn, WritesWorld, WritesOn, WritesAllImports}
use Rattle.wac_graph_scopes.specs.Roots.{HaveSources, ReadsWith, root_entries, root_exports}
use Rattle.wac_graph_encode.specs.declared.declarations.Early.{Early}
use Rattle.wac_graph_encode.specs.declared.root.Root.{Root}
use Rattle.wac_graph_encode.specs.Standing.{counted}

-- ---- outer imports

-- nothing stands in the scope
pub record IsNewScope (s : ImportScope) : Type 0 where
  pub scope : (w : Worlds) (c : Collection) (outer : List Scope) → IsItemScope w c outer nothing_inside s.scope
  pub used : s.used ≡ []

-- all imports of the world are written in a new scope, and nothing is exported
abbrev pub WritesOuters : {U E : Type 0} → Importing → ImportScope → ImportScope → Result U E → Type 0
WritesOuters a old new r =
    IsNewScope old → (w : Worlds) (outer : List Scope) → OnOk r (WritesAllImports w a.types.now outer a.world new [])

-- the world is written on, and what is so described is the item, whatever its name
abbrev pub WritesItem : {E : Type 0} → Importing → ItemKind → ImportScope → ImportScope → Result Description E → Type 0
WritesItem a kind old new r = (n : Name) (w : Worlds) (outer : List Scope) (i : Inside) (imported exported : List Name)
    → WritesOn w a.types.now outer a.world i old imported exported
    → IfOk r (DescribesIn w a.types.now outer a.world i n kind new imported exported)

-- what is so described is a type entry of its own
abbrev pub WritesOwn : {E : Type 0} → Importing → ImportScope → ImportScope → Result Description E → Type 0
WritesOwn a old new r = (w : Worlds) (outer : List Scope) (i : Inside) (imported exported : List Name)
    → WritesOn w a.types.now outer a.world i old imported exported
    → IfOk r (IsEntryOf w outer new.scope.types.declarations.items)

-- ---- what is taken to the root

-- the new entries are the old ones with those behind them
abbrev pub AddsRead : List CodeEntry → List CodeEntry → List Entry → Type 0
AddsRead old new es = map view new ≡ map view old ++ es

-- the definitions that are exported early, by the indexes of their types
abbrev pub early_named : Early → Name × ℕ
early_named e = (e.name, e.node)

abbrev pub early_in : List (ℕ × Early) → ℕ → Option (Name × ℕ)
early_in es k = option_map early_named (lookup (nat_eq k) es)

-- the declarations as entries, with nothing exported among them
abbrev pub plain_entries : Declarations → List Entry
plain_entries ds = root_entries (λ k. None) [] ds

-- the declaration repeats the type at that index
abbrev pub repeating : ℕ → Declaration
repeating k = Declaration.Alias (Alias.Outer sort.Ty 0 k)

abbrev pub IsRepeatedBy : Declaration → Option ℕ → Type 0
IsRepeatedBy d (Some k) = d ≡ repeating k
IsRepeatedBy d None = (k : ℕ) → d ≡ repeating k → ⊥

-- the entries are added, behind these exports, and with those among them
pub record AddsEarly (early : List (ℕ × Early)) (ds : Declarations) (old : List CodeEntry) (seen : List (Name × ℕ))
    (new : List CodeEntry) (now : List (Name × ℕ)) : Type 0 where
  pub entries : AddsRead old new (root_entries (early_in early) seen ds)
  pub exported : now ≡ root_exports (early_in early) seen ds

-- how many things of a sort the scope counts
abbrev pub counter : ItemScope → Sort → ℕ
counter s sort.Func = s.funcs
counter s sort.Ty = s.types.types
counter s sort.Component = s.components
counter s sort.Instance = s.instances
counter s sort.Module = s.modules

-- The declarations of the scope stand behind the entries, its counts are those of the root, and what is written of its
-- imports also.
pub record TakesScope (scope : ImportScope) (old new : Root) : Type 0 where
  pub adds : AddsEarly old.early.entries (declarations_of scope.scope.types.declarations.items) old.entries.items old.exported
      new.entries.items new.exported
  pub counts : (s : Sort) → counted new.counts s ≡ counter scope.scope s
  pub imports : new.imports.items ≡ scope.places.items
  pub nodes : new.nodes ≡ old.nodes
  pub packages : new.packages ≡ old.packages

-- The entries are read to what stood in the scope, with its imports and the first exports. Their indexes are counted, and
-- what is written of imported instances stands for them.
pub record IsReadTo (w : Worlds) (c : Collection) (world : WorldId) (i : Inside) (early : List (ℕ × Early)) (root : Root)
    : Type 0 where
  pub reads : ReadsWith (early_in early) i w start (map view root.entries.items) root.exported
  pub once : AreDistinct (names_of root.exported)
  pub counts : (s : Sort) → counted root.counts s ≡ count_of s root.entries.items
  pub placed : ArePlaced w c (i.here ∷ []) (imports_of c world) root.imports.items

-- where nothing stood at the root, and no export in the scope
abbrev pub ReadsAtRoot : {U E : Type 0} → ImportScope → Root → Root → Result U E → Type 0
ReadsAtRoot scope old new r = old.entries.items ≡ [] → old.exported ≡ []
    → (w : Worlds) (c : Collection) (world : WorldId) (imported : List Name) (h : WritesWorld w c [] world scope imported [])
    → HaveSources (early_in old.early.entries) h.writing.inside
    → OnOk r (IsReadTo w c world h.writing.inside old.early.entries new)
