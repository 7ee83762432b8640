-- Packages that are imported at the root of a component in place of being nested.
use Rattle.std.specs.Prelude.{◌≡◌, ℕ, Bool, true, false, List, [], ◌∷◌, ◌++◌, map, Some, None, Result, IfOk, OnOk, slice_get}
use Rattle.indexmap.specs.IndexMap.{IndexMap, insert_entry}
use Rattle.wac_types_base.specs.declared.ids.WorldId.{WorldId}
use Rattle.wac_types_base.specs.declared.item.ItemKind.{ItemKind}
use Rattle.wac_types_base.specs.Record.{Collection}
use Rattle.wac_types_base.specs.Entries.{Name, names_of, AreDistinct}
use Rattle.wac_types_base.specs.Graph.{Among}
use Rattle.wac_types_base.specs.Collection.{Stands}
use Rattle.wac_types_base.specs.Tree.{Tree}
use Rattle.wac_types_fit.specs.Trees.{tree_in}
use Rattle.wac_graph_bytes.specs.declared.value.Sort.TheVariants as sort
use Rattle.wac_graph_bytes.specs.Typing.{Worlds, Item, Inside}
use Rattle.wac_graph_core.specs.declared.ids.PackageId.{PackageId}
use Rattle.wac_graph_core.specs.contracts.ids.PackageIdPartialEq.TheImpl as package_id
use Rattle.wac_graph_core.specs.Graph.{Graph}
use Rattle.wac_graph_scopes.specs.declared.items.ItemScope.{ItemScope}
use Rattle.wac_graph_scopes.specs.declared.imports.ImportScope.{ImportScope}
use Rattle.wac_graph_scopes.specs.Scopes.{Extends}
use Rattle.wac_graph_scopes.specs.Items.{IsItemScope}
use Rattle.wac_graph_asks.specs.Asked.{IsWorldOf}
use Rattle.wac_graph_asks.specs.Wirings.{asked_trees}
use Rattle.wac_graph_causes.specs.Alike.{dependency_of}
use Rattle.wac_graph_encode.specs.declared.root.Root.{Root}
use Rattle.wac_graph_encode.specs.Rooting.{TakesScope}
use Rattle.wac_graph_encode.specs.Ready.{AddsNames}

-- ---- what is imported

-- packages, each with a copy of its world
abbrev pub Packages : Type 0
Packages = List (PackageId × WorldId)

abbrev pub AreWorldsOf : Graph → Collection → Packages → Type 0
AreWorldsOf g c ps = (id : PackageId) (w : WorldId) → Among (id, w) ps → IsWorldOf g c id w

-- a package as an import: a component of its world, under its dependency's name
abbrev pub dependency_import : Graph → Collection → PackageId × WorldId → Name × Tree
dependency_import g c p = (dependency_of g p.0, tree_in c (ItemKind.Component p.1))

-- the outer imports, and behind them the packages where those are imported
abbrev pub with_packages : (define : Bool) → Graph → Collection → Packages → List (Name × Tree) → List (Name × Tree)
with_packages true g c ps imports = imports
with_packages false g c ps imports = imports ++ map (dependency_import g c) ps

-- packages can be imported: no two are imported under the same name, and no outer import has one of those names
pub record AreImportable (g : Graph) (ids : List PackageId) : Type 0 where
  pub once : AreDistinct (map (dependency_of g) ids)
  pub apart : (id : PackageId) → Among id ids → asked_trees g (dependency_of g id) ≡ None

abbrev pub AreToImport : (define : Bool) → Graph → List PackageId → Type 0
AreToImport true g ids = Unit {0}
AreToImport false g ids = AreImportable g ids

-- ---- in a scope

-- what stood stands, with one more import: a component of that world, under that name, at the index
pub record HasImported (w : Worlds) (c : Collection) (i : Inside) (n : Name) (world : WorldId) (s : ItemScope)
    (index : ℕ) : Type 0 where
  pub after : Inside
  pub stands : IsItemScope w c [] after s
  pub extends : Extends i.here after.here
  pub imports : after.imports ≡ i.imports ++ (n, tree_in c (ItemKind.Component world)) ∷ []
  pub exports : after.exports ≡ i.exports
  pub at : slice_get after.here.components index ≡ Some (Item n sort.Component (tree_in c (ItemKind.Component world)))

abbrev pub ImportsComponent : {E : Type 0} → Collection → Name → WorldId → ItemScope → ItemScope → Result ℕ E → Type 0
ImportsComponent c n world old new r = Stands c (ItemKind.Component world) → (w : Worlds) (i : Inside) → IsItemScope w c [] i old
    → IfOk r (HasImported w c i n world new)

-- the package's import is noted by its index
pub record NotesImport (w : Worlds) (g : Graph) (c : Collection) (i : Inside) (id : PackageId) (world : WorldId) (s : ItemScope)
    (before after : List (PackageId × ℕ)) : Type 0 where
  pub index : ℕ
  pub import : HasImported w c i (dependency_of g id) world s index
  pub noted : after ≡ insert_entry package_id.eq-value.it before id index

abbrev pub ImportsPackage : {S U E : Type 0} → Graph → Collection → PackageId → WorldId → ImportScope → IndexMap PackageId ℕ S
    → ImportScope → IndexMap PackageId ℕ S → Result U E → Type 0
ImportsPackage g c id world old before new after r =
    Stands c (ItemKind.Component world) → (w : Worlds) (i : Inside) → IsItemScope w c [] i old.scope
    → OnOk r (NotesImport w g c i id world new.scope before.entries after.entries)

-- the index stands for the package as it is imported
abbrev pub IsImportedAt : Graph → Inside → PackageId → ℕ → Type 0
IsImportedAt g i id index = (t : Tree) × (slice_get i.here.components index ≡ Some (Item (dependency_of g id) sort.Component t))

-- what stood stands, with the packages imported behind it; each index that is noted stands for its package
pub record HasImportedAll (w : Worlds) (g : Graph) (c : Collection) (i : Inside) (ps : Packages) (s : ItemScope)
    (held : List (PackageId × ℕ)) : Type 0 where
  pub after : Inside
  pub stands : IsItemScope w c [] after s
  pub extends : Extends i.here after.here
  pub imports : after.imports ≡ i.imports ++ map (dependency_import g c) ps
  pub exports : after.exports ≡ i.exports
  pub named : (id : PackageId) (index : ℕ) → Among (id, index) held → Among id (names_of ps)
  pub stand : (id : PackageId) (index : ℕ) → Among (id, index) held → IsImportedAt g after id index

-- where none is noted yet
abbrev pub ImportsAll : {S U E : Type 0} → Graph → Collection → Packages → ImportScope → IndexMap PackageId ℕ S → ImportScope
    → IndexMap PackageId ℕ S → Result U E → Type 0
ImportsAll g c ps old before new after r =
    before.entries ≡ [] → AreWorldsOf g c ps → (w : Worlds) (i : Inside) → IsItemScope w c [] i old.scope
    → OnOk r (HasImportedAll w g c i ps new.scope after.entries)

-- ---- at the root

-- the packages are imported in the scope, and what is then written there is taken to the root
pub record ImportsBefore (g : Graph) (c : Collection) (ps : Packages) (scope : ImportScope) (old new : Root) : Type 0 where
  pub between : ImportScope
  pub mid : Root
  pub imported : old.packages.entries ≡ [] → AreWorldsOf g c ps → (w : Worlds) (i : Inside) → IsItemScope w c [] i scope.scope
      → HasImportedAll w g c i ps between.scope mid.packages.entries
  pub held : AddsNames (names_of ps) (names_of old.packages.entries) (names_of mid.packages.entries)
  pub places : between.places ≡ scope.places
  pub entries : mid.entries ≡ old.entries
  pub nodes : mid.nodes ≡ old.nodes
  pub early : mid.early ≡ old.early
  pub exported : mid.exported ≡ old.exported
  pub takes : TakesScope between mid new
