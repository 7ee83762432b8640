-- The imports of classes of asks while they are put into a world, and their places by the names that are asked.
use Rattle.std.specs.Prelude.{◌≡◌, ℕ, List, [], length, Some, IsSome, slice_get}
use Rattle.std.specs.Map.{keys_of}
use Rattle.wac_types_base.specs.declared.ids.WorldId.{WorldId}
use Rattle.wac_types_base.specs.declared.item.ItemKind.{ItemKind}
use Rattle.wac_types_base.specs.declared.defined.World.{World}
use Rattle.wac_types_base.specs.Record.{Collection}
use Rattle.wac_types_base.specs.Entries.{Name, AreDistinct, names_of, value_at, values_of, put_entry}
use Rattle.wac_types_base.specs.Graph.{Among}
use Rattle.wac_types_base.specs.Collection.{Stands}
use Rattle.wac_types_parts.specs.Parts.{imports_of}
use Rattle.wac_types_merge.specs.declared.error.AggregateError.{AggregateError}
use Rattle.wac_composition.specs.Asks.{Ask}
use Rattle.wac_composition.specs.Conflicts.{Cause}
use Rattle.wac_merging.specs.declared.kept.Kept.{Kept}
use Rattle.wac_merging.specs.Kept.{Spells}
use Rattle.wac_merging.specs.Labelled.{each_label, labelled}
use Rattle.wac_merging.specs.Outers.{IsOuter}
use Rattle.wac_graph_asks.specs.declared.asks.Ask.{Ask as HeldAsk}
use Rattle.wac_graph_asks.specs.declared.asks.Asked.{Asked}
use Rattle.wac_graph_asks.specs.declared.classes.Classes.{Classes}
use Rattle.wac_graph_asks.specs.declared.outers.Outers.{Outers}
use Rattle.wac_graph_asks.specs.declared.taken.Taken.{Taken}
use Rattle.wac_graph_asks.specs.AsksIn.{asks_in}
use Rattle.wac_graph_asks.specs.Classed.{AreLabels, AreSpellings}
use Rattle.wac_graph_asks.specs.Takes.{AreSound, AreTaken, RefusesAll}
use Rattle.wac_graph_asks.specs.Outers.{AreOuters}

-- ---- imports

-- it is the outer import of these asks, and stands
pub record IsImport (d : Collection) (asks : List (Ask ℕ)) (e : Name × ItemKind) : Type 0 where
  pub stands : Stands d e.1
  pub outer : IsOuter d asks e

-- Imports of these labels, one of each, in order. No two have one name.
pub record AreImports (d : Collection) (asks : List (Ask ℕ)) (labels each : List ℕ)
    (imports : List (Name × ItemKind)) : Type 0 where
  pub outers : List (ℕ × (Name × ItemKind))
  pub of_labels : names_of outers ≡ each
  pub are : values_of outers ≡ imports
  pub each_is : (l : ℕ) (e : Name × ItemKind) → Among (l, e) outers → IsImport d (labelled l asks labels) e
  pub distinct : AreDistinct (names_of imports)

-- what is kept is put under the spelling
pub record AddsImport (c : Collection) (kept : Kept) (n : Name) (d : Collection)
    (old new : List (Name × ItemKind)) : Type 0 where
  pub item : ItemKind
  pub put : new ≡ put_entry old n item
  pub spells : Spells c kept n d item
  pub stands : Stands c kept.item → Stands d item

-- asks that stand, with their classes
pub record AreClassed (c : Collection) (held : List HeldAsk) (classes : Classes) : Type 0 where
  pub stand : (x : HeldAsk) → Among x held → Stands c x.item
  pub labels : AreLabels (asks_in c held) classes.labels.items
  pub spellings : AreSpellings (asks_in c held) classes.labels.items classes.spellings.items

-- this is what the classes of the asks keep
abbrev pub ClassesKeep : Asked → Classes → List (ℕ × Taken) → Type 0
ClassesKeep a classes taken = AreTaken a.types a.asks.items (asks_in a.types a.asks.items) classes.labels.items taken

-- of each class what it keeps is put under its spelling
abbrev pub AddsImports : Collection → List HeldAsk → Classes → List (ℕ × Taken) → Collection → List (Name × ItemKind) → Type 0
AddsImports c held classes taken d imports =
    AreClassed c held classes → AreTaken c held (asks_in c held) classes.labels.items taken
    → AreImports d (asks_in c held) classes.labels.items (each_label classes.labels.items) imports

abbrev pub MakesImports : (old : Asked) → Classes → List (ℕ × Taken) → (new : Asked) → List (Name × ItemKind) → Type 0
MakesImports old classes taken new imports = AddsImports old.types old.asks.items classes taken new.types imports

-- a world uses nothing and exports nothing
pub record ImportsAlone (w : World) : Type 0 where
  pub uses : w.uses ≡ []
  pub exports : w.exports ≡ []

-- the world's imports are those
abbrev pub MakesWorld : (old : Asked) → Classes → List (ℕ × Taken) → (new : Asked) → WorldId → Type 0
MakesWorld old classes taken new w = MakesImports old classes taken new (imports_of new.types w)

-- an ask of these classes is refused
abbrev pub RefusesIn : Asked → Classes → Cause ℕ → AggregateError → Type 0
RefusesIn asked classes cause source = RefusesAll asked.types asked.asks.items classes.labels.items cause source

-- ---- places

-- the place is that of the label of an ask of this name
pub record PlacesAsk (held : List HeldAsk) (labels : List ℕ) (n : Name) (i : ℕ) : Type 0 where
  pub place : ℕ
  pub ask : HeldAsk
  pub label : ℕ
  pub there : slice_get held place ≡ Some ask
  pub named : n ≡ ask.name
  pub of_label : slice_get labels place ≡ Some label
  pub at : slice_get (each_label labels) i ≡ Some label

-- under each name is such a place, and under the name of each ask there is one
pub record ArePlaces (held : List HeldAsk) (labels : List ℕ) (places : List (Name × ℕ)) : Type 0 where
  pub each : (n : Name) (i : ℕ) → value_at places n ≡ Some i → PlacesAsk held labels n i
  pub all : (a : HeldAsk) → Among a held → IsSome (value_at places a.name)

-- the place of the label is put under the name
abbrev pub PutsPlace : (keys : List ℕ) (label : ℕ) → Name → (old new : List (Name × ℕ)) → Type 0
PutsPlace keys label n old new =
    Among label keys → (at : ℕ) × (slice_get keys at ≡ Some label) × (new ≡ put_entry old n at)

-- where there is one key for each label, places are put under all names
abbrev pub PutsAllPlaces : (held : List HeldAsk) (labels keys : List ℕ) → List (Name × ℕ) → Type 0
PutsAllPlaces held labels keys places = length labels ≡ length held → keys ≡ each_label labels → ArePlaces held labels places

abbrev pub PutsPlaces : (held : List HeldAsk) → Classes → List (ℕ × Taken) → List (Name × ℕ) → Type 0
PutsPlaces held classes taken places = PutsAllPlaces held classes.labels.items (keys_of taken) places

-- ---- both

-- of sound asks with their classes they are the outer imports
abbrev pub OutersOf : Collection → List HeldAsk → Classes → Collection → Outers → Type 0
OutersOf c held classes d o = AreSound c held → AreClassed c held classes → AreOuters (asks_in c held) d o.world o.places
