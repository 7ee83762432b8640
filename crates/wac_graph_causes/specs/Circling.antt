-- Interfaces that could be written but for those that they use and that wait for them: which are held, and what is told of them.
use Rattle.std.specs.Prelude.{◌≡◌, ℕ, Bool, true, false, List, [], ◌∷◌, map, Option, None, option_map, filter_map}
use Rattle.std.specs.List.{flat_map}
use Rattle.std.specs.Option.{option_or}
use Rattle.wac_types_base.specs.declared.ids.WorldId.{WorldId}
use Rattle.wac_types_base.specs.declared.item.ItemKind.{ItemKind}
use Rattle.wac_types_base.specs.Record.{Collection}
use Rattle.wac_types_base.specs.Entries.{Name}
use Rattle.wac_types_base.specs.Graph.{Among}
use Rattle.wac_types_base.specs.Collection.{Stands}
use Rattle.wac_types_base.specs.Stated.{Stated, stated_of, stated_world}
use Rattle.wac_types_written.specs.Forms.{stated_items}
use Rattle.wac_graph_core.specs.declared.ids.PackageId.{PackageId}
use Rattle.wac_graph_core.specs.Graph.{Graph}
use Rattle.wac_composition.specs.Asks.{Ask}
use Rattle.wac_composition.specs.Classes.{spelling}
use Rattle.wac_composition.specs.Circles.{written_whole, written_package}
use Rattle.wac_composition.specs.Conflicts.{Cause, late_unwritable, outers_written}
use Rattle.wac_types_parts.specs.Parts.{imports_of}
use Rattle.wac_writable.specs.declared.writable.Test.{Test}
use Rattle.wac_writable.specs.Unnamed.{KnowsAll}
use Rattle.wac_graph_asks.specs.declared.asks.Definition.{Definition}
use Rattle.wac_graph_asks.specs.declared.outers.Outers.{Outers}
use Rattle.wac_graph_asks.specs.Outers.{AreOuters}
use Rattle.wac_graph_causes.specs.declared.circles.Written.{Written}
use Rattle.wac_graph_causes.specs.declared.error.Unwritten.{Unwritten}
use Rattle.wac_graph_causes.specs.declared.late.Late.{Late}
use Rattle.wac_graph_causes.specs.Alike.{dependency_of}
use Rattle.wac_graph_causes.specs.Late.{AddsLate, AreLate, late_in}
use Rattle.wac_graph_causes.specs.Unwritable.{TellsUnwritable, first_unwritable}

-- under another name
abbrev pub under_name : Name → Late → Late
under_name n l = record { name = n; item = l.item }

-- ---- what is composed, as it is held

abbrev pub form_in : Collection → Definition → Option (Name × Stated)
form_in c d = option_map (λ k. (d.name, stated_of c k)) d.copy

-- definitions in the forms in which they are written; those without copies are of no interface and of no world
abbrev pub forms_in : Collection → List Definition → List (Name × Stated)
forms_in c ds = filter_map (form_in c) ds

abbrev pub package_in : Graph → Collection → PackageId → WorldId → Name × Stated
package_in g c id w = (dependency_of g id, stated_world c w)

abbrev pub packages_in : Graph → Collection → List (PackageId × WorldId) → List (Name × Stated)
packages_in g c ps = map (λ p. package_in g c p.0 p.1) ps

-- none where components are defined
abbrev pub imported_packages : (define : Bool) → Graph → Collection → List (PackageId × WorldId) → List (Name × Stated)
imported_packages true g c ps = []
imported_packages false g c ps = packages_in g c ps

abbrev pub PackagesStand : Collection → List (PackageId × WorldId) → Type 0
PackagesStand c ps = (p : PackageId × WorldId) → Among p ps → Stands c (ItemKind.Component p.1)

-- the outer imports of the asks that have these, and of component types that stand in them, each as it is written
abbrev pub held_outers : List (Ask ℕ) → Collection → WorldId → List (Name × Stated)
held_outers asks c w = outers_written (spelling asks) (stated_items c (imports_of c w))

abbrev pub AddsOuters : (old new : Collection) → Outers → (before after : List Late) → Type 0
AddsOuters old new o before after =
    (asks : List (Ask ℕ)) → AreOuters asks old o.world o.places → AddsLate old new before after (held_outers asks old o.world)

-- ---- all

module _ (define : Bool) (g : Graph) where
  pub record AreHeldLate (old new : Collection) (o : Outers) (ps : List (PackageId × WorldId)) (ds : List Definition) (all : Written)
      : Type 0 where
    pub outers : (asks : List (Ask ℕ)) → AreOuters asks old o.world o.places
        → AreLate new all.outers.items (held_outers asks old o.world)
    pub definitions : AreLate new all.definitions.items (flat_map written_whole (forms_in old ds))
    pub packages : AreLate new all.packages.items (flat_map written_package (imported_packages define g old ps))

-- ---- what is told

-- the first of these that cannot be written
abbrev pub late_cause : (outer : Bool) → List (Name × Stated) → Option (Cause ℕ)
late_cause outer es = first_unwritable (late_unwritable outer) es

abbrev pub held_cause : Test → List Late → Option (Cause ℕ)
held_cause t ls = late_cause t.is_outer (late_in t.types.now ls)

-- where what is found of interfaces is true, and these stand
abbrev pub IfLate : Test → List Late → Type 0 → Type 0
IfLate t ls P = KnowsAll t.types.now t.unnamed.now → ((l : Late) → Among l ls → Stands t.types.now l.item) → P

abbrev pub LatePass : Test → List Late → Type 0
LatePass t ls = IfLate t ls (held_cause t ls ≡ None)

abbrev pub TellsLate : Test → List Late → Unwritten → Type 0
TellsLate t ls e = IfLate t ls (TellsUnwritable (held_cause t ls) e)

abbrev pub LatePasses : Test → Late → Type 0
LatePasses t l = LatePass t (l ∷ [])

abbrev pub TellsLateAt : Test → Late → Unwritten → Type 0
TellsLateAt t l e = TellsLate t (l ∷ []) e

-- of these, as they are held
abbrev pub PassLate : Collection → List Late → Type 0
PassLate c ls = (es : List (Name × Stated)) → AreLate c ls es → late_cause true es ≡ None

abbrev pub TellsHeld : Collection → List Late → Unwritten → Type 0
TellsHeld c ls e = (es : List (Name × Stated)) → AreLate c ls es → TellsUnwritable (late_cause true es) e

-- the first of outer imports, definitions and packages
abbrev pub first_late : (outers definitions packages : List (Name × Stated)) → Option (Cause ℕ)
first_late os ds ps = option_or (late_cause true os) (option_or (late_cause true ds) (late_cause true ps))

abbrev pub IfWritten : Collection → Written → ((os ds ps : List (Name × Stated)) → Type 0) → Type 0
IfWritten c all P = (os ds ps : List (Name × Stated)) → AreLate c all.outers.items os → AreLate c all.definitions.items ds
    → AreLate c all.packages.items ps → P os ds ps

abbrev pub PassWritten : Collection → Written → Type 0
PassWritten c all = IfWritten c all (λ os ds ps. first_late os ds ps ≡ None)

abbrev pub TellsWritten : Collection → Written → Unwritten → Type 0
TellsWritten c all e = IfWritten c all (λ os ds ps. TellsUnwritable (first_late os ds ps) e)

-- ---- the first that waits

module _ (define : Bool) (g : Graph) (c : Collection) (o : Outers) (ps : List (PackageId × WorldId)) (ds : List Definition) where
  abbrev pub held_circle : List (Ask ℕ) → Option (Cause ℕ)
  held_circle asks =
      first_late (held_outers asks c o.world) (flat_map written_whole (forms_in c ds))
      (flat_map written_package (imported_packages define g c ps))

  -- so it is of all asks whose outer imports these are
  abbrev pub IfOuters : (List (Ask ℕ) → Type 0) → Type 0
  IfOuters P = (asks : List (Ask ℕ)) → AreOuters asks c o.world o.places → P asks

  abbrev pub CirclesPass : Type 0
  CirclesPass = IfOuters (λ asks. held_circle asks ≡ None)

  abbrev pub TellsCircle : Unwritten → Type 0
  TellsCircle e = IfOuters (λ asks. TellsUnwritable (held_circle asks) e)
