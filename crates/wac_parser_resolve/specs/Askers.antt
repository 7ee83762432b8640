-- Who is named in a cause that stands against what a document says: each of them has a place.
use Rattle.std.specs.Prelude.{◌≡◌, Bool, List, [], Option, Ok}
use Rattle.wac_types_base.specs.Entries.{Name}
use Rattle.wac_types_base.specs.Graph.{Among}
use Rattle.wac_types_base.specs.Stated.{Stated}
use Rattle.wac_types_names.specs.Keys.{Key}
use Rattle.wac_composition.specs.Asks.{used_by_definition}
use Rattle.wac_composition.specs.Conflicts.{Cause, ImplicitImport, ExplicitImport, ImportTypes}
use Rattle.wac_composition.specs.Against.{StandsAgainst}
use Rattle.wac_parser_tree.specs.Trees as t
use Rattle.wac_parser_declare.specs.Packages.{Content}
use Rattle.wac_parser_resolve.specs.Ascribed.{Asker, by_import, by_instance, by_definition, composition}
use Rattle.wac_parser_resolve.specs.Ascribing.{State}
use Rattle.wac_parser_resolve.specs.Meeting.{resolved}

-- it is an import statement that asks
abbrev pub IsByImport : Asker → Type 0
IsByImport (by_import i) = Unit {0}
IsByImport a = ⊥

-- it is a `new` that asks
abbrev pub IsByNew : Asker → Type 0
IsByNew (by_instance k s) = Unit {0}
IsByNew a = ⊥

-- it is one of them, and so has a place
abbrev pub HasPlace : Asker → Type 0
HasPlace by_definition = ⊥
HasPlace a = Unit {0}

-- a cause of an import and a `new` names these, one of imports names imports, and no other names a definition
abbrev pub IsAskedSo : Cause Asker → Type 0
IsAskedSo (ImplicitImport n i f) = IsByImport i × IsByNew f
IsAskedSo (ExplicitImport n a b) = IsByImport a × IsByImport b
IsAskedSo (ImportTypes n a b) = HasPlace a × HasPlace b
IsAskedSo x = Unit {0}

-- what a document defines asks nothing: an interface or a world that it declares has an identifier, and is written as a
-- component type
abbrev pub Definitions_ask_nothing : Type 0
Definitions_ask_nothing = (d : t.Document) (ps : List (Key × Content)) (r : State × Option Stated) → resolved d ps ≡ Ok r
    → (e : Name × Stated) → Among e r.0.definitions → used_by_definition e.1 ≡ []

abbrev pub Askers_have_places : Type 0
Askers_have_places = (d : t.Document) (ps : List (Key × Content)) (r : State × Option Stated)
    → resolved d ps ≡ Ok r → (define : Bool) (x : Cause Asker) → StandsAgainst define (composition r.0) x → IsAskedSo x
