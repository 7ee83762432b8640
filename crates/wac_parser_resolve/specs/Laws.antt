-- What holds of each ascribed composition.
use Rattle.std.specs.Prelude.{◌≡◌, ℕ, Bool, Option, List, Some, Ok, Err, is_ok, slice_get}
use Rattle.semver.specs.Parse.{Parts}
use Rattle.wac_types_base.specs.Entries.{names_of}
use Rattle.wac_types_base.specs.Graph.{Among}
use Rattle.wac_types_base.specs.Stated.{Stated}
use Rattle.wac_types_names.specs.Keys.{Key}
use Rattle.wac_graph_bytes.specs.Wirings.{Tag, IsOrdered}
use Rattle.wac_composition.specs.Composition as c
use Rattle.wac_composition.specs.Composition.{Placed, Composition}
use Rattle.wac_composition.specs.OuterLaws.{AreMet}
use Rattle.wac_composition.specs.Sound.{IsWired}
use Rattle.wac_composition.specs.Wired.{composed_wiring}
use Rattle.wac_composition.specs.Worlds.{composed_world}
use Rattle.wac_parser_tree.specs.Trees as t
use Rattle.wac_parser_tree.specs.Bare.{bare}
use Rattle.wac_parser_tree.specs.Named.{Tracked, packages_named, tracks_named}
use Rattle.wac_parser_refusals.specs.Causes.{Answer}
use Rattle.wac_parser_declare.specs.Packages.{Content}
use Rattle.wac_parser_declare.specs.Scope.{package_under}
use Rattle.wac_parser_resolve.specs.Ascribing.{State, worlds_of}
use Rattle.wac_parser_resolve.specs.Choosing.{greatest_on}
use Rattle.wac_parser_resolve.specs.Denoting.{version_key}
use Rattle.wac_parser_resolve.specs.Meeting.{resolved}
use Rattle.wac_parser_resolve.specs.Proper.{AreProper}
use Rattle.wac_parser_resolve.specs.Ascribed.{Asker, ascribed, composition}

-- each instance is of a package handed in, with the world of that package
abbrev pub Packages_are_known : Type 0
Packages_are_known = (d : t.Document) (ps : List (Key × Content)) (r : State × Option Stated)
    → resolved d ps ≡ Ok r → (k : ℕ) (m : c.Made Asker ℕ)
    → slice_get (composition r.0).made k ≡ Some m → package_under (worlds_of ps) m.key ≡ Some m.world

-- what is said stays over the packages that are handed in
abbrev pub Packages_stay : Type 0
Packages_stay =
    (d : t.Document) (ps : List (Key × Content)) (r : State × Option Stated) → resolved d ps ≡ Ok r → r.0.packages ≡ ps

-- an instance's sources name earlier instances, and the exports' instances that are there
abbrev pub Wirings_are_ordered : Type 0
Wirings_are_ordered = (d : t.Document) (ps : List (Key × Content)) (define : Bool) (x : Composition Asker ℕ × Option Stated)
    → Ok x ≡ ascribed define d ps → (tag_of : Key → Tag) → IsOrdered (composed_wiring tag_of x.0)

-- what a document says over packages with proper worlds is wired where each of its asks is met
abbrev pub Resolved_are_wired : Type 0
Resolved_are_wired = (d : t.Document) (ps : List (Key × Content)) (r : State × Option Stated)
    → AreProper (worlds_of ps) → resolved d ps ≡ Ok r → AreMet (composition r.0) → (tag_of : Key → Tag)
    → IsWired tag_of (composition r.0)

-- what an accepted document ascribes over packages with proper worlds is wired: each import of each instance is bound once, to
-- what fits it and was there before, and the world that is handed out is true
abbrev pub Documents_are_wired : Type 0
Documents_are_wired = (d : t.Document) (ps : List (Key × Content)) (define : Bool) (x : Composition Asker ℕ × Option Stated)
    → AreProper (worlds_of ps) → Ok x ≡ ascribed define d ps → (tag_of : Key → Tag) → IsWired tag_of x.0

-- ---- what a document's meaning depends on

-- the package of a key has the same world in both
abbrev pub IsTheSame : List (Key × Content) → List (Key × Content) → Key → Type 0
IsTheSame ps qs k = package_under (worlds_of ps) k ≡ package_under (worlds_of qs) k

-- the greatest version on a track is the same in both, and its package has the same world
pub record ChoosesTheSame (ps qs : List (Key × Content)) (x : Tracked) : Type 0 where
  pub greatest : greatest_on (names_of ps) x.0 x.1 ≡ greatest_on (names_of qs) x.0 x.1
  pub world : (v : Parts) → greatest_on (names_of ps) x.0 x.1 ≡ Some v → IsTheSame ps qs (version_key x.0 v)

-- this holds of the packages and of the tracks that a document names
pub record NamesTheSame (d : t.Document) (ps qs : List (Key × Content)) : Type 0 where
  pub packages : (k : Key) → Among k (packages_named d) → IsTheSame ps qs k
  pub tracks : (x : Tracked) → Among x (tracks_named d) → ChoosesTheSame ps qs x

-- both are accepted, with one wiring, one world and one target, or both are refused
abbrev pub AreWiredAlike : Answer (Composition Asker ℕ × Option Stated) → Answer (Composition Asker ℕ × Option Stated) → Type 0
AreWiredAlike (Ok x) (Ok y) = ((tag_of : Key → Tag) → composed_wiring tag_of x.0 ≡ composed_wiring tag_of y.0)
    × (composed_world x.0 ≡ composed_world y.0)
    × (x.1 ≡ y.1)
AreWiredAlike (Err a) (Err b) = Unit {0}
AreWiredAlike x y = ⊥

-- whether a document is accepted depends only on its tree without spans and doc comments, and on the worlds of the packages that
-- it names, by their versions or by tracks
abbrev pub Acceptance_is_of_trees : Type 0
Acceptance_is_of_trees = (d e : t.Document) (ps qs : List (Key × Content))
    → bare d ≡ bare e → NamesTheSame d ps qs → is_ok (resolved d ps) ≡ is_ok (resolved e qs)

-- and so do its wiring, its world and its target
abbrev pub Wiring_is_of_trees : Type 0
Wiring_is_of_trees = (d e : t.Document) (ps qs : List (Key × Content)) (define : Bool)
    → bare d ≡ bare e → NamesTheSame d ps qs → AreWiredAlike (ascribed define d ps) (ascribed define e qs)
