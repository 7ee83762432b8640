-- What is answered of a whole document: what it says and targets, over the packages that are handed in, or its first cause.
use Rattle.std.specs.Prelude.{◌≡◌, ℕ, List, Option, Some, Result, Ok, Err}
use Rattle.indexmap.specs.IndexMap.{IndexMap}
use Rattle.wac_types_base.specs.declared.ids.WorldId.{WorldId}
use Rattle.wac_types_base.specs.Entries.{Name, names_of}
use Rattle.wac_types_base.specs.Stated.{Stated}
use Rattle.wac_types_names.specs.declared.package.BorrowedPackageKey.{BorrowedPackageKey}
use Rattle.wac_types_names.specs.Keys.{package_key}
use Rattle.wac_types_names.specs.Packaged.{Packaged}
use Rattle.wac_graph_core.specs.declared.ids.PackageId.{PackageId}
use Rattle.wac_graph_core.specs.Graph.{Graph, package_of}
use Rattle.wac_parser_tree.specs.Trees as t
use Rattle.wac_parser_tree.specs.Trees.{Span}
use Rattle.wac_parser_tree.specs.declared.document.Document.{Document}
use Rattle.wac_parser_tree.specs.Views.{view_document}
use Rattle.wac_parser_refusals.specs.declared.error.Error.{Error}
use Rattle.wac_parser_refusals.specs.declared.refusal.Refusal.{Refusal}
use Rattle.wac_parser_refusals.specs.Causes.{Answer}
use Rattle.wac_parser_refusals.specs.Outcomes.{IsHeld, IsMemory, IsOutcome, Tells}
use Rattle.wac_parser_refusals.specs.Views.{cause_of}
use Rattle.wac_parser_declare.specs.Scope.{package_under}
use Rattle.wac_parser_resolve.specs.declared.packages.PackageRef.{PackageRef}
use Rattle.wac_parser_resolve.specs.declared.resolver.Said.{Said}
use Rattle.wac_parser_resolve.specs.declared.state.State.{State as Held}
use Rattle.wac_parser_resolve.specs.Ascribing.{State, start}
use Rattle.wac_parser_resolve.specs.Holding.{Says}
use Rattle.wac_parser_resolve.specs.InTargets.{HoldsTarget}
use Rattle.wac_parser_resolve.specs.Knowing.{content_of, handed_list}
use Rattle.wac_parser_resolve.specs.Meeting.{resolved}
use Rattle.wac_parser_resolve.specs.Resolved.{Places, places_said}
use Rattle.wac_parser_resolve.specs.Said.{AreAsked, AreDeclared, AreExported, IsSaid}

-- ---- the code's state

-- nothing is said yet, in any document over these packages
abbrev pub Starts : {S : Type 0} → IndexMap BorrowedPackageKey PackageRef S → Held → Type 0
Starts m b = (d : t.Document) → IsSaid d.directive.«package» b (start d (handed_list m))

-- where things stand that were said
abbrev pub places_in : Held → Places
places_in b = record { imports = b.imports.noted.items; ids = b.ids.noted.items; instances = b.board.instances.noted.items }

-- ---- what callers see

-- the graph holds what is said: instances and imports, which stand at these places, the nodes of the root's names, definitions,
-- and exports with the places of their names; each of its packages is one that was handed in, with its world and its bytes
pub record IsBuilt (g : Graph) (at : Places) (s : State) : Type 0 where
  pub names : List (Name × ℕ)
  pub says : Says g at.instances names s
  pub imports : AreAsked g at.imports at.ids s.imports
  pub definitions : AreDeclared g s.definitions
  pub exported : List (ℕ × Span)
  pub exports : AreExported g (names_of at.instances) exported s.exports
  pub packages : (id : PackageId) (p : Packaged) → package_of g id ≡ Some p
      → package_under s.packages (package_key p) ≡ Some (content_of g.types p)

-- the error names the cause; want of memory may always be answered
abbrev pub IsErrorOf : {A : Type 0} → Answer A → Error → Type 0
IsErrorOf (Ok a) e = IsMemory (cause_of e)
IsErrorOf (Err c) e = Tells (cause_of e) c

abbrev pub IsAnswer : {A B : Type 0} → (A → B → Type 0) → Answer A → Result B Error → Type 0
IsAnswer holds q (Ok b) = IsHeld holds q b
IsAnswer holds q (Err e) = IsErrorOf q e

-- the graph, the places and the target are those of what a document says and targets
abbrev pub HoldsAll : State × Option Stated → Graph → Places → Option WorldId → Type 0
HoldsAll q g at target = IsBuilt g at q.0 × HoldsTarget g.types q.1 target

-- what a document is resolved to: a graph that holds what it says at its places, with the world that it targets; or its first
-- cause
abbrev pub IsResolved : {B S : Type 0} → (B → Graph) → (B → Places) → (B → Option WorldId) → t.Document
    → IndexMap BorrowedPackageKey PackageRef S → Result B Error → Type 0
IsResolved graph places target d m r =
    IsAnswer (λ q b. HoldsAll q (graph b) (places b) (target b)) (resolved d (handed_list m)) r

-- the same without the document
abbrev pub IsSaidOf : {S : Type 0} → Document → IndexMap BorrowedPackageKey PackageRef S → Result Said Refusal → Type 0
IsSaidOf d m r =
    IsOutcome (λ q (said : Said). HoldsAll q said.graph (places_said said) said.target)
    (resolved (view_document d) (handed_list m)) r
