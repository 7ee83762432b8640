-- What is answered where a graph is tested against a target: what is stated of the nodes that are noted, in order, or the first
-- cause.
use Rattle.std.specs.Prelude.{◌≡◌, ℕ, true, false, Bool, List, [], map, Option, Some, None, option_map, slice_get, Result, Ok, Err, ⊤, IsSome, if◌then◌else◌}
use Rattle.wac_types_base.specs.Parts.{imports_in_world}
use Rattle.wac_types_base.specs.declared.ids.WorldId.{WorldId}
use Rattle.wac_types_base.specs.declared.item.ExternKind.{ExternKind}
use Rattle.wac_types_base.specs.declared.item.ItemKind.{ItemKind}
use Rattle.wac_types_base.specs.declared.item.«Type».{«Type» as TypeKind}
use Rattle.wac_types_base.specs.declared.defined.World.{World}
use Rattle.wac_types_base.specs.declared.implicit.TargetError.{TargetError}
use Rattle.wac_types_base.specs.Record.{Collection}
use Rattle.wac_types_base.specs.Entries.{Name, has_name, names_of, value_at, with_values}
use Rattle.wac_types_base.specs.Graph.{Among}
use Rattle.wac_types_base.specs.Stated.{Stated, desc, exports_of, promote, stated_in, stated_of}
use Rattle.wac_types_fit.specs.declared.checker.SubtypeCheck.{SubtypeCheck}
use Rattle.wac_types_fit.specs.declared.error.SubtypeError.{SubtypeError}
use Rattle.wac_types_fit.specs.Errors.{words_of}
use Rattle.wac_types_names.specs.Packaged.{Packaged}
use Rattle.wac_composition.specs.Tests.{fits}
use Rattle.wac_graph_core.specs.Nodes.{NodeData}
use Rattle.wac_graph_core.specs.NodeMaps.{IsImport}
use Rattle.wac_graph_core.specs.Exporting.{import_name_of}
use Rattle.wac_graph_core.specs.Listing.{passed_to}
use Rattle.wac_graph_core.specs.Graph.{Graph, ContainsNode, instantiated, node_at}
use Rattle.wac_parser_tree.specs.Trees as t
use Rattle.wac_parser_tree.specs.Trees.{Span}
use Rattle.wac_parser_tree.specs.declared.document.Document.{Document}
use Rattle.wac_parser_tree.specs.declared.document.PackageDirective.{PackageDirective}
use Rattle.wac_parser_tree.specs.declared.import.PackageName.{PackageName}
use Rattle.wac_parser_tree.specs.declared.import.PackagePath.{PackagePath}
use Rattle.wac_parser_tree.specs.Views.{view_package_name, view_package_path, view_statement}
use Rattle.wac_parser_refusals.specs.declared.refusal.Refusal.{Refusal}
use Rattle.wac_parser_refusals.specs.Causes.{Answer, Cause, Fault, ◌>>=◌, each, pure, refuse, ImportNotInTarget, MissingTargetExport, TargetMismatch, TypeCannotBeWritten}
use Rattle.wac_parser_refusals.specs.Sources.{TellsBetween, reported}
use Rattle.wac_parser_refusals.specs.Views.{Names, anywhere, checked_at, maybe_at}
use Rattle.wac_parser_refusals.specs.Outcomes.{IsOutcome}
use Rattle.wac_parser_declare.specs.Holding.{Holds}
use Rattle.wac_parser_resolve.specs.declared.targets.Noted.{Noted}
use Rattle.wac_parser_resolve.specs.declared.state.State.{State as Held}
use Rattle.wac_parser_resolve.specs.declared.targets.Asked.{Asked}
use Rattle.wac_parser_resolve.specs.declared.targets.Place.{Place}
use Rattle.wac_parser_resolve.specs.declared.targets.Target.{Target}
use Rattle.wac_parser_resolve.specs.Ascribing.{State}
use Rattle.wac_parser_resolve.specs.Denoting.{fitting}
use Rattle.wac_parser_resolve.specs.Giving.{gives_of}
use Rattle.wac_parser_resolve.specs.Holding.{Says}
use Rattle.wac_parser_resolve.specs.Meeting as stated
use Rattle.wac_parser_resolve.specs.Meeting.{Wanted, uses_are_named, import_met}
use Rattle.wac_parser_resolve.specs.Said.{AreAsked, AreExported, IsSaid, last_noted}
use Rattle.wac_parser_resolve.specs.Saying.{statement}
use Rattle.wac_parser_resolve.specs.Targeting.{AreExportsMet, Gives, IsInstanceMet, IsStatementMet}

-- nothing but whether it is refused
abbrev pub IsTold : Answer ⊤ → Result ⊤ Refusal → Type 0
IsTold q r = IsOutcome (λ u v. Unit {0}) q r

-- each is tested, in order
abbrev pub all_pass : {A : Type 0} → (A → Answer ⊤) → List A → Answer ⊤
all_pass f xs = each (λ u x. f x) tt xs

-- ---- one that fits another

abbrev pub IsAnswerOf : Result ⊤ SubtypeError → Option SubtypeError → Type 0
IsAnswerOf r None = r ≡ Ok tt
IsAnswerOf r (Some e) = (r ≡ Err e) × (e ≡ SubtypeError.Memory → ⊥)

abbrev pub fit_in : Collection → ItemKind → ItemKind → Bool
fit_in c given asked = fits (stated_of c given) (stated_of c asked)

-- the error tells where the two disagree, by this direction; none where they fit
abbrev pub TellsMismatch : SubtypeCheck → Collection → ItemKind → ItemKind → Option SubtypeError → Type 0
TellsMismatch way c given asked None = fit_in c given asked ≡ true
TellsMismatch way c given asked (Some e) =
    (fit_in c given asked ≡ false) × TellsBetween way (stated_of c given) (stated_of c asked) (reported (words_of e))

-- a check that is turned about
abbrev pub turned_by : Bool → SubtypeCheck
turned_by false = SubtypeCheck.Covariant
turned_by true = SubtypeCheck.Contravariant

-- what is imported is checked turned about
abbrev pub way_of : ExternKind → SubtypeCheck
way_of ExternKind.Import = SubtypeCheck.Contravariant
way_of ExternKind.Export = SubtypeCheck.Covariant

-- ---- causes

abbrev pub lacks_import : Target → Asked → Option Cause
lacks_import t a = maybe_at (ImportNotInTarget a.name.now t.path.now.string.now) a.span

abbrev pub mismatch_in : Target → Place → Fault
mismatch_in t p = TargetMismatch p.kind p.name.now t.path.now.string.now

abbrev pub mismatched_at : Target → Place → SubtypeError → Option Cause
mismatched_at t p e = checked_at (mismatch_in t p) p.span e

abbrev pub lacks_export : Target → Name → Name → Fault
lacks_export t n kind = MissingTargetExport n kind t.path.now.string.now

abbrev pub fit_test : Target → Collection → ItemKind → ItemKind → Place → Answer ⊤
fit_test t c given asked p = fitting (way_of p.kind) (stated_of c given) (stated_of c asked) (mismatch_in t p) p.span

abbrev pub IsFitTested : Target → Collection → ItemKind → ItemKind → Place → Result ⊤ Refusal → Type 0
IsFitTested t c given asked p r = IsTold (fit_test t c given asked p) r

-- ---- imports

abbrev pub path_of : Target → t.PackagePath
path_of t = view_package_path t.path.now

-- the test of what is imported, by what the target gives
abbrev pub import_test : Target → Collection → Wanted → Answer ⊤
import_test t c a = import_met (path_of t) a (option_map (stated_of c) (gives_of t a.name))

abbrev pub asked_in : Collection → Name → ItemKind → Option Span → Wanted
asked_in c n k s = record { name = n; item = stated_of c k; span = s }

abbrev pub IsImportTested : Target → Collection → Asked → Result ⊤ Refusal → Type 0
IsImportTested t c a r = IsTold (import_test t c (asked_in c a.name.now a.kind a.span)) r

-- the item of a node
abbrev pub item_in : Graph → Option NodeData → Stated
item_in g None = stated_in None
item_in g (Some x) = stated_of g.types x.item_kind

abbrev pub node_item : Graph → ℕ → Stated
node_item g k = item_in g (node_at g k)

-- the node, where it is an import, with the place of its name
abbrev pub statement_by : Target → Graph → ℕ → Span → Option Name → Answer ⊤
statement_by t g k s None = pure tt
statement_by t g k s (Some n) = import_test t g.types (record { name = n; item = node_item g k; span = Some s })

abbrev pub statement_test : Target → Graph → ℕ × Span → Answer ⊤
statement_test t g e = statement_by t g e.0 e.1 (import_name_of (node_at g e.0))

abbrev pub IsStatementTested : Target → Graph → ℕ → Span → Result ⊤ Refusal → Type 0
IsStatementTested t g k s r = IsTold (statement_test t g (k, s)) r

abbrev pub AreStatementsTested : Target → Graph → List (ℕ × Span) → Result ⊤ Refusal → Type 0
AreStatementsTested t g noted r = IsTold (all_pass (statement_test t g) noted) r

-- ---- imports of instances

-- something is passed to the instance under the name
abbrev pub is_passed_in : Graph → ℕ → Name → Bool
is_passed_in g i n = has_name (names_of (passed_to g i)) n

-- an import of an instance, where nothing is passed to it
abbrev pub filled_test : Target → Graph → ℕ → Name × ItemKind → Answer ⊤
filled_test t g i e = if is_passed_in g i e.0 then pure tt else import_test t g.types (asked_in g.types e.0 e.1 None)

abbrev pub IsFilledTested : Target → Graph → ℕ → Name → ItemKind → Result ⊤ Refusal → Type 0
IsFilledTested t g i n k r = IsTold (filled_test t g i (n, k)) r

abbrev pub AreFilledTested : Target → Graph → ℕ → List (Name × ItemKind) → Result ⊤ Refusal → Type 0
AreFilledTested t g i es r = IsTold (all_pass (filled_test t g i) es) r

-- the imports of the world of a package
abbrev pub package_imports : Graph → Option Packaged → List (Name × ItemKind)
package_imports g None = []
package_imports g (Some p) = imports_in_world (slice_get g.types.worlds p.ty.index)

abbrev pub instance_test : Target → Graph → ℕ → Answer ⊤
instance_test t g k = all_pass (filled_test t g k) (package_imports g (instantiated g k))

abbrev pub IsInstanceTested : Target → Graph → ℕ → Result ⊤ Refusal → Type 0
IsInstanceTested t g k r = IsTold (instance_test t g k) r

abbrev pub AreInstancesTested : Target → Graph → List (ℕ × Span) → Result ⊤ Refusal → Type 0
AreInstancesTested t g noted r = IsTold (all_pass (λ e. instance_test t g e.0) noted) r

-- ---- exports

-- the node that is exported fits the target's export
abbrev pub export_at : Target → Graph → List (ℕ × Span) → Name × ItemKind → Option ℕ → Answer ⊤
export_at t g spans e None = refuse (lacks_export t e.0 (desc (stated_of g.types e.1))) t.path.now.span
export_at t g spans e (Some k) =
    fitting SubtypeCheck.Covariant (node_item g k) (promote (stated_of g.types e.1))
    (TargetMismatch ExternKind.Export e.0 t.path.now.string.now) (last_noted spans k)

abbrev pub export_test : Target → Graph → List (ℕ × Span) → Name × ItemKind → Answer ⊤
export_test t g spans e = export_at t g spans e (value_at g.exports e.0)

abbrev pub IsExportTested : Target → Graph → List (ℕ × Span) → Name → ItemKind → Result ⊤ Refusal → Type 0
IsExportTested t g spans n k r = IsTold (export_test t g spans (n, k)) r

abbrev pub AreExportsTested : Target → Graph → List (ℕ × Span) → List (Name × ItemKind) → Result ⊤ Refusal → Type 0
AreExportsTested t g spans es r = IsTold (all_pass (export_test t g spans) es) r

-- ---- what is noted

-- each node that is noted stands in the graph
abbrev pub StandNoted : Graph → List (ℕ × Span) → Type 0
StandNoted g noted = (k : ℕ) → Among k (names_of noted) → ContainsNode g k

-- each import and each instance is noted
pub record AreAllNoted (g : Graph) (is ms : List (ℕ × Span)) : Type 0 where
  pub imports : (k : ℕ) (n : Name) → IsImport g.nodes k n → Among k (names_of is)
  pub instances : (k : ℕ) → IsSome (instantiated g k) → Among k (names_of ms)

abbrev pub AreStatementsMet : Graph → Gives → List (ℕ × Span) → Type 0
AreStatementsMet g given noted = (k : ℕ) → Among k (names_of noted) → IsStatementMet g given k

abbrev pub AreInstancesMet : Graph → Gives → List (ℕ × Span) → Type 0
AreInstancesMet g given noted = (k : ℕ) → Among k (names_of noted) → IsInstanceMet g given k

-- those that are noted, and the exports of the target, are met
pub record AreNotedMet (g : Graph) (given : Gives) (is ms : List (ℕ × Span)) (es : List (Name × ItemKind)) : Type 0 where
  pub statements : AreStatementsMet g given is
  pub instances : AreInstancesMet g given ms
  pub exports : AreExportsMet g es

-- the same of what the code has noted
abbrev pub NotedIsMet : Target → Graph → Noted → List (Name × ItemKind) → Type 0
NotedIsMet tg g noted es = AreNotedMet g (gives_of tg) noted.imports.now.noted.items noted.instances.now.noted.items es

-- the code has noted each import and each instance
abbrev pub IsAllNoted : Graph → Noted → Type 0
IsAllNoted g noted = AreAllNoted g noted.imports.now.noted.items noted.instances.now.noted.items

-- ---- the target

-- the target as the code holds it: its path, what it gives, its exports
pub record IsTargetFor (tg : Target) (c : Collection) (es : List (Name × ItemKind)) (p : t.PackagePath)
    (w : Stated) : Type 0 where
  pub path : p ≡ path_of tg
  pub gives : (n : Name) → stated.given_by w n ≡ option_map (stated_of c) (gives_of tg n)
  pub named : uses_are_named w ≡ true
  pub exports : exports_of w ≡ with_values (stated_of c) es

-- what was said meets the target, or the first cause why it does not
abbrev pub MeetsTarget : Target → Graph → List (ℕ × Span) → List (ℕ × Span) → List (ℕ × Span) → List (Name × ItemKind)
    → Result ⊤ Refusal → Type 0
MeetsTarget tg g imports instances spans es r =
    (ids : List (ℕ × Span)) (names : List (Name × ℕ)) (s : State) (p : t.PackagePath) (w : Stated)
    → IsTargetFor tg g.types es p w
    → AreAsked g imports ids s.imports → Says g instances names s → AreExported g (names_of instances) spans s.exports
    → IsTold (stated.target_met s p w) r

-- what is noted meets the target
abbrev pub NotedMeets : Target → Graph → Noted → List (Name × ItemKind) → Result ⊤ Refusal → Type 0
NotedMeets tg g noted es r =
    MeetsTarget tg g noted.imports.now.noted.items noted.instances.now.noted.items noted.exports.now.noted.items es r

abbrev pub IsFaultOf : PackagePath → TargetError → Refusal → Type 0
IsFaultOf p TargetError.Memory e = e ≡ Refusal.Memory
IsFaultOf p TargetError.UsedWithoutIdentifier e = Names e (anywhere (TypeCannotBeWritten p.string.now))

-- what the nodes that are noted say meets the world, or the first cause why it does not
abbrev pub IsTargetMet : PackagePath → Graph → List (ℕ × Span) → List (ℕ × Span) → List (ℕ × Span) → WorldId → Result ⊤ Refusal
    → Type 0
IsTargetMet p g imports instances exports w r = (ids : List (ℕ × Span)) (names : List (Name × ℕ)) (s : State)
    → AreAsked g imports ids s.imports → Says g instances names s → AreExported g (names_of instances) exports s.exports
    → IsTold (stated.target_met s (view_package_path p) (stated_of g.types (ItemKind.Component w))) r

-- what is noted meets the world
abbrev pub NotedMeetsWorld : PackagePath → Graph → Noted → WorldId → Result ⊤ Refusal → Type 0
NotedMeetsWorld p g noted w r =
    IsTargetMet p g noted.imports.now.noted.items noted.instances.now.noted.items noted.exports.now.noted.items w r

-- ---- in a document

-- the code's state is what something says, in a document of this package
abbrev pub HasSaid : PackageName → Held → Type 0
HasSaid own b = (s : State) × IsSaid (view_package_name own) b s

-- each import and each instance that is noted stands
pub record AreStanding (b : Held) : Type 0 where
  pub imports : StandNoted b.board.types.graph b.imports.noted.items
  pub instances : StandNoted b.board.types.graph b.board.instances.noted.items

-- each import and each instance is noted
abbrev pub AreNotedAll : Held → Type 0
AreNotedAll b = AreAllNoted b.board.types.graph b.imports.noted.items b.board.instances.noted.items

abbrev pub StateMeets : PackagePath → Held → WorldId → Result ⊤ Refusal → Type 0
StateMeets p b w r =
    IsTargetMet p b.board.types.graph b.imports.noted.items b.board.instances.noted.items b.exports.noted.items w r

abbrev pub IsWorldHeld : Collection → Stated → WorldId → Type 0
IsWorldHeld c w id = Holds c w (ItemKind.Component id)

-- the world that a type is, and nothing else
abbrev pub world_in_type : TypeKind → Option WorldId
world_in_type (TypeKind.World id) = Some id
world_in_type ty = None

abbrev pub world_in : ItemKind → Option WorldId
world_in (ItemKind.Ty ty) = world_in_type ty
world_in k = None

abbrev pub IsTargetWorld : PackagePath → PackageName → Held → Held → Result WorldId Refusal → Type 0
IsTargetWorld p own old new r = (s : State) → IsSaid (view_package_name own) old s
    → IsOutcome (IsWorldHeld new.board.types.graph.types) (stated.target_world s (view_package_path p)) r

-- the world of the directive, which is met
abbrev pub HoldsTarget : Collection → Option Stated → Option WorldId → Type 0
HoldsTarget c None None = Unit {0}
HoldsTarget c (Some w) (Some id) = IsWorldHeld c w id
HoldsTarget c None (Some id) = ⊥
HoldsTarget c (Some w) None = ⊥

abbrev pub IsTargetOf : PackagePath → PackageName → Held → Held → Result WorldId Refusal → Type 0
IsTargetOf p own old new r = (s : State) → IsSaid (view_package_name own) old s
    → IsOutcome (λ o id. HoldsTarget new.board.types.graph.types o (Some id)) (stated.target s (Some (view_package_path p))) r

abbrev pub MayBeTarget : PackageDirective → Held → Held → Result (Option WorldId) Refusal → Type 0
MayBeTarget d old new r = (s : State) → IsSaid (view_package_name d.«package») old s
    → IsOutcome (HoldsTarget new.board.types.graph.types) (stated.target s (option_map view_package_path d.targets)) r

-- what the statements say, and the world of the directive, which they meet
abbrev pub HoldsDocument : PackageName → Held → State × Option Stated → Option WorldId → Type 0
HoldsDocument own b q w = IsSaid (view_package_name own) b q.0 × HoldsTarget b.board.types.graph.types q.1 w

abbrev pub IsDocumentSaid : Document → Held → Held → Result (Option WorldId) Refusal → Type 0
IsDocumentSaid d old new r = (s : State) → IsSaid (view_package_name d.directive.«package») old s
    → IsOutcome (HoldsDocument d.directive.«package» new)
    (each statement s (map view_statement d.statements.items)
    >>= λ g. stated.target g (option_map view_package_path d.directive.targets) >>= λ w. pure (g, w)) r
