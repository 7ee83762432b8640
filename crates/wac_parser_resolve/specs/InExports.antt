-- What is answered of exports: what is said then, over what was said, or the cause.
use Rattle.std.specs.Prelude.{◌≡◌, ℕ, Bool, true, false, not, List, filter, Option, Some, None, is_some, Result, ⊤, string_bytes, unwrap_or}
use Rattle.wac_parser_resolve.specs.InStatements.{DenotesOn}
use Rattle.wac_types_base.specs.declared.item.ExternKind.{ExternKind}
use Rattle.wac_types_base.specs.declared.item.ItemKind.{ItemKind}
use Rattle.wac_types_base.specs.declared.ids.InterfaceId.{InterfaceId}
use Rattle.wac_types_base.specs.Entries.{Name, names_of, value_at}
use Rattle.wac_types_base.specs.Stated.{exports_of, kind_of, stated_of}
use Rattle.wac_composition.specs.Classes.{is_instance_kind}
use Rattle.wac_graph_core.specs.declared.error.ExportError.{ExportError}
use Rattle.wac_graph_core.specs.Nodes.{NodeData, Role}
use Rattle.wac_graph_core.specs.Graph.{Graph, node_at}
use Rattle.wac_parser_tree.specs.Trees as t
use Rattle.wac_parser_tree.specs.Trees.{Span}
use Rattle.wac_parser_refusals.specs.declared.refusal.Refusal.{Refusal}
use Rattle.wac_parser_refusals.specs.Causes.{Answer, Cause, DuplicateExternName, InvalidExternName, each}
use Rattle.wac_parser_refusals.specs.Outcomes.{IsOutcome}
use Rattle.wac_parser_refusals.specs.Views.{at_place}
use Rattle.wac_parser_declare.specs.declared.scope.Binding.{Binding}
use Rattle.wac_parser_declare.specs.Holding.{scope_of}
use Rattle.wac_parser_resolve.specs.declared.exports.Definition.{Definition}
use Rattle.wac_parser_resolve.specs.declared.exports.ExportName.{ExportName}
use Rattle.wac_parser_resolve.specs.declared.state.State.{State as Held}
use Rattle.wac_parser_resolve.specs.Ascribing.{Bound, Denoted, State, root_scope, speak_of, is_own_definition}
use Rattle.wac_parser_resolve.specs.Holding.{AreNamed, Denotes}
use Rattle.wac_parser_resolve.specs.Said.{IsSaid, last_noted}
use Rattle.wac_parser_resolve.specs.Saying.{export_as, export_one, exported}

-- ---- definitions

-- the node is a definition
abbrev pub IsDefined : Graph → ℕ → Type 0
IsDefined g k = (x : NodeData) × (node_at g k ≡ Some x) × (x.role ≡ Role.Defined)

-- what is bound is a definition
abbrev pub is_defined : Option Bound → Bool
is_defined None = false
is_defined (Some b) = is_own_definition b.denoted.origin

-- the definition that is bound, and where its name was given
pub record IsBoundTo (g : Graph) (ms : List ℕ) (o : Option Bound) (d : Definition) : Type 0 where
  pub bound : Bound
  pub is : o ≡ Some bound
  pub defines : is_own_definition bound.denoted.origin ≡ true
  pub denotes : Denotes g ms bound.denoted d.node
  pub span : d.span ≡ bound.span

abbrev pub IsDefinitionIn : Graph → List ℕ → Option Bound → Option Definition → Type 0
IsDefinitionIn g ms o None = is_defined o ≡ false
IsDefinitionIn g ms o (Some d) = IsBoundTo g ms o d

-- the definition that a name of the root denotes
abbrev pub FindsDefinition : Graph → List (Name × Binding) → List (Name × ℕ) → Name → Option Definition → Type 0
FindsDefinition g names nodes n r =
    (ms : List ℕ) (s : State) → AreNamed g ms s.root nodes → scope_of g.types names ≡ root_scope s
    → IsDefinitionIn g ms (value_at s.root n) r

-- ---- the graph's refusals

-- why a name is refused, where the earlier export stands
abbrev pub export_cause : List (ℕ × Span) → ExportName → ExportError → Option Cause
export_cause spans n (ExportError.ExportAlreadyExists m k) =
    at_place (DuplicateExternName (string_bytes m) ExternKind.Export (unwrap_or (last_noted spans k) n.span) n.is_helped) n.span
export_cause spans n (ExportError.InvalidExportName m source) =
    at_place (InvalidExternName (string_bytes m) ExternKind.Export) n.span
export_cause spans n ExportError.Memory = None

-- ---- what is exported

-- the names under which nothing is exported yet
abbrev pub left_to_export : List (Name × ℕ) → List Name → List Name
left_to_export es ns = filter (λ n. not (is_some (value_at es n))) ns

-- the exports of an interface that are left
abbrev pub left_of : Graph → InterfaceId → List Name
left_of g i = left_to_export g.exports (names_of (exports_of (stated_of g.types (ItemKind.Instance i))))

abbrev pub ident_of : ExportName → t.Ident
ident_of n = record { string = n.text.now; span = n.span }

-- what is denoted is exported, where the code holds it spoken of
abbrev pub IsExport : Held → ℕ → ExportName → Held → Result ⊤ Refusal → Type 0
IsExport old k n new r =
    (own : t.PackageName) (s : State) (d : Denoted) → IsSaid own old (speak_of s d) → DenotesOn old d k
    → IsOutcome (λ q u. IsSaid own new q) (exported d n.is_helped s (ident_of n)) r

-- what is said of a node that is spoken of
abbrev pub SaysOf : (State → Denoted → Answer State) → Held → ℕ → Held → Result ⊤ Refusal → Type 0
SaysOf f old k new r =
    (own : t.PackageName) (s : State) (d : Denoted) → IsSaid own old s → DenotesOn old d k → speak_of s d ≡ s
    → IsOutcome (λ q u. IsSaid own new q) (f s d) r

-- an export statement's options
abbrev pub export_with : t.ExportOptions → Span → State → Denoted → Answer State
export_with o at s d = export_as s at d o

-- exports of these names of an instance, one behind the other
abbrev pub export_each : List Name → Span → State → Denoted → Answer State
export_each ns dots s d = each (export_one dots d) s ns

-- what is said of exports of an instance
abbrev pub SaysOfInstance : (State → Denoted → Answer State) → Held → ℕ → Held → Result ⊤ Refusal → Type 0
SaysOfInstance f old k new r =
    (own : t.PackageName) (s : State) (d : Denoted) → IsSaid own old s → DenotesOn old d k → is_instance_kind (kind_of d.item) ≡ true
    → IsOutcome (λ q u. IsSaid own new q) (f s d) r
