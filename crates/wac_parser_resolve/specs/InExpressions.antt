-- What is answered of expressions and their parts: what is stated of them, over what was said, or its cause.
use Rattle.std.specs.Prelude.{◌≡◌, ℕ, List, map, string_bytes, String, Result}
use Rattle.wac_types_base.specs.declared.item.ItemKind.{ItemKind}
use Rattle.wac_types_base.specs.declared.ids.InterfaceId.{InterfaceId}
use Rattle.wac_types_base.specs.Entries.{Name, names_of}
use Rattle.wac_types_base.specs.Stated.{Stated, exports_of}
use Rattle.wac_graph_core.specs.declared.error.AliasError.{AliasError}
use Rattle.wac_graph_core.specs.Graph.{Graph}
use Rattle.wac_graph_core.specs.Refusals.{AliasRefused}
use Rattle.wac_parser_lexer.specs.declared.span.SourceSpan.{SourceSpan as Span}
use Rattle.wac_parser_tree.specs.declared.expr.PostfixExpr.{PostfixExpr}
use Rattle.wac_parser_tree.specs.declared.text.Ident.{Ident}
use Rattle.wac_parser_tree.specs.Views.{view_ident, view_postfix_expr}
use Rattle.wac_parser_refusals.specs.declared.refusal.Refusal.{Refusal}
use Rattle.wac_parser_refusals.specs.declared.error.InstanceOperation.{InstanceOperation}
use Rattle.wac_parser_refusals.specs.Causes.{◌>>◌}
use Rattle.wac_parser_refusals.specs.Outcomes.{IsOutcome, IsRefusal}
use Rattle.wac_parser_declare.specs.Holding.{Holds}
use Rattle.wac_parser_resolve.specs.declared.calls.Access.{Access}
use Rattle.wac_parser_resolve.specs.Ascribing.{Denoted, State, denoted_by}
use Rattle.wac_parser_resolve.specs.Denoting as stated
use Rattle.wac_parser_resolve.specs.Denoting.{asks_instance, export_named, needs_instance, spoken}
use Rattle.wac_parser_resolve.specs.Holding.{AreNamed, Denotes, HasItem, Says}
use Rattle.wac_parser_resolve.specs.Matching.{matched}

-- what is denoted, over what is said then
abbrev pub SaysThat : Graph → List (ℕ × Span) → List (Name × ℕ) → State × Denoted → ℕ → Type 0
SaysThat g noted names q k = Says g noted names q.0 × Denotes g (names_of noted) q.1 k

-- the node that a name of the root stands for
abbrev pub IsRootNode : Ident → Graph → List (Name × ℕ) → Result ℕ Refusal → Type 0
IsRootNode i g names r =
    (ms : List ℕ) (s : State) → AreNamed g ms s.root names → IsOutcome (Denotes g ms) (denoted_by s (view_ident i)) r

-- an operation asks for an instance; this is its interface
abbrev pub IsInstanceFor : Graph → ℕ → InstanceOperation → Span → Result InterfaceId Refusal → Type 0
IsInstanceFor g k o s r =
    (t : Stated) → HasItem g k t → IsOutcome (λ u id. Holds g.types t (ItemKind.Instance id)) (asks_instance t o s) r

-- the export that a shorter name means
abbrev pub IsMeantFor : {Z : Type 0} → Graph → ℕ → Name → Span → Result (String Z) Refusal → Type 0
IsMeantFor g k n s r =
    (t : Stated) → HasItem g k t
    → IsOutcome (λ u text. string_bytes text ≡ matched n (names_of (exports_of t)))
    (asks_instance t InstanceOperation.Access s) r

-- why there is no such export
abbrev pub IsUnaliased : Graph → ℕ → Access → AliasError → Refusal → Type 0
IsUnaliased g i at e f = (n : Name) (d : Denoted) → AliasRefused g i n e → HasItem g i d.item
    → IsRefusal (needs_instance d at.operation at.instance >> export_named d n at.access) f

-- an export of a node that has to be an instance
abbrev pub IsProjection : Graph → ℕ → Name → Access → Graph → Result ℕ Refusal → Type 0
IsProjection g i n at h r = (noted : List (ℕ × Span)) (names : List (Name × ℕ)) (s : State) (d : Denoted) → Says g noted names s
    → Denotes g (names_of noted) d i
    → IsOutcome (SaysThat h noted names) (needs_instance d at.operation at.instance >> spoken s (export_named d n at.access)) r

-- one access
abbrev pub IsAccess : PostfixExpr → Graph → ℕ → Span → Graph → Result ℕ Refusal → Type 0
IsAccess p g i before h r = (noted : List (ℕ × Span)) (names : List (Name × ℕ)) (s : State) (d : Denoted) → Says g noted names s
    → Denotes g (names_of noted) d i
    → IsOutcome (SaysThat h noted names) (stated.access before s d (view_postfix_expr p)) r

-- accesses, one behind the other
abbrev pub AreAccesses : List PostfixExpr → Graph → ℕ → Span → Graph → Result ℕ Refusal → Type 0
AreAccesses ps g i before h r = (noted : List (ℕ × Span)) (names : List (Name × ℕ)) (s : State) (d : Denoted)
    → Says g noted names s → Denotes g (names_of noted) d i
    → IsOutcome (SaysThat h noted names) (stated.accesses before s d (map view_postfix_expr ps)) r
