use Rattle.std.proofs.Common.{ap, subst, ◌∙◌}
use Rattle.std.specs.Prelude.{⊤, Option}
use Rattle.wac_types_base.specs.Stated.{Stated}
use Rattle.wac_composition.specs.Composition.{defined}
use Rattle.wac_parser_tree.specs.Trees as t
use Rattle.wac_parser_tree.specs.Views.{view_ident, view_package_name, view_type_statement}
use Rattle.wac_parser_refusals.specs.Causes.{Cause}
use Rattle.wac_parser_refusals.specs.Outcomes.{IsOutcome, IsRefusal}
use Rattle.wac_parser_refusals.specs.Views.{Names}
use Rattle.wac_parser_refusals.proofs.Outcomes.{after_outcome, after_refused, refused_outcome, then_refused}
use Rattle.wac_parser_declare.specs.Holding.{IsType}
use Rattle.wac_parser_declare.specs.Worlds.{type_statement}
use Rattle.wac_parser_resolve.specs.Ascribing.{State, context}
use Rattle.wac_graph_core.specs.Graph.{Graph}
use Rattle.wac_parser_resolve.specs.InStatements.{definition_cause}
use Rattle.wac_parser_resolve.specs.Said.{IsSaid}
use Rattle.wac_parser_resolve.specs.Saying.{declaration, declared_id, statement, with_definition}
use Rattle.wac_parser_resolve.proofs.Definable.{named_fault}
use Rattle.wac_parser_resolve.proofs.Declaring.{definition_denotes, definition_outcome, definition_refused, definition_said}
use Rattle.wac_parser_resolve.proofs.statements.declaration.Goals as goal

pub returns-in_err-ty-clause-outcome : goal.returns-in_err-ty-clause-outcome
returns-in_err-ty-clause-outcome c s said =
    let x = view_type_statement c.args.statement.now in
    refused_outcome _ (statement s (t.Statement.ty x)) _ _ c.from_residual.ensures.1
    (then_refused (λ (item : Stated). declaration s (declared_id x) item) (type_statement (context s) x) c.in_err-ty.field-0.0 (c.in_err-ty.ensures.outcome s said))

pub returns-in-Ok-clause-outcome : goal.returns-in-Ok-clause-outcome
returns-in-Ok-clause-outcome c s said =
    let x = view_type_statement c.args.statement.now in
    let own = view_package_name c.args.own.now in
    let b = c.declared.new.state in
    let h = c.define.new.graph in
    let k = c.in-Ok.node in
    let i : t.Ident = view_ident c.declared_id-id.result in
    let H : State → ⊤ → Type 0 = λ q u. IsSaid own c.named_definition.new.state q in
    let now = c.declared.ensures.said own s said in
    after_outcome (λ (item : Stated). declaration s (declared_id x) item) (IsType b.board.types.graph.types) H (type_statement (context s) x) c.in_ok-ty.ty c.named_definition.result (c.in_ok-ty.ensures.outcome s said)
    (λ item holds. subst (λ (j : t.Ident). IsOutcome H (declaration s j item) c.named_definition.result) c.declared_id-id.ensures
    (definition_outcome own b s now i item c.in_ok-ty.ty c.define.ensures.before h k c.in-Ok.ensures.defined holds H c.named_definition.result
    (c.named_definition.ensures.outcome own (with_definition s i item) (record { origin = defined i.string item; item = item })
    (λ a notes. definition_said own b s now i item c.in_ok-ty.ty c.define.ensures.before h k c.in-Ok.ensures.defined holds a notes)
    (definition_denotes own b s now i item c.in_ok-ty.ty c.define.ensures.before h k c.in-Ok.ensures.defined holds))))

pub returns-in-Err-clause-outcome : goal.returns-in-Err-clause-outcome
returns-in-Err-clause-outcome c s said =
    let x = view_type_statement c.args.statement.now in
    let own = view_package_name c.args.own.now in
    let b = c.declared.new.state in
    let i : t.Ident = view_ident c.declared_id-id.result in
    after_refused (λ (item : Stated). declaration s (declared_id x) item) (IsType b.board.types.graph.types) (type_statement (context s) x) c.in_ok-ty.ty c.named.result (c.in_ok-ty.ensures.outcome s said)
    (λ item holds. subst (λ (j : t.Ident). IsRefusal (declaration s j item) c.named.result) c.declared_id-id.ensures
    (definition_refused own b s (c.declared.ensures.said own s said) i item c.in_ok-ty.ty c.define.ensures.before c.in-Err.fault c.named.result c.in-Err.ensures.refused
    (subst (λ (o : Option Cause). Names c.named.result o)
    (c.definition_fault-fault.ensures ∙ ap (λ (g : Graph). definition_cause g b.exports.noted.items i c.in-Err.fault) c.in-Err.ensures.kept) c.named.ensures)))

pub definition_fault-fault-requires : goal.definition_fault-fault-requires
definition_fault-fault-requires c =
    named_fault c.declared.new.state.board.types.graph c.declared_id-id.result.string.now c.in_ok-ty.ty c.in-Err.fault c.in_ok-ty.ensures.definable c.in-Err.ensures.refused
