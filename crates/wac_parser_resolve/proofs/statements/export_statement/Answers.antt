use Rattle.std.proofs.Common.{ap, subst, sym}
use Rattle.std.specs.Prelude.{⊤}
use Rattle.wac_parser_tree.specs.Trees as t
use Rattle.wac_parser_tree.specs.Trees.{Span}
use Rattle.wac_parser_refusals.specs.Outcomes.{IsOutcome}
use Rattle.wac_parser_refusals.proofs.Outcomes.{refused_outcome, then_refused}
use Rattle.wac_parser_resolve.specs.Ascribing.{Denoted, State}
use Rattle.wac_parser_resolve.specs.Denoting.{denote}
use Rattle.wac_parser_resolve.specs.Said.{IsDenoted, IsSaid}
use Rattle.wac_parser_tree.specs.Views.{view_export_statement, view_package_name}
use Rattle.wac_parser_resolve.specs.Saying.{export_as, expr_span, statement}
use Rattle.wac_parser_resolve.proofs.ExprViews.{of_expr}
use Rattle.wac_parser_resolve.proofs.Behind.{after_known, denote_spoken, said_inner}
use Rattle.wac_parser_resolve.proofs.statements.export_statement.Goals as goal

pub returns-in_err-node-clause-outcome : goal.returns-in_err-node-clause-outcome
returns-in_err-node-clause-outcome c s said =
    let x = view_export_statement c.args.statement.now in
    refused_outcome _ (statement s (t.Statement.export x)) _ _ c.from_residual.ensures.1
    (then_refused (λ (q : State × Denoted). export_as q.0 (expr_span x.expr) q.1 x.options) (denote s x.expr) c.in_err-node.field-0.0 (c.in_err-node.ensures.outcome s said.board))

pub returns-clause-outcome : goal.returns-clause-outcome
returns-clause-outcome c s said =
    let own = view_package_name c.args.own.now in
    let b = c.args.state.now in
    let x = view_export_statement c.args.statement.now in
    let board = c.expression.new.board in
    after_known (λ (q : State × Denoted). export_as q.0 (expr_span x.expr) q.1 x.options) (IsDenoted own.name b.nodes board) (λ (q : State) (u : ⊤). IsSaid own c.export_as.new.state q) (denote s x.expr) c.in_ok-node.node c.export_as.result
    (c.in_ok-node.ensures.outcome s said.board)
    (λ q is d. subst (λ (at : Span). IsOutcome (λ (z : State) (u : ⊤). IsSaid own c.export_as.new.state z) (export_as q.0 at q.1 x.options) c.export_as.result) (sym (ap expr_span (of_expr c.args.statement.now.expr)))
    (c.export_as.ensures.outcome own q.0 q.1 (said_inner own b board s x.expr q c.in_ok-node.ensures.inner c.in_ok-node.ensures.more is d.on said) d.denotes
    (denote_spoken board.types.graph c.see_sound.ensures board.instances.noted.items b.nodes q.0 d.on.says q.1 c.in_ok-node.node d.denotes)))
