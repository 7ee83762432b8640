use Rattle.std.specs.Prelude.{⊤}
use Rattle.wac_parser_tree.specs.Trees as t
use Rattle.wac_parser_refusals.proofs.Outcomes.{refused_outcome, then_refused}
use Rattle.wac_parser_resolve.specs.Ascribing.{Denoted, State, bound}
use Rattle.wac_parser_resolve.specs.Denoting.{denote}
use Rattle.wac_parser_resolve.specs.Said.{IsDenoted, IsSaid}
use Rattle.wac_parser_tree.specs.Views.{view_let_statement, view_package_name}
use Rattle.wac_parser_resolve.specs.Saying.{statement}
use Rattle.wac_parser_resolve.proofs.Behind.{after_known, said_inner}
use Rattle.wac_parser_resolve.proofs.statements.let_statement.Goals as goal

pub returns-in_err-node-clause-outcome : goal.returns-in_err-node-clause-outcome
returns-in_err-node-clause-outcome c s said =
    let x = view_let_statement c.args.statement.now in
    refused_outcome _ (statement s (t.Statement.let_ x)) _ _ c.from_residual.ensures.1
    (then_refused (λ (q : State × Denoted). bound q.0 x.id q.1) (denote s x.expr) c.in_err-node.field-0.0 (c.in_err-node.ensures.outcome s said.board))

pub returns-clause-outcome : goal.returns-clause-outcome
returns-clause-outcome c s said =
    let own = view_package_name c.args.own.now in
    let b = c.args.state.now in
    let x = view_let_statement c.args.statement.now in
    let board = c.expression.new.board in
    after_known (λ (q : State × Denoted). bound q.0 x.id q.1) (IsDenoted own.name b.nodes board) (λ (q : State) (u : ⊤). IsSaid own c.bind.new.self q) (denote s x.expr) c.in_ok-node.node c.bind.result
    (c.in_ok-node.ensures.outcome s said.board)
    (λ q is d. c.bind.ensures.outcome own q.1 d.denotes q.0 (said_inner own b board s x.expr q c.in_ok-node.ensures.inner c.in_ok-node.ensures.more is d.on said))
