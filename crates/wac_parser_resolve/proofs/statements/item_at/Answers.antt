use Rattle.std.proofs.Common.{sym}
use Rattle.wac_parser_refusals.proofs.Outcomes.{refused_outcome}
use Rattle.wac_parser_declare.specs.Holding.{Holds}
use Rattle.wac_parser_resolve.proofs.Boards.{world_known}
use Rattle.wac_parser_resolve.proofs.Stating.{said_grows}
use Rattle.wac_parser_tree.specs.Views.{view_package_path}
use Rattle.wac_parser_declare.specs.Scope.{path_item}
use Rattle.wac_parser_resolve.specs.Ascribing.{context}
use Rattle.wac_parser_resolve.proofs.statements.item_at.Goals as goal

pub returns-in_err-kind-clause-said : goal.returns-in_err-kind-clause-said
returns-in_err-kind-clause-said c own s said = said_grows own c.args.state.now c.package_path.new.types s c.package_path.ensures.grows c.package_path.ensures.packages said

pub returns-clause-said : goal.returns-clause-said
returns-clause-said c own s said = said_grows own c.args.state.now c.package_path.new.types s c.package_path.ensures.grows c.package_path.ensures.packages said

pub returns-in_err-kind-clause-outcome : goal.returns-in_err-kind-clause-outcome
returns-in_err-kind-clause-outcome c s said =
    refused_outcome (Holds c.package_path.new.types.graph.types) (path_item (context s) (view_package_path c.args.path.now)) _ _ c.from_residual.ensures.1
    (c.in_err-kind.ensures.outcome (context s) (record { own = said.own; root = sym said.scope; packages = λ k. sym (world_known s.packages k _ (said.board.known k)) }))

pub returns-clause-outcome : goal.returns-clause-outcome
returns-clause-outcome c s said = c.in_ok-kind.ensures.outcome (context s) (record { own = said.own; root = sym said.scope; packages = λ k. sym (world_known s.packages k _ (said.board.known k)) })
