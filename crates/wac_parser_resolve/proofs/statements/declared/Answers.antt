use Rattle.std.proofs.Common.{sym}
use Rattle.wac_parser_refusals.proofs.Outcomes.{refused_outcome}
use Rattle.wac_parser_declare.specs.Holding.{IsType}
use Rattle.wac_parser_resolve.specs.Knowing.{handed_keys}
use Rattle.wac_parser_resolve.proofs.Boards.{world_known}
use Rattle.wac_parser_resolve.proofs.Definable.{newly_definable}
use Rattle.wac_parser_resolve.proofs.Knowing.{nodes_back}
use Rattle.wac_parser_resolve.proofs.Stating.{said_grows}
use Rattle.wac_parser_tree.specs.Views.{view_type_statement}
use Rattle.wac_parser_declare.specs.Worlds.{type_statement}
use Rattle.wac_parser_resolve.specs.Ascribing.{context}
use Rattle.wac_parser_resolve.proofs.statements.declared.Goals as goal

pub returns-in_err-ty-clause-said : goal.returns-in_err-ty-clause-said
returns-in_err-ty-clause-said c own s said = said_grows own c.args.state.now c.type_statement.new.types s c.type_statement.ensures.grows c.type_statement.ensures.packages said

pub returns-clause-said : goal.returns-clause-said
returns-clause-said c own s said = said_grows own c.args.state.now c.type_statement.new.types s c.type_statement.ensures.grows c.type_statement.ensures.packages said

pub returns-in_err-ty-clause-outcome : goal.returns-in_err-ty-clause-outcome
returns-in_err-ty-clause-outcome c s said =
    refused_outcome (IsType c.type_statement.new.types.graph.types) (type_statement (context s) (view_type_statement c.args.statement.now)) _ _ c.from_residual.ensures.1
    (c.in_err-ty.ensures.outcome (context s) (record { own = said.own; root = sym said.scope; packages = λ k. sym (world_known s.packages k _ (said.board.known k)) }))

pub returns-clause-outcome : goal.returns-clause-outcome
returns-clause-outcome c s said = c.in_ok-ty.ensures.outcome (context s) (record { own = said.own; root = sym said.scope; packages = λ k. sym (world_known s.packages k _ (said.board.known k)) })

pub returns-clause-definable : goal.returns-clause-definable
returns-clause-definable c =
    let g = c.args.state.now.board.types.graph in
    let h = c.type_statement.new.types.graph in
    newly_definable g h c.in_ok-ty.ty c.see_sound.ensures (nodes_back g h (handed_keys c.args.state.now.board.types) (handed_keys c.type_statement.new.types) c.type_statement.ensures.packages.rest) c.in_ok-ty.ensures.fresh
