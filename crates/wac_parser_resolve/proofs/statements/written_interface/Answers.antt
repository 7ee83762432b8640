use Rattle.std.proofs.Common.{sym}
use Rattle.wac_types_base.specs.declared.item.ItemKind.{ItemKind}
use Rattle.wac_parser_refusals.proofs.Outcomes.{refused_outcome}
use Rattle.wac_parser_declare.specs.Holding.{Holds}
use Rattle.wac_parser_resolve.proofs.Asking.{held_map}
use Rattle.wac_parser_resolve.proofs.Boards.{world_known}
use Rattle.wac_parser_resolve.proofs.Stating.{said_grows}
use Rattle.wac_parser_tree.specs.Views.{view_inline_interface}
use Rattle.wac_parser_declare.specs.Interfaces.{inline_interface}
use Rattle.wac_parser_declare.specs.Making.{AnInstance}
use Rattle.wac_parser_resolve.specs.Ascribing.{context}
use Rattle.wac_parser_resolve.proofs.statements.written_interface.Goals as goal

pub returns-in_err-id-clause-said : goal.returns-in_err-id-clause-said
returns-in_err-id-clause-said c own s said = said_grows own c.args.state.now c.inline_interface.new.types s c.inline_interface.ensures.grows c.inline_interface.ensures.packages said

pub returns-clause-said : goal.returns-clause-said
returns-clause-said c own s said = said_grows own c.args.state.now c.inline_interface.new.types s c.inline_interface.ensures.grows c.inline_interface.ensures.packages said

pub returns-in_err-id-clause-outcome : goal.returns-in_err-id-clause-outcome
returns-in_err-id-clause-outcome c s said =
    refused_outcome (Holds c.inline_interface.new.types.graph.types) (inline_interface (context s) (view_inline_interface c.args.interface.now)) _ _ c.from_residual.ensures.1
    (c.in_err-id.ensures.outcome (context s) (record { own = said.own; root = sym said.scope; packages = λ k. sym (world_known s.packages k _ (said.board.known k)) }))

pub returns-clause-outcome : goal.returns-clause-outcome
returns-clause-outcome c s said =
    let d = c.inline_interface.new.types.graph.types in
    held_map (AnInstance d) (Holds d) (inline_interface (context s) (view_inline_interface c.args.interface.now)) c.in_ok-id.id (ItemKind.Instance c.in_ok-id.id) (λ x h. h)
    (c.in_ok-id.ensures.outcome (context s) (record { own = said.own; root = sym said.scope; packages = λ k. sym (world_known s.packages k _ (said.board.known k)) }))
