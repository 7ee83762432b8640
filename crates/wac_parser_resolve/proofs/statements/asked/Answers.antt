use Rattle.std.proofs.Common.{sym, subst}
use Rattle.wac_types_base.specs.Record.{Collection}
use Rattle.wac_parser_tree.specs.declared.import.ImportType.{ImportType}
use Rattle.wac_parser_tree.specs.Views.{view_ident, view_import_type}
use Rattle.wac_parser_refusals.specs.Outcomes.{IsOutcome}
use Rattle.wac_parser_declare.specs.Holding.{Holds, scope_of}
use Rattle.wac_parser_declare.specs.Scope.{Scope, named}
use Rattle.wac_parser_resolve.specs.Saying.{asked}
use Rattle.wac_parser_resolve.proofs.statements.asked.Goals as goal

pub returns-in-Ident-clause-outcome : goal.returns-in-Ident-clause-outcome
returns-in-Ident-clause-outcome c s said =
    let d = c.args.state.now.board.types.graph.types in
    let one = subst (λ (x : Collection). IsOutcome (Holds x) (named (scope_of x c.args.state.now.names) (view_ident c.in-Ident.id)) c.item_named.result) c.types.ensures c.item_named.ensures.outcome in
    let two = subst (λ (ns : Scope). IsOutcome (Holds d) (named ns (view_ident c.in-Ident.id)) c.item_named.result) said.scope one in
    subst (λ (x : ImportType). IsOutcome (Holds d) (asked s (view_import_type x)) c.item_named.result) (sym c.in-Ident.is) two
