use Rattle.std.proofs.Common.{◌≡◌, ap, subst, sym, ◌∙◌}
use Rattle.std.specs.Prelude.{⊤}
use Rattle.wac_types_base.specs.Record.{Collection}
use Rattle.wac_types_base.specs.Collection.{IsAcyclic, Stands}
use Rattle.wac_types_base.specs.Stated.{Stated, promote}
use Rattle.wac_types_fit.proofs.Reports.{promoted_stands}
use Rattle.wac_parser_tree.specs.Trees as t
use Rattle.wac_parser_tree.specs.Views.{view_import_statement, view_package_name}
use Rattle.wac_parser_refusals.specs.Outcomes.{IsOutcome}
use Rattle.wac_parser_refusals.proofs.Outcomes.{after_outcome, after_refused, refused_outcome, then_refused}
use Rattle.wac_parser_declare.specs.Holding.{Holds, scope_of}
use Rattle.wac_parser_resolve.specs.Ascribing.{State}
use Rattle.wac_parser_resolve.specs.InStatements.{IsNamedSo}
use Rattle.wac_parser_resolve.specs.Said.{IsSaid}
use Rattle.wac_parser_resolve.specs.Saying.{add_import, asked, import_name, import_statement}
use Rattle.wac_parser_resolve.proofs.Importing.{ident_is, import_behind}
use Rattle.wac_parser_resolve.proofs.statements.import_statement.Goals as goal

pub add_import-requires-clause-kind : goal.add_import-requires-clause-kind
add_import-requires-clause-kind c =
    subst (Stands c.asked.new.state.board.types.graph.types) (sym c.promote.ensures.kind)
    (promoted_stands c.asked.new.state.board.types.graph.types c.in_ok-item.item c.in_ok-item.ensures.kind)

pub returns-in_err-name-clause-outcome : goal.returns-in_err-name-clause-outcome
returns-in_err-name-clause-outcome c s said =
    let x = view_import_statement c.args.statement.now in
    refused_outcome _ (import_statement s x) _ _ c.from_residual.ensures.1
    (then_refused (import_behind s x) (import_name s x) c.in_err-name.field-0.0
    (c.in_err-name.ensures s (ap (λ (y : Collection). scope_of y c.args.state.now.names) c.types-types.ensures ∙ said.scope)))

pub returns-in_err-item-clause-outcome : goal.returns-in_err-item-clause-outcome
returns-in_err-item-clause-outcome c s said =
    let x = view_import_statement c.args.statement.now in
    refused_outcome _ (import_statement s x) _ _ c.from_residual-in_err-item.ensures.1
    (after_refused (import_behind s x) IsNamedSo (import_name s x) c.in_ok-name.name c.in_err-item.field-0.0
    (c.in_ok-name.ensures s (ap (λ (y : Collection). scope_of y c.args.state.now.names) c.types-types.ensures ∙ said.scope))
    (λ n is. then_refused (λ (item : Stated). add_import s x n (promote item)) (asked s x.ty) c.in_err-item.field-0.0 (c.in_err-item.ensures.outcome s said)))

pub returns-clause-outcome : goal.returns-clause-outcome
returns-clause-outcome c s said =
    let x = view_import_statement c.args.statement.now in
    let own = view_package_name c.args.own.now in
    let d = c.asked.new.state.board.types.graph.types in
    let H : State → ⊤ → Type 0 = λ q u. IsSaid own c.add_import.new.state q in
    let acyclic = subst (λ (y : Collection). IsAcyclic y) c.types.ensures c.see_acyclic.ensures in
    after_outcome (import_behind s x) IsNamedSo H (import_name s x) c.in_ok-name.name c.add_import.result
    (c.in_ok-name.ensures s (ap (λ (y : Collection). scope_of y c.args.state.now.names) c.types-types.ensures ∙ said.scope))
    (λ n is. after_outcome (λ (item : Stated). add_import s x n (promote item)) (Holds d) H (asked s x.ty) c.in_ok-item.item c.add_import.result (c.in_ok-item.ensures.outcome s said)
    (λ item holds.
    let same : ◌≡◌ {A = t.Ident} (record { string = c.as_str-text.result.now; span = c.in_ok-name.name.span }) n = ident_is n c.as_str-text.result.now c.in_ok-name.name.span (c.as_str-text.ensures.value ∙ is.0) is.1 in
    subst (λ (m : t.Ident). IsOutcome H (add_import s x m (promote item)) c.add_import.result) same
    (c.add_import.ensures.outcome own (promote item)
    (record {
      stands = subst (Stands d) (sym c.promote.ensures.kind) (promoted_stands d c.in_ok-item.item c.in_ok-item.ensures.kind);
      same = c.promote.ensures.stated d acyclic c.in_ok-item.ensures.kind ∙ ap promote holds.same;
    }) s (c.asked.ensures.said own s said))))
