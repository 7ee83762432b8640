use Rattle.std.proofs.Common.{ap, subst, ◌∙◌}
use Rattle.std.specs.Prelude.{⊤, Bool, Option}
use Rattle.wac_composition.specs.Composition.{imported}
use Rattle.wac_parser_tree.specs.Trees as t
use Rattle.wac_parser_tree.specs.Views.{view_extern_name, view_import_statement}
use Rattle.wac_parser_refusals.specs.Causes.{Cause}
use Rattle.wac_parser_refusals.specs.Views.{Names}
use Rattle.wac_parser_resolve.specs.Ascribing.{Import, State}
use Rattle.wac_parser_resolve.specs.InStatements.{import_cause}
use Rattle.wac_parser_resolve.specs.Said.{IsSaid}
use Rattle.wac_parser_resolve.specs.Saying.{with_import}
use Rattle.wac_parser_resolve.proofs.Importing.{import_denotes, import_outcome, import_refused, import_said, helped_by}
use Rattle.wac_parser_resolve.proofs.statements.add_import.Goals as goal

pub returns-in-Ok-clause-outcome : goal.returns-in-Ok-clause-outcome
returns-in-Ok-clause-outcome c own item holds s said =
    let b = c.args.state.now in
    let x = view_import_statement c.args.statement.now in
    let n : t.Ident = record { string = c.args.name.now; span = c.args.span } in
    let h = c.import.new.graph in
    let k = c.in-Ok.node in
    let made = c.in-Ok.ensures.imported in
    let one : Import = record { name = c.args.name.now; item = item; span = c.args.span; id_span = x.id.span } in
    import_outcome own b s said x n item c.args.kind holds h k made (λ (q : State) (u : ⊤). IsSaid own c.named_import.new.state q) c.named_import.result
    (c.named_import.ensures.outcome own (with_import s one) (record { origin = imported c.args.name.now; item = item })
    (λ a notes. import_said own b s said x n item c.args.kind holds h k made a notes)
    (import_denotes own b s said x n item c.args.kind holds h k made))

pub returns-in-Err-clause-outcome : goal.returns-in-Err-clause-outcome
returns-in-Err-clause-outcome c own item holds s said =
    let b = c.args.state.now in
    let x = view_import_statement c.args.statement.now in
    let n : t.Ident = record { string = c.args.name.now; span = c.args.span } in
    import_refused own b s said x n item c.args.kind holds c.import.ensures.before c.in-Err.fault c.named.result c.in-Err.ensures.refused
    (subst (λ (o : Option Cause). Names c.named.result o)
    (c.import_fault-fault.ensures ∙ ap (λ (y : Bool). import_cause b.imports.noted.items c.args.span y c.in-Err.fault) (helped_by view_extern_name c.args.statement.now.name c.is_none-is_helped.result c.is_none-is_helped.ensures))
    c.named.ensures)
