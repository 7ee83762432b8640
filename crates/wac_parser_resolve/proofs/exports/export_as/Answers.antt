use Rattle.std.proofs.Common.{false, sym, ap, subst}
use Rattle.std.specs.Prelude.{⊤}
use Rattle.wac_parser_tree.specs.Trees as t
use Rattle.wac_parser_tree.specs.Views.{view_export_options, view_extern_name}
use Rattle.wac_parser_refusals.specs.Outcomes.{IsOutcome}
use Rattle.wac_parser_resolve.specs.Ascribing.{State}
use Rattle.wac_parser_resolve.specs.Said.{IsSaid}
use Rattle.wac_parser_resolve.specs.Saying as stated
use Rattle.wac_parser_resolve.specs.Saying.{exported}
use Rattle.wac_parser_resolve.proofs.ExportStates.{written_as}
use Rattle.wac_parser_resolve.proofs.exports.export_as.Goals as goal

pub returns-in-None-clause-outcome : goal.returns-in-None-clause-outcome
returns-in-None-clause-outcome c own s d said dn spoken =
    subst (λ (o : t.ExportOptions). IsOutcome (λ (q : State) (u : ⊤). IsSaid own c.export_inferred.new.self q) (stated.export_as s c.args.span d o) c.export_inferred.result)
    (sym (ap view_export_options c.in-None.is)) (c.export_inferred.ensures.outcome own s d said dn spoken)

pub returns-in-Spread-clause-outcome : goal.returns-in-Spread-clause-outcome
returns-in-Spread-clause-outcome c own s d said dn spoken =
    subst (λ (o : t.ExportOptions). IsOutcome (λ (q : State) (u : ⊤). IsSaid own c.export_spread.new.self q) (stated.export_as s c.args.span d o) c.export_spread.result)
    (sym (ap view_export_options c.in-Spread.is)) (c.export_spread.ensures.outcome own s d said dn spoken)

pub returns-in-Rename-clause-outcome : goal.returns-in-Rename-clause-outcome
returns-in-Rename-clause-outcome c own s d said dn spoken =
    let written = written_as (view_extern_name c.in-Rename.name) c.as_str.result.now c.span.result c.as_str.ensures c.span.ensures in
    subst (λ (o : t.ExportOptions). IsOutcome (λ (q : State) (u : ⊤). IsSaid own c.export.new.self q) (stated.export_as s c.args.span d o) c.export.result)
    (sym (ap view_export_options c.in-Rename.is))
    (subst (λ (n : t.Ident). IsOutcome (λ (q : State) (u : ⊤). IsSaid own c.export.new.self q) (exported d false s n) c.export.result) written
    (c.export.ensures.outcome own s d (subst (IsSaid own c.args.state.now) (sym spoken) said) dn))
