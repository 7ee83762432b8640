use Rattle.std.proofs.Common.{◌≡◌, true, Some, ap, sym, subst, ◌∙◌}
use Rattle.std.specs.Prelude.{⊤}
use Rattle.wac_types_base.specs.Collection.{IsAcyclic}
use Rattle.wac_types_base.specs.Entries.{Name, names_of}
use Rattle.wac_parser_refusals.specs.Causes.{ExportRequiresAs}
use Rattle.wac_parser_declare.proofs.Members.{told}
use Rattle.wac_parser_resolve.specs.Ascribing.{State}
use Rattle.wac_parser_resolve.specs.Said.{IsSaid}
use Rattle.wac_parser_resolve.specs.Saying.{export_name, exported}
use Rattle.wac_parser_resolve.proofs.ExportStates.{inferred_told, named_outcome, unnamed_refused}
use Rattle.wac_parser_resolve.proofs.state.State.export_inferred.Goals as goal

pub returns-in-None-clause-outcome : goal.returns-in-None-clause-outcome
returns-in-None-clause-outcome c own s d said dn spoken =
    let b = c.args.self.now in
    let acyclic = subst IsAcyclic c.types.ensures c.see_acyclic.ensures in
    let name = inferred_told b.board.types.graph c.see_sound.ensures acyclic c.args.node _ c.in-None.ensures (names_of b.board.instances.noted.items) d dn in
    unnamed_refused (λ n. exported d true s (record { string = n; span = c.args.span })) c.args.span (export_name d) c.named.result name
    (told c.named.result ExportRequiresAs (Some c.args.span) c.named.ensures)

pub returns-clause-outcome : goal.returns-clause-outcome
returns-clause-outcome c own s d said dn spoken =
    let b = c.args.self.now in
    let acyclic = subst IsAcyclic c.types.ensures c.see_acyclic.ensures in
    let name = inferred_told b.board.types.graph c.see_sound.ensures acyclic c.args.node _ c.in-Some.ensures (names_of b.board.instances.noted.items) d dn in
    let text : c.as_str.result.now ≡ c.in-Some.name.now = c.as_str.ensures.value ∙ c.in_ok-name-in-Some.ensures.ok in
    named_outcome (λ n. exported d true s (record { string = n; span = c.args.span })) c.args.span (λ (q : State) (u : ⊤). IsSaid own c.export.new.self q) (export_name d)
    c.as_str.result.now c.export.result (ap (λ (n : Name). Some n) text ∙ name) (c.export.ensures.outcome own s d (subst (IsSaid own b) (sym spoken) said) dn)
