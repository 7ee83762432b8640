use Rattle.std.proofs.Common.{ap, sym, subst, ◌∙◌}
use Rattle.wac_types_base.specs.declared.item.ExternKind.{ExternKind}
use Rattle.wac_types_base.specs.Record.{Collection}
use Rattle.wac_types_base.specs.Collection.{IsAcyclic}
use Rattle.wac_types_base.specs.Stated.{desc, stated_of}
use Rattle.wac_parser_refusals.specs.Causes.{TargetMismatch}
use Rattle.wac_types_fit.specs.declared.checker.SubtypeCheck.{SubtypeCheck}
use Rattle.wac_parser_resolve.specs.Denoting.{fitting}
use Rattle.wac_parser_resolve.specs.InTargets.{IsTold}
use Rattle.wac_parser_resolve.proofs.Meeting.{export_found, export_missing}
use Rattle.wac_types_base.specs.Collection.{Stands}
use Rattle.wac_types_fit.proofs.Reports.{promoted_stands}
use Rattle.wac_parser_resolve.proofs.targets.Target.export_met.Goals as goal

pub fits-requires-clause-asked : goal.fits-requires-clause-asked
fits-requires-clause-asked c =
    subst (Stands c.types-types.result.now) (sym c.promote.ensures.kind)
    (promoted_stands c.types-types.result.now c.args.kind (subst (λ t. Stands t c.args.kind) (sym c.types-types.ensures) c.requires))

pub returns-in-Some-clause-outcome : goal.returns-in-Some-clause-outcome
returns-in-Some-clause-outcome c =
    let t = c.args.self.now in
    let g = c.args.graph.now in
    export_found t g c.args.spans.now.noted.items c.args.name.now c.args.kind c.in-Some.node c.item_of.result c.promote.result c.of.result c.fits.result c.in-Some.ensures.value c.item_of.ensures.own
    (subst IsAcyclic c.types-types.ensures c.see_acyclic.ensures) c.requires c.promote.ensures.kind c.of.ensures.found
    (subst
    (λ (x : Collection). IsTold (fitting SubtypeCheck.Covariant (stated_of x c.item_of.result) (stated_of x c.promote.result) (TargetMismatch ExternKind.Export c.args.name.now t.path.now.string.now) c.of.result) c.fits.result)
    c.types-types.ensures c.fits.ensures.outcome)

pub returns-in_ok-missing_export-in-None-clause-outcome : goal.returns-in_ok-missing_export-in-None-clause-outcome
returns-in_ok-missing_export-in-None-clause-outcome c =
    export_missing c.args.self.now c.args.graph.now c.args.spans.now.noted.items c.args.name.now c.args.kind c.in_ok-missing_export-in-None.field-0 c.desc.result.now c.in-None.ensures.value
    (c.desc.ensures ∙ ap (λ (x : Collection). desc (stated_of x c.args.kind)) c.types-types.ensures) c.in_ok-missing_export-in-None.ensures
