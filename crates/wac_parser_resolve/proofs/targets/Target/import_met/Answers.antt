use Rattle.std.proofs.Common.{sym, subst}
use Rattle.wac_types_base.specs.Collection.{Stands}
use Rattle.wac_types_base.specs.Stated.{stated_of}
use Rattle.wac_types_fit.specs.declared.checker.SubtypeCheck.{SubtypeCheck}
use Rattle.wac_types_fit.specs.TargetSteps.{KindStands}
use Rattle.wac_types_fit.proofs.Reports.{promoted_stands}
use Rattle.wac_types_base.specs.declared.item.ExternKind.{ExternKind}
use Rattle.wac_types_base.specs.declared.item.ItemKind.{ItemKind}
use Rattle.wac_parser_refusals.specs.Causes.{TargetMismatch}
use Rattle.wac_parser_resolve.specs.Denoting.{fitting}
use Rattle.wac_parser_resolve.specs.InTargets.{IsTold}
use Rattle.wac_parser_resolve.proofs.Meeting.{import_fits, import_lacks}
use Rattle.wac_parser_resolve.proofs.targets.Target.import_met.Goals as goal

pub fits-requires-clause-given : goal.fits-requires-clause-given
fits-requires-clause-given c =
    let s : Stands c.args.types.now c.in-Some.given = subst (KindStands c.args.types.now) (sym c.in-Some.ensures) (c.requires.given c.args.asked.name.now) in
    subst (Stands c.args.types.now) (sym c.promote.ensures.kind) (promoted_stands c.args.types.now c.in-Some.given s)

pub returns-in-Some-clause-outcome : goal.returns-in-Some-clause-outcome
returns-in-Some-clause-outcome c =
    let n = c.args.asked.name.now in
    let s : Stands c.args.types.now c.in-Some.given = subst (KindStands c.args.types.now) (sym c.in-Some.ensures) (c.requires.given n) in
    import_fits c.args.self.now c.args.types.now n c.args.asked.kind c.args.asked.span c.see_acyclic.ensures c.in-Some.given c.fits.result c.in-Some.ensures s
    (subst
    (λ (k : ItemKind). IsTold (fitting SubtypeCheck.Contravariant (stated_of c.args.types.now k) (stated_of c.args.types.now c.args.asked.kind) (TargetMismatch ExternKind.Import n c.args.self.now.path.now.string.now) c.args.asked.span) c.fits.result)
    c.promote.ensures.kind c.fits.ensures.outcome)

pub returns-in_ok-not_in_target-in-None-clause-outcome : goal.returns-in_ok-not_in_target-in-None-clause-outcome
returns-in_ok-not_in_target-in-None-clause-outcome c =
    import_lacks c.args.self.now c.args.types.now c.args.asked.name.now c.args.asked.kind c.args.asked.span c.in_ok-not_in_target-in-None.field-0 c.in-None.ensures c.in_ok-not_in_target-in-None.ensures
