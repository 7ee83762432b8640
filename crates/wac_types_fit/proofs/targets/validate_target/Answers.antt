use Rattle.wac_types_base.specs.Implicit.{shown}
use Rattle.wac_types_fit.proofs.Items.{world_imports_inside, world_exports_inside}
use Rattle.wac_types_fit.proofs.Reports.{world_children, implicit_stand, gives_standing, target_standing}
use Rattle.wac_types_fit.proofs.targets.validate_target.Goals as goal

pub implicit_imported_interfaces-requires : goal.implicit_imported_interfaces-requires
implicit_imported_interfaces-requires c = world_children c.args.types.now c.world-wanted.ensures.acyclic c.args.target c.world-wanted.result.now c.world-wanted.ensures.entry c.world-wanted.ensures.own

pub report_of-requires-clause-given_imports : goal.report_of-requires-clause-given_imports
report_of-requires-clause-given_imports c =
    target_standing c.args.types.now (shown c.in_ok-implicit.implicit.entries) c.world-wanted.result.now.imports
    (implicit_stand c.args.types.now c.world-wanted.ensures.acyclic c.world-wanted.result.now (world_children c.args.types.now c.world-wanted.ensures.acyclic c.args.target c.world-wanted.result.now c.world-wanted.ensures.entry c.world-wanted.ensures.own) (shown c.in_ok-implicit.implicit.entries) c.in_ok-implicit.ensures.ok)
    (λ n j m. (world_imports_inside c.args.types.now c.world-wanted.ensures.acyclic c.args.target c.world-wanted.result.now c.requires.target c.world-wanted.ensures.entry c.world-wanted.ensures.own n j m).0)

pub report_of-requires-clause-imports : goal.report_of-requires-clause-imports
report_of-requires-clause-imports c n j m = (world_imports_inside c.args.types.now c.world-own.ensures.acyclic c.args.component c.world-own.result.now c.requires.component c.world-own.ensures.entry c.world-own.ensures.own n j m).0

pub report_of-requires-clause-given_exports : goal.report_of-requires-clause-given_exports
report_of-requires-clause-given_exports c =
    gives_standing c.args.types.now c.world-own.result.now.exports (λ n j m. (world_exports_inside c.args.types.now c.world-own.ensures.acyclic c.args.component c.world-own.result.now c.requires.component c.world-own.ensures.entry c.world-own.ensures.own n j m).0)

pub report_of-requires-clause-exports : goal.report_of-requires-clause-exports
report_of-requires-clause-exports c n j m = (world_exports_inside c.args.types.now c.world-wanted.ensures.acyclic c.args.target c.world-wanted.result.now c.requires.target c.world-wanted.ensures.entry c.world-wanted.ensures.own n j m).0
