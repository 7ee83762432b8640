use Rattle.std.proofs.Common.{◌≡◌, Some, slice_get, sym, subst}
use Rattle.wac_types_base.specs.Record.{Collection}
use Rattle.wac_types_base.specs.declared.item.ItemKind.{ItemKind}
use Rattle.wac_types_base.specs.Collection.{Stands}
use Rattle.wac_types_fit.proofs.Items.{world_imports_inside}
use Rattle.wac_parser_resolve.proofs.Meeting.{instance_none, instance_tested}
use Rattle.wac_parser_resolve.proofs.targets.Target.instance_met.Goals as goal

pub filled_met-requires-clause-imports : goal.filled_met-requires-clause-imports
filled_met-requires-clause-imports c n k m =
    let stands = subst (λ t. Stands t (ItemKind.Component c.world_of-world.result)) (sym c.types.ensures) c.world_of-world.ensures.stands in
    subst (λ t. Stands t k) c.types.ensures
    (world_imports_inside c.types.result.now c.world.ensures.acyclic c.world_of-world.result c.world.result.now stands c.world.ensures.entry c.world.ensures.own n k m).0

pub returns-in-Some-clause-outcome : goal.returns-in-Some-clause-outcome
returns-in-Some-clause-outcome c =
    instance_tested c.args.self.now c.args.graph.now c.args.node c.index.result.now c.index.ensures c.in-Some.id c.world_of-world.result c.world.result.now c.filled_met.result c.see_sound.ensures c.in-Some.ensures
    c.world_of-world.ensures.own (subst (λ (x : Collection). slice_get x.worlds c.world_of-world.result.index ≡ Some c.world.result.now) c.types.ensures c.world.ensures.entry) c.filled_met.ensures.outcome

pub returns-in-None-clause-outcome : goal.returns-in-None-clause-outcome
returns-in-None-clause-outcome c = instance_none c.args.self.now c.args.graph.now c.args.node c.index.result.now c.index.ensures c.in-None.ensures
