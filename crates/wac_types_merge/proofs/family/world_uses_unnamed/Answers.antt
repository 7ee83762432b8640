use Rattle.std.proofs.Common.{subst}
use Rattle.wac_types_base.specs.Graph.{Among}
use Rattle.wac_types_merge.proofs.Families.{world_use_inside}
use Rattle.wac_types_merge.proofs.family.world_uses_unnamed.Goals as goal

pub has_unnamed-requires : goal.has_unnamed-requires
has_unnamed-requires c u m =
    (world_use_inside c.args.types.now c.world.ensures.acyclic c.args.id c.world.result.now c.requires c.world.ensures.entry c.world.ensures.own u (subst (Among u) c.values.ensures m)).0
