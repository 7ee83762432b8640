use Rattle.std.proofs.Common.{◌∙◌, ap}
use Rattle.wac_types_base.specs.Stated.{kind_of}
use Rattle.wac_graph_encode.proofs.Exported.{world_kind}
use Rattle.wac_graph_encode.proofs.without_uses.handed_out.Goals as goal

pub copied-requires-clause-world : goal.copied-requires-clause-world
copied-requires-clause-world c = ap kind_of c.in_ok-item.ensures.without.states ∙ world_kind c.args.types.now c.see_acyclic-2.ensures c.args.world c.requires
