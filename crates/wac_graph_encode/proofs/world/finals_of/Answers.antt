use Rattle.std.proofs.Common.{refl, subst}
use Rattle.wac_types_base.specs.Collection.{IsAcyclic}
use Rattle.wac_graph_encode.proofs.Finals.{finals_known}
use Rattle.wac_graph_encode.proofs.world.finals_of.Goals as goal

pub returns : goal.returns
returns c =
    finals_known c.args.graph.now c.see_sound.ensures (subst IsAcyclic c.types.ensures c.see_acyclic.ensures) c.args.types.now c.see_acyclic-2.ensures c.args.outers.now c.args.definitions.now c.requires
    (record { outers = c.args.outers; definitions = c.tell_definitions.new.told }) refl c.in_ok-tell_definitions.ensures
