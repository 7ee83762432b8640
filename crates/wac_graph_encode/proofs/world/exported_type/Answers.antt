use Rattle.std.proofs.Common.{subst}
use Rattle.wac_graph_encode.specs.Worlds.{TellsFinal}
use Rattle.wac_graph_encode.proofs.Finals.{copied_exported, exported_final}
use Rattle.wac_graph_encode.proofs.world.exported_type.Goals as goal

pub returns-in-Some-clause-exported : goal.returns-in-Some-clause-exported
returns-in-Some-clause-exported c = exported_final c.args.graph.now c.args.types.now c.args.node c.in-Some.kind (subst (TellsFinal c.args.graph.now c.args.types.now c.args.node) c.in-Some.is c.final_type.ensures)

pub returns-in-None-clause-exported : goal.returns-in-None-clause-exported
returns-in-None-clause-exported c =
    copied_exported c.args.graph.now c.copied_type.new.types c.args.node c.copied_type.result (subst (TellsFinal c.args.graph.now c.args.types.now c.args.node) c.in-None.is c.final_type.ensures) c.copied_type.ensures.copied
