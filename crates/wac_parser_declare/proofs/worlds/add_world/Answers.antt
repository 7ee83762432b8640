use Rattle.wac_parser_declare.specs.Making.{identifier_of}
use Rattle.wac_parser_declare.proofs.Making.{world_answered}
use Rattle.wac_parser_declare.proofs.worlds.add_world.Goals as goal

pub returns-clause-made : goal.returns-clause-made
returns-clause-made g c =
    world_answered (g.T.GrowingTypes.collection c.args.types.now) (g.T.GrowingTypes.collection c.add_world.new.self) c.add_world.ensures.grows c.args.body c.requires (identifier_of c.args.own.now c.args.name.now) c.in_ok-id.id c.in_ok-id.ensures c.add_world.result c.add_world.ensures.node
