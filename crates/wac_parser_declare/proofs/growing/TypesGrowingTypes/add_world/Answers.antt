use Rattle.wac_parser_declare.proofs.Added.{world_added}
use Rattle.wac_parser_declare.proofs.Fresh.{world_fresh}
use Rattle.wac_parser_declare.proofs.growing.TypesGrowingTypes.add_world.Goals as goal

pub returns-clause-node : goal.returns-clause-node
returns-clause-node c = world_added c.args.self.now c.add_world.new.self c.args.world c.add_world.result c.add_world.ensures.added c.add_world.ensures.id

pub returns-clause-fresh : goal.returns-clause-fresh
returns-clause-fresh c = world_fresh c.args.self.now c.add_world.result c.add_world.ensures.id
