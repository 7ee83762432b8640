use Rattle.wac_graph_asks.proofs.Adding.{imports_added, alone_added, world_added}
use Rattle.wac_graph_asks.proofs.copies.add_world.Goals as goal

pub returns-clause-stands : goal.returns-clause-stands
returns-clause-stands c = world_added c.args.types.now c.add_world.new.self c.args.world c.in_ok-id.id c.in_ok-id.ensures.added c.in_ok-id.ensures.id

pub returns-clause-imports : goal.returns-clause-imports
returns-clause-imports c = imports_added c.args.types.now c.add_world.new.self c.args.world c.in_ok-id.id c.in_ok-id.ensures.added c.in_ok-id.ensures.id

pub returns-clause-alone : goal.returns-clause-alone
returns-clause-alone c = alone_added c.args.types.now c.add_world.new.self c.args.world c.in_ok-id.id c.in_ok-id.ensures.added c.in_ok-id.ensures.id
