use Rattle.wac_graph_causes.proofs.WorldsInside.{adds_one}
use Rattle.wac_graph_causes.proofs.inside.push_world.Goals as goal

pub returns : goal.returns
returns c = adds_one c.args.types.now c.args.id c.args.worlds.now.items c.push.new.self.items c.in_ok-push.ensures.items c.requires.stands c.requires.worlds
