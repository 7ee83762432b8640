use Rattle.wac_parser_declare.proofs.Making.{interface_answered}
use Rattle.wac_parser_declare.proofs.interfaces.add_interface.Goals as goal

pub returns-clause-made : goal.returns-clause-made
returns-clause-made g c =
    interface_answered (g.T.GrowingTypes.collection c.args.types.now) (g.T.GrowingTypes.collection c.add_interface.new.self) c.add_interface.ensures.grows c.args.body c.requires c.args.id c.add_interface.result c.add_interface.ensures.node
