use Rattle.wac_parser_declare.proofs.Added.{interface_added}
use Rattle.wac_parser_declare.proofs.Fresh.{interface_fresh}
use Rattle.wac_parser_declare.proofs.growing.TypesGrowingTypes.add_interface.Goals as goal

pub returns-clause-node : goal.returns-clause-node
returns-clause-node c = interface_added c.args.self.now c.add_interface.new.self c.args.interface c.add_interface.result c.add_interface.ensures.added c.add_interface.ensures.id

pub returns-clause-fresh : goal.returns-clause-fresh
returns-clause-fresh c = interface_fresh c.args.self.now c.add_interface.result c.add_interface.ensures.id
