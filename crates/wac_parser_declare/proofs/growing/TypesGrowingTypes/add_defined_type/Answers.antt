use Rattle.wac_parser_declare.proofs.Added.{defined_added}
use Rattle.wac_parser_declare.proofs.Fresh.{defined_fresh}
use Rattle.wac_parser_declare.proofs.growing.TypesGrowingTypes.add_defined_type.Goals as goal

pub returns-clause-node : goal.returns-clause-node
returns-clause-node c = defined_added c.args.self.now c.add_defined_type.new.self c.args.ty c.add_defined_type.result c.add_defined_type.ensures.added c.add_defined_type.ensures.id

pub returns-clause-fresh : goal.returns-clause-fresh
returns-clause-fresh c = defined_fresh c.args.self.now c.add_defined_type.result c.add_defined_type.ensures.id
