use Rattle.wac_parser_declare.proofs.Added.{resource_added}
use Rattle.wac_parser_declare.proofs.Fresh.{resource_fresh}
use Rattle.wac_parser_declare.proofs.growing.TypesGrowingTypes.add_resource.Goals as goal

pub returns-clause-node : goal.returns-clause-node
returns-clause-node c = resource_added c.args.self.now c.add_resource.new.self c.args.resource c.add_resource.result c.add_resource.ensures.added c.add_resource.ensures.id

pub returns-clause-fresh : goal.returns-clause-fresh
returns-clause-fresh c = resource_fresh c.args.self.now c.add_resource.result c.add_resource.ensures.id
