use Rattle.wac_parser_declare.proofs.Added.{func_added}
use Rattle.wac_parser_declare.proofs.Fresh.{func_fresh}
use Rattle.wac_parser_declare.proofs.growing.TypesGrowingTypes.add_func_type.Goals as goal

pub returns-clause-node : goal.returns-clause-node
returns-clause-node c = func_added c.args.self.now c.add_func_type.new.self c.args.func c.add_func_type.result c.add_func_type.ensures.added c.add_func_type.ensures.id

pub returns-clause-fresh : goal.returns-clause-fresh
returns-clause-fresh c = func_fresh c.args.self.now c.add_func_type.result c.add_func_type.ensures.id
