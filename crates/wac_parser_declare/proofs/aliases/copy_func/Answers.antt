use Rattle.wac_parser_declare.proofs.Standing.{copied_func}
use Rattle.wac_parser_declare.proofs.aliases.copy_func.Goals as goal

pub returns : goal.returns
returns c = copied_func c.args.types.now c.args.id c.func_type-func.result.now c.in_ok-copy_params.field-0 c.func_type-func.ensures.entry c.func_type-func.ensures.own c.in_ok-copy_params.ensures
