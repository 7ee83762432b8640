use Rattle.wac_parser_declare.proofs.Fresh.{type_newer}
use Rattle.wac_parser_declare.proofs.aliases.alias_value.Goals as goal

pub returns-clause-fresh : goal.returns-clause-fresh
returns-clause-fresh g c = type_newer (g.T.GrowingTypes.collection c.args.types.now) (g.T.GrowingTypes.collection c.value_type.new.types) c.in_ok-value.ensures.grows c.value_alias.result c.value_alias.ensures.fresh
