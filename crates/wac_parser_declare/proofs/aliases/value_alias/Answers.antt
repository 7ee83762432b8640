use Rattle.wac_parser_declare.proofs.Aliasing.{value_alias_held}
use Rattle.wac_parser_declare.proofs.Fresh.{value_new}
use Rattle.wac_parser_declare.proofs.aliases.value_alias.Goals as goal

pub returns-clause-outcome : goal.returns-clause-outcome
returns-clause-outcome g c =
    value_alias_held (g.T.GrowingTypes.collection c.args.types.now) (g.T.GrowingTypes.collection c.define.new.types) c.in_ok-alias.ensures.grows c.args.ty c.in_ok-alias.alias c.requires c.in_ok-alias.ensures.node

pub returns-clause-fresh : goal.returns-clause-fresh
returns-clause-fresh g c = value_new (g.T.GrowingTypes.collection c.args.types.now) c.in_ok-alias.alias c.in_ok-alias.ensures.fresh
