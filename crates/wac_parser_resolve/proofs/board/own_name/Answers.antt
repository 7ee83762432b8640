use Rattle.std.proofs.Common.{None, subst}
use Rattle.wac_parser_resolve.specs.Told.{IsOwnName}
use Rattle.wac_parser_resolve.proofs.board.own_name.Goals as goal

pub returns-in-None-get_alias_source : goal.returns-in-None-get_alias_source
returns-in-None-get_alias_source c =
    subst (λ m. IsOwnName c.args.graph.now c.args.node m None) c.in-None.ensures (λ n a. c.in-None-get_alias_source.ensures.none a.0 n a.1)
