use Rattle.wac_parser_resolve.specs.InExpressions.{SaysThat}
use Rattle.wac_parser_resolve.proofs.Accesses.{access_named}
use Rattle.wac_parser_resolve.proofs.expressions.access.Goals as goal

pub returns-in-NamedAccess-clause-outcome : goal.returns-in-NamedAccess-clause-outcome
returns-in-NamedAccess-clause-outcome c noted names s d says dn =
    access_named (SaysThat c.alias-in-NamedAccess.new.graph noted names) c.args.before c.span.result s d c.args.one.now c.span.ensures c.alias-in-NamedAccess.result c.in-NamedAccess.one c.in-NamedAccess.is
    (c.alias-in-NamedAccess.ensures.outcome noted names s d says dn)
