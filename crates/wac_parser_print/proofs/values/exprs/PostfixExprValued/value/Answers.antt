use Rattle.wac_parser_print.specs.Values.{postfix_expr}
use Rattle.wac_parser_print.proofs.values.exprs.PostfixExprValued.value.Goals as goal

pub returns-in-NamedAccess : goal.returns-in-NamedAccess
unfolding postfix_expr
returns-in-NamedAccess c = rw c.in-NamedAccess.is (c.variant-in-NamedAccess.ensures _ c.named_access_expr.ensures)
