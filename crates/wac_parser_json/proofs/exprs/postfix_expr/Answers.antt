use Rattle.std.proofs.Common.{ap}
use Rattle.json.specs.Print.{escape_byte}
use Rattle.wac_parser_tree.specs.Views.{view_postfix_expr}
use Rattle.wac_parser_print.specs.Values.{postfix_expr}
use Rattle.wac_parser_json.proofs.Writing.{then, of_tree}
use Rattle.wac_parser_json.proofs.exprs.postfix_expr.Goals as goal

pub returns-in-Access : goal.returns-in-Access
unfolding postfix_expr escape_byte
returns-in-Access g c = of_tree postfix_expr (ap view_postfix_expr c.in-Access.is) (then c.word.ensures (then c.access_expr.ensures c.word-in-Access.ensures))

pub returns-in-NamedAccess : goal.returns-in-NamedAccess
unfolding postfix_expr escape_byte
returns-in-NamedAccess g c = of_tree postfix_expr (ap view_postfix_expr c.in-NamedAccess.is) (then c.word-in-NamedAccess.ensures (then c.named_access_expr.ensures c.word-in-NamedAccess-2.ensures))
