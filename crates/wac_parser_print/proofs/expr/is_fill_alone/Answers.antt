use Rattle.std.proofs.Common.{◌≢◌, length, sym, arith}
use Rattle.wac_parser_tree.specs.Views.{view_instantiation_argument}
use Rattle.wac_parser_print.proofs.FormLaws.{not_alone}
use Rattle.wac_parser_print.proofs.expr.is_fill_alone.Goals as goal

pub returns-then-len-ne1 : goal.returns-then-len-ne1
returns-then-len-ne1 c =
    let many : length c.args.arguments.now.items ≢ 1 = omega arith in
    sym (not_alone view_instantiation_argument c.args.arguments.now.items many)
