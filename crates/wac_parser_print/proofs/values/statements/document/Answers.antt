use Rattle.wac_parser_print.specs.Values.{document}
use Rattle.wac_parser_print.proofs.values.statements.document.Goals as goal

pub returns : goal.returns
unfolding document
returns c = c.into_value.ensures _ (c.with-3.ensures _ _ (c.with-2.ensures _ _ (c.with.ensures _ _ c.new.ensures c.array-docs.ensures) c.package_directive-directive.ensures) c.array-statements.ensures)
