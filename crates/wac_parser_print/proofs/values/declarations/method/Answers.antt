use Rattle.wac_parser_print.specs.Values.{method}
use Rattle.wac_parser_print.proofs.values.declarations.method.Goals as goal

pub returns : goal.returns
unfolding method
returns c = c.into_value.ensures _ (c.with-4.ensures _ _ (c.with-3.ensures _ _ (c.with-2.ensures _ _ (c.with.ensures _ _ c.new.ensures c.array-docs.ensures) c.ident-id.ensures) c.truth-is_static.ensures) c.func_type-ty.ensures)
