use Rattle.wac_parser_print.specs.Values.{constructor}
use Rattle.wac_parser_print.proofs.values.declarations.constructor.Goals as goal

pub returns : goal.returns
unfolding constructor
returns c = c.into_value.ensures _ (c.with-3.ensures _ _ (c.with-2.ensures _ _ (c.with.ensures _ _ c.new.ensures c.array-docs.ensures) c.span-span.ensures) c.array-params.ensures)
