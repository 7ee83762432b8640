use Rattle.wac_parser_print.specs.Values.{func_type}
use Rattle.wac_parser_print.proofs.values.types.func_type.Goals as goal

pub returns : goal.returns
unfolding func_type
returns c = c.into_value.ensures _ (c.with-3.ensures _ _ (c.with-2.ensures _ _ (c.with.ensures _ _ c.new.ensures c.truth-is_async.ensures) c.array-params.ensures) c.result_list-results.ensures)
