use Rattle.wac_parser_print.specs.Values.{use_type}
use Rattle.wac_parser_print.proofs.values.interfaces.use_type.Goals as goal

pub returns : goal.returns
unfolding use_type
returns c = c.into_value.ensures _ (c.with-3.ensures _ _ (c.with-2.ensures _ _ (c.with.ensures _ _ c.new.ensures c.array-docs.ensures) c.use_path-path.ensures) c.array-items.ensures)
