use Rattle.wac_parser_print.specs.Values.{world_include}
use Rattle.wac_parser_print.proofs.values.worlds.world_include.Goals as goal

pub returns : goal.returns
unfolding world_include
returns c = c.into_value.ensures _ (c.with-3.ensures _ _ (c.with-2.ensures _ _ (c.with.ensures _ _ c.new.ensures c.array-docs.ensures) c.world_ref-world.ensures) c.array-items.ensures)
