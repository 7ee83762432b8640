use Rattle.wac_parser_print.proofs.values.types.result_type.Goals as goal

pub returns : goal.returns
returns c x y p q = c.variant.ensures _ (c.into_value-types.ensures _ (c.with-3.ensures _ _ (c.with-2.ensures _ y (c.with.ensures _ x c.new.ensures p) q) c.span.ensures))
