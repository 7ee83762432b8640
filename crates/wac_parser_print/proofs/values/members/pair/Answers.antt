use Rattle.wac_parser_print.proofs.values.members.pair.Goals as goal

pub returns : goal.returns
returns c x y p q = c.into_value.ensures _ (c.with-2.ensures _ y (c.with.ensures _ x c.new.ensures p) q)
