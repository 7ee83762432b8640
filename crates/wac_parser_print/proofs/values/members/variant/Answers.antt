use Rattle.wac_parser_print.proofs.values.members.variant.Goals as goal

pub returns : goal.returns
returns c x p = c.into_value.ensures _ (c.with.ensures _ x c.new.ensures p)
