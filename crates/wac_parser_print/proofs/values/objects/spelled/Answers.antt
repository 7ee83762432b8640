use Rattle.wac_parser_print.proofs.values.objects.spelled.Goals as goal

pub returns : goal.returns
returns c = c.pair.ensures _ _ c.try_from_str.ensures c.span.ensures
