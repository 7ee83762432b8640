use Rattle.wac_parser_print.proofs.values.types.borrow.Goals as goal

pub returns : goal.returns
returns c = c.variant.ensures _ (c.with_span.ensures _ c.ident.ensures)
