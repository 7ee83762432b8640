use Rattle.wac_parser_print.proofs.values.objects.declaration.Goals as goal

pub returns : goal.returns
returns c x p = c.into_value.ensures _ (c.with-3.ensures _ x (c.with-2.ensures _ _ (c.with.ensures _ _ c.new.ensures c.array.ensures) c.ident.ensures) p)
