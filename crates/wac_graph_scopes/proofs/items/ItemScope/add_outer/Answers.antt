use Rattle.wac_graph_scopes.proofs.ItemLaws.{outer_aliased}
use Rattle.wac_graph_scopes.proofs.items.ItemScope.add_outer.Goals as goal

pub returns-clause-aliases : goal.returns-clause-aliases
returns-clause-aliases c w cc outer i t h a = outer_aliased w cc outer i c.args.depth c.args.index t c.add_type.new.self c.add_type.result a (λ m e. c.add_type.ensures.adds w cc outer i m h e)
