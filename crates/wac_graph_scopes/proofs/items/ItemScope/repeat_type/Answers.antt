use Rattle.wac_graph_scopes.proofs.ItemLaws.{outer_reads, repeated}
use Rattle.wac_graph_scopes.proofs.items.ItemScope.repeat_type.Goals as goal

pub returns-clause-repeats : goal.returns-clause-repeats
returns-clause-repeats c w types outer i m h at =
    repeated w types outer i c.args.index m c.add_type.new.self c.add_type.result at (c.add_type.ensures.adds w types outer i m h (outer_reads w types outer i 0 c.args.index m at))
