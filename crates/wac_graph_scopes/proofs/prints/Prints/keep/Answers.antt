use Rattle.wac_graph_scopes.specs.declared.prints.Prints.{Prints}
use Rattle.wac_graph_scopes.proofs.PrintLaws.{prints_more, prints_same}
use Rattle.wac_graph_scopes.proofs.prints.Prints.keep.Goals as goal

pub returns : goal.returns
returns c cc stands is a =
    let new : Prints = record { found = c.insert.new.self } in
    prints_more cc c.args.self.now new c.args.id c.args.print is c.in_ok-insert.ensures.updates.0 a

pub returns-in_err-insert : goal.returns-in_err-insert
returns-in_err-insert c cc stands is a =
    let new : Prints = record { found = c.insert.new.self } in
    prints_same cc c.args.self.now new c.in_err-insert.ensures.err a
