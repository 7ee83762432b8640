use Rattle.wac_graph_scopes.specs.declared.lacking.Lacking.{Lacking}
use Rattle.wac_graph_scopes.proofs.LackingLaws.{lacking_more, lacking_same}
use Rattle.wac_graph_scopes.proofs.lacking.Lacking.keep.Goals as goal

pub returns : goal.returns
returns c cc s is a =
    let new : Lacking = record { found = c.insert.new.self } in
    lacking_more cc s c.args.self.now new c.args.id c.args.lacks is c.in_ok-insert.ensures.updates.0 a

pub returns-in_err-insert : goal.returns-in_err-insert
returns-in_err-insert c cc s is a =
    let new : Lacking = record { found = c.insert.new.self } in
    lacking_same cc s c.args.self.now new c.in_err-insert.ensures.err a
