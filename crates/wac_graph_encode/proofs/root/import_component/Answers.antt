use Rattle.std.proofs.Common.{[]}
use Rattle.wac_graph_encode.proofs.Importing.{has_imported}
use Rattle.wac_graph_encode.proofs.root.import_component.Goals as goal

pub returns-clause-imports : goal.returns-clause-imports
returns-clause-imports c stands w i h =
    let a = c.in_ok-description.ensures stands w [] i h in
    let b = c.in_ok-place.ensures.imports w [] a.after a.goes.stands stands a.sorted (a.reads c.args.name.now) in
    has_imported w c.args.types.now i c.args.name.now c.args.world c.in_ok-description.description _ _ c.in_ok-place.place a b
