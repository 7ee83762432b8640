use Rattle.std.proofs.Common.{◌∷◌, sym, arith}
use Rattle.wac_types_base.proofs.Telling.{resource_source}
use Rattle.wac_types_fit.proofs.Unfolded.{source_tree}
use Rattle.wac_graph_scopes.proofs.PlaceLaws.{source_entry}
use Rattle.wac_graph_scopes.proofs.resources.+entry_index.Goals as goal

pub entry_index-requires : goal.entry_index-requires
entry_index-requires t c =
    let s = resource_source c.args.types.now c.see_acyclic.ensures c.args.id c.resource.result.now c.in-Some-alias.alias c.resource.ensures.entry c.resource.ensures.own c.in-Some-alias.is in
    (omega (arith, s.1, c.decreases), s.0)

pub returns-in-Some-alias-clause-reads : goal.returns-in-Some-alias-clause-reads
returns-in-Some-alias-clause-reads t c w outer i h =
    let types = c.args.types.now in
    let same = source_tree types c.see_acyclic.ensures c.args.id c.resource.result.now c.in-Some-alias.alias c.resource.ensures.entry c.resource.ensures.own c.in-Some-alias.is in
    source_entry w (i.here ∷ outer) types c.args.id c.in-Some-alias.alias.source c.entry_index.result (sym same) (c.entry_index.ensures.reads w outer i h)
