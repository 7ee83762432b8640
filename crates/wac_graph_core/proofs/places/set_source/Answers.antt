use Rattle.std.proofs.Common.{Some, ap, slice_set}
use Rattle.wac_graph_core.proofs.Placing.{at_index}
use Rattle.wac_graph_core.proofs.places.set_source.Goals as goal

pub returns : goal.returns
returns c =
    let ts = c.args.ties.now.items in
    record {
      at = c.index_mut.result.now;
      there = at_index ts c.args.node c.index.result c.index_mut.result.now c.index.ensures c.requires c.index_mut.ensures.value;
      made = ap (λ j. slice_set ts j (record c.index_mut.result.now { source = Some (c.args.instance, c.args.name) })) c.index.ensures;
    }
