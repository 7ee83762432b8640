use Rattle.std.proofs.Common.{Some, sym, ap}
use Rattle.wac_types_base.specs.Tree.{Tree}
use Rattle.wac_graph_bytes.specs.declared.value.Sort.TheVariants as sort
use Rattle.wac_graph_scopes.proofs.UsedLaws.{sorted_fresh}
use Rattle.wac_graph_scopes.proofs.items.export_resource.Goals as goal

pub returns-clause-exports : goal.returns-clause-exports
returns-clause-exports c w outer i h f =
    (c.in_ok-export_described.ensures.exports w outer i h f.0 (sorted_fresh c.args.types.now c.see_acyclic.ensures c.args.item.name.now c.args.item.kind f) (ap (λ (x : Tree). Some (sort.Ty, x)) (sym f.1))).exported
