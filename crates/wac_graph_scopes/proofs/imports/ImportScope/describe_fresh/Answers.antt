use Rattle.std.proofs.Common.{Some, refl, sym, ap}
use Rattle.wac_types_base.specs.Tree.{Tree}
use Rattle.wac_graph_bytes.specs.declared.value.Sort.TheVariants as sort
use Rattle.wac_graph_scopes.proofs.UsedLaws.{sorted_fresh}
use Rattle.wac_graph_scopes.proofs.imports.ImportScope.describe_fresh.Goals as goal

pub returns-then-is_fresh-clause-describes : goal.returns-then-is_fresh-clause-describes
returns-then-is_fresh-clause-describes c w outer i imported exported h =
    let f = c.if-is_fresh.ensures.0 refl in
    record { goes = h.goes; on = h.on; sorted = sorted_fresh c.args.all.types.now c.see_acyclic.ensures c.args.import.name.now c.args.import.kind f; reads = ap (λ (x : Tree). Some (sort.Ty, x)) (sym f.1) }
