use Rattle.std.proofs.Common.{map, sym, subst}
use Rattle.std.specs.List.Sorted.{IsStrictlySortedBy}
use Rattle.wac_graph_core.proofs.Inserting.{kept_sorted}
use Rattle.wac_graph_core.proofs.sorted.SortedList.retain.Goals as goal

pub invariant_of-self : goal.invariant_of-self
invariant_of-self g c =
    let k = c.retain.ensures.filtered in
    subst (λ es. IsStrictlySortedBy g.C.KeyOrder.order (map (λ e. e.0) es)) (sym k.4) (kept_sorted g.C.KeyOrder.order k.0 c.self.inside.entries.items c.self.invariant)
