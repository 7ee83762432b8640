use Rattle.std.proofs.Common.{map, sym, subst}
use Rattle.std.specs.List.Sorted.{IsStrictlySortedBy}
use Rattle.wac_graph_core.proofs.Inserting.{out_sorted}
use Rattle.wac_graph_core.proofs.sorted.SortedList.remove_at.Goals as goal

pub invariant_of-self : goal.invariant_of-self
invariant_of-self g c =
    subst (λ es. IsStrictlySortedBy g.C.KeyOrder.order (map (λ e. e.0) es)) (sym c.remove.ensures.items)
    (out_sorted g.C.KeyOrder.order c.self.inside.entries.items c.args.place c.self.invariant)
