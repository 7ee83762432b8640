use Rattle.std.proofs.Common.{map, sym, subst}
use Rattle.std.specs.List.Sorted.{IsStrictlySortedBy}
use Rattle.wac_graph_core.proofs.Inserting.{none_sorted}
use Rattle.wac_graph_core.proofs.sorted.SortedList.new.Goals as goal

pub invariant_of-result : goal.invariant_of-result
invariant_of-result g c = subst (λ es. IsStrictlySortedBy g.C.KeyOrder.order (map (λ e. e.0) es)) (sym c.new.ensures.items) (none_sorted g.C.KeyOrder.order)
