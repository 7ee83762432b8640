use Rattle.std.proofs.Common.{map, nat_cmp, sym, subst}
use Rattle.std.specs.List.Sorted.{IsStrictlySortedBy}
use Rattle.wac_tests.proofs.sorted_rows.entries_leave.Goals as goal

pub from_sorted-list-requires : goal.from_sorted-list-requires
unfolding IsStrictlySortedBy
from_sorted-list-requires g c = subst (λ es. IsStrictlySortedBy nat_cmp (map (λ e. e.0) es)) (sym c.new.ensures.items) tt
