use Rattle.std.proofs.Common.{◌≡◌, length}
use Rattle.wac_graph_encode.proofs.Rooting.{Entered}
use Rattle.wac_graph_encode.proofs.declarations.add_entries.Given as goal

abbrev pub invariant-loop-declaration : goal.invariant-loop-declaration
invariant-loop-declaration l =
    Entered l.early.entries l.fn.entries.items l.fn.exported l.fn.declarations.items l.entries.items l.exported l.declaration-iterator.rest.items ×
    (l.declaration-iterator.rest.len ≡ length l.declaration-iterator.rest.items)
