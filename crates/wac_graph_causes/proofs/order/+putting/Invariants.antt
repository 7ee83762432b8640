use Rattle.std.proofs.Common.{◌+◌, ◌*◌, take}
use Rattle.wac_graph_causes.specs.Orders.{PutsAll}
use Rattle.wac_graph_causes.proofs.order.+putting.Given as goal

abbrev pub decreases-put : goal.decreases-put
decreases-put l = 2 * l.depth

abbrev pub decreases-put_all : goal.decreases-put_all
decreases-put_all l = 2 * l.depth + 1

-- those so far are put
abbrev pub invariant-put_all-loop-name : goal.invariant-put_all-loop-name
invariant-put_all-loop-name l = PutsAll l.sources l.depth (take l.name-index l.names) l.fn.order l.order
