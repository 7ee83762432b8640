use Rattle.std.proofs.Common.{◌≡◌, ◌+◌, ◌*◌, take}
use Rattle.wac_graph_scopes.specs.Orders.{Puts, PutsEach}
use Rattle.wac_graph_scopes.specs.Behind.{lists_of, needs_at}
use Rattle.wac_graph_scopes.proofs.order.Order.+putting.Given as goal

abbrev pub decreases-put : goal.decreases-put
decreases-put l = 3 * l.depth

abbrev pub decreases-put_needs : goal.decreases-put_needs
decreases-put_needs l = 3 * l.depth + 2

abbrev pub decreases-put_need : goal.decreases-put_need
decreases-put_need l = 3 * l.depth + 1

abbrev pub invariant-put_needs-loop-which : goal.invariant-put_needs-loop-which
invariant-put_needs-loop-which l = record {
  turns : l.self.turns.items ≡ l.fn.self.turns.items;
  needs : l.self.needs.items ≡ l.fn.self.needs.items;
  exactly : PutsEach (lists_of l.fn.self.needs.items) l.depth (take l.which (needs_at (lists_of l.fn.self.needs.items) l.at)) l.fn.self.begun.items l.self.begun.items l.fn.self.order.items l.self.order.items;
  puts : Puts l.fn.self.begun.items l.self.begun.items l.fn.self.order.items l.self.order.items;
}
