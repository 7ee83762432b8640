use Rattle.std.proofs.Common.{◌≡◌, take}
use Rattle.wac_types_base.specs.Entries.{AreDistinct}
use Rattle.wac_graph_scopes.proofs.order.set_of.Given as goal

abbrev pub invariant-loop-at : goal.invariant-loop-at
invariant-loop-at l = AreDistinct l.places → l.set.keys ≡ take l.at-index l.places
