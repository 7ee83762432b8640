use Rattle.std.proofs.Common.{◌≡◌, ℕ}
use Rattle.wac_graph_asks.specs.Joining.{label_at, LeadsTo}
use Rattle.wac_graph_asks.proofs.classes.first_of.Given as goal

abbrev pub invariant-loop-before : goal.invariant-loop-before
invariant-loop-before l = record {
  is : l.before ≡ label_at l.labels l.first;
  led : (r : ℕ) → LeadsTo (label_at l.labels) l.first r → LeadsTo (label_at l.labels) l.at r;
}

abbrev pub decreases-loop-before : goal.decreases-loop-before
decreases-loop-before l = l.first
