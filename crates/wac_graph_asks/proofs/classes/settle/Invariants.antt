use Rattle.std.proofs.Common.{◌≡◌, ◌<◌, ℕ, length}
use Rattle.wac_graph_asks.specs.Joining.{label_at, LeadsTo}
use Rattle.wac_graph_asks.proofs.classes.settle.Given as goal

abbrev pub invariant-loop-at : goal.invariant-loop-at
invariant-loop-at l = record {
  as_many : length l.labels.items ≡ length l.fn.labels.items;
  still : (i r : ℕ) → LeadsTo (label_at l.fn.labels.items) i r → LeadsTo (label_at l.labels.items) i r;
  settled : (i : ℕ) → i < l.at → LeadsTo (label_at l.fn.labels.items) i (label_at l.labels.items i);
}
