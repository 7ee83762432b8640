use Rattle.std.proofs.Common.{arith}
use Rattle.std.proofs.lemmas.Bool.{both_ways}
use Rattle.wac_graph_plug.proofs.Near.{far, none_so_far, none_at_all}
use Rattle.wac_graph_plug.proofs.matching.next_near.Goals as goal

pub returns-then-near-clause-found : goal.returns-then-near-clause-found
returns-then-near-clause-found c =
    record {
      within = omega (arith, c.loop-at-test.true, c.len-at-end.ensures.len);
      above = c.loop-at.auto.at;
      near = record { name = c.entry.result.0.now; item = c.entry.result.1.now; there = c.entry.ensures; near = c.in_ok-near.ensures.value.0 c.if-near.true };
      first = c.loop-at.invariant;
    }

pub loop-at-preserved : goal.loop-at-preserved
loop-at-preserved c =
    none_so_far c.args.imports.now c.args.name.now c.args.low c.loop-at.at c.loop-at.invariant
    (far c.args.imports.now c.args.name.now c.loop-at.at c.entry.result.0.now c.entry.result.1.now c.entry.ensures (λ h. both_ways c.in_ok-near.near c.if-near.false (c.in_ok-near.ensures.value.1 h)))

pub returns-clause-none : goal.returns-clause-none
returns-clause-none c = none_at_all c.args.imports.now c.args.name.now c.args.low c.loop-at.at c.loop-at.invariant (omega (arith, c.loop-at-test.false, c.len-at-end.ensures.len))
