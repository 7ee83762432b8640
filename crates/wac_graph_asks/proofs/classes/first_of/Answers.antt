use Rattle.std.proofs.Common.{◌<◌, subst, arith}
use Rattle.wac_graph_asks.specs.Joining.{label_at, LeadsTo, there, down}
use Rattle.wac_graph_asks.proofs.classes.first_of.Goals as goal

pub loop-before-preserved : goal.loop-before-preserved
loop-before-preserved c =
    let f = label_at c.args.labels.now in
    let i = c.loop-before.invariant in
    record {
      is = c.place_at-before-in-loop-before.ensures;
      led = λ r k. i.led r (down (subst (λ n. n < c.loop-before.first) i.is c.loop-before-test.true) (subst (λ n. LeadsTo f n r) i.is k));
    }

pub returns : goal.returns
returns c =
    let i = c.loop-before.invariant in
    i.led c.loop-before.first (there (λ l. absurd (omega (arith, l, i.is))))
