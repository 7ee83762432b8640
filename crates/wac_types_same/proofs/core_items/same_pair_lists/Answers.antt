use Rattle.std.proofs.Common.{false, refl, arith}
use Rattle.wac_types_base.proofs.Loops.{get-place}
use Rattle.wac_types_same.specs.Same.{pair_of}
use Rattle.wac_types_same.proofs.Lists.{agree_more, agree_not, agree_all, said_no, no_test}
use Rattle.wac_types_same.proofs.core_items.same_pair_lists.Goals as goal

pub returns-then-not-same_pairs : goal.returns-then-not-same_pairs
returns-then-not-same_pairs c =
    let a = get-place c.args.a.now c.loop-at.at c.index-a-at.result (omega arith) c.index-a-at.is in
    let b = get-place c.args.b.now c.loop-at.at c.index-b-at.result (omega arith) c.index-b-at.is in
    said_no false _ refl (agree_not pair_of c.args.a.now c.args.b.now c.loop-at.at c.index-a-at.result c.index-b-at.result a b (no_test c.same_pairs.result _ c.if-not-same_pairs.true c.same_pairs.ensures))

pub loop-at-preserved : goal.loop-at-preserved
loop-at-preserved c =
    let a = get-place c.args.a.now c.loop-at.at c.index-a-at.result (omega arith) c.index-a-at.is in
    let b = get-place c.args.b.now c.loop-at.at c.index-b-at.result (omega arith) c.index-b-at.is in
    agree_more pair_of c.args.a.now c.args.b.now c.loop-at.at c.index-a-at.result c.index-b-at.result a b (c.same_pairs.ensures.0 c.if-not-same_pairs.false) c.loop-at.invariant

pub returns : goal.returns
returns c = (λ t. agree_all pair_of c.args.a.now c.args.b.now c.loop-at.at (omega arith) (omega arith) c.loop-at.invariant, λ e. refl)
