use Rattle.std.proofs.Common.{false, get_or, refl, arith}
use Rattle.wac_types_base.specs.declared.defined.UsedType.{UsedType}
use Rattle.std.proofs.lemmas.Option.{slice_get-get_or}
use Rattle.wac_types_same.proofs.Lists.{agree_more, agree_not, agree_all, said_no, no_test}
use Rattle.wac_types_same.proofs.labels.same_taken.Goals as goal

pub returns-then-not-same_texts : goal.returns-then-not-same_texts
returns-then-not-same_texts c =
    let a = slice_get-get_or c.args.a.now c.loop-at.at c.index-a-at.result (omega arith) in
    let b = slice_get-get_or c.args.b.now c.loop-at.at c.index-b-at.result (omega arith) in
    said_no false _ refl (agree_not (λ (u : UsedType). u.name) c.args.a.now c.args.b.now c.loop-at.at (get_or c.args.a.now c.loop-at.at c.index-a-at.result) (get_or c.args.b.now c.loop-at.at c.index-b-at.result) a b (no_test c.same_texts.result _ c.if-not-same_texts.true c.same_texts.ensures))

pub loop-at-preserved : goal.loop-at-preserved
loop-at-preserved c =
    let a = slice_get-get_or c.args.a.now c.loop-at.at c.index-a-at.result (omega arith) in
    let b = slice_get-get_or c.args.b.now c.loop-at.at c.index-b-at.result (omega arith) in
    agree_more (λ (u : UsedType). u.name) c.args.a.now c.args.b.now c.loop-at.at (get_or c.args.a.now c.loop-at.at c.index-a-at.result) (get_or c.args.b.now c.loop-at.at c.index-b-at.result) a b (c.same_texts.ensures.0 c.if-not-same_texts.false) c.loop-at.invariant

pub returns : goal.returns
returns c = (λ t. agree_all (λ (u : UsedType). u.name) c.args.a.now c.args.b.now c.loop-at.at (omega arith) (omega arith) c.loop-at.invariant, λ e. refl)
