use Rattle.std.proofs.Common.{◌++◌, ℕ, List, ap, sym, ◌∙◌, append_assoc}
use Rattle.wac_graph_bytes.proofs.LebLaws.{digits_last, digits_more}
use Rattle.wac_graph_bytes.proofs.text.push_digits.Goals as goal

pub loop-rest-preserved : goal.loop-rest-preserved
loop-rest-preserved c =
    let n = c.loop-rest.rest in
    let limit = c.args.limit in
    let e = digits_more limit n c.requires.positive c.loop-rest-test.true in
    rw (c.in_ok-push.ensures.items, append_assoc) (ap (λ (t : List ℕ). c.loop-rest.out.items ++ t) (sym e) ∙ c.loop-rest.invariant)

pub returns : goal.returns
returns c =
    let e = digits_last c.args.limit c.loop-rest.rest c.loop-rest-test.false in
    rw c.in_ok-push-2.ensures.items (ap (λ (t : List ℕ). c.loop-rest.out.items ++ t) (sym e) ∙ c.loop-rest.invariant)
