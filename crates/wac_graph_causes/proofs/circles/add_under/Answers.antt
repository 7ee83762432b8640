use Rattle.std.proofs.lemmas.List.{append-nil, append_assoc}
use Rattle.std.proofs.Common.{◌++◌, ◌∷◌, [], map, take, sym, ap, ◌∙◌}
use Rattle.wac_types_base.proofs.Loops.{get-place, map-one_more, take-all}
use Rattle.wac_graph_causes.specs.Circling.{under_name}
use Rattle.wac_graph_causes.proofs.circles.add_under.Goals as goal

pub loop-one-init : goal.loop-one-init
loop-one-init c = sym (append-nil c.args.all.now.items)

pub loop-one-preserved : goal.loop-one-preserved
loop-one-preserved c =
    let n = c.args.name.now in
    let late = c.args.late.now in
    let i = c.loop-one.one-index in
    let one = c.one-item.result in
    let old = c.args.all.now.items in
    let f = under_name n in
    c.in_ok-push.ensures.items
    ∙ (λ j. c.loop-one.all.items ++ record { name = c.in_ok-name.ensures j; item = one.item } ∷ [])
    ∙ ap (λ l. l ++ f one ∷ []) c.loop-one.invariant ∙ append_assoc old (map f (take i late)) (f one ∷ [])
    ∙ ap (λ l. old ++ l) (sym (map-one_more f late i one (get-place late i one c.loop-one-test.true c.one-item.is)))

pub returns : goal.returns
returns c = c.loop-one.invariant ∙ ap (λ l. c.args.all.now.items ++ map (under_name c.args.name.now) l) (take-all c.args.late.now c.loop-one.one-index c.loop-one-test.false)
