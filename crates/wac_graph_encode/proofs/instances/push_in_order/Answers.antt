use Rattle.std.proofs.Common.{ℕ, List, [], ◌∷◌, ◌≤◌, ◌∙◌, get_or, length, take, sym, ap, subst, arith}
use Rattle.std.proofs.lemmas.List.{take_all}
use Rattle.std.proofs.lemmas.Option.{slice_get-get_or}
use Rattle.wac_types_base.specs.Entries.{Name}
use Rattle.wac_types_base.proofs.Looked.{take-one_more}
use Rattle.wac_graph_encode.specs.Writing.{AddsAt, AddsExports, exports_at, other_exports}
use Rattle.wac_graph_encode.proofs.Rearranging.{adds_more, exports_next, others_next}
use Rattle.wac_graph_encode.proofs.instances.push_in_order.Goals as goal

pub loop-at-preserved : goal.loop-at-preserved
loop-at-preserved c =
    let xs = c.args.graph.now.exports in
    let given = c.args.exported.now in
    let nodes = c.args.nodes.now.entries in
    let order = c.args.order.now in
    let i = c.loop-at.at-index in
    let k = get_or order i 0 in
    let at = slice_get-get_or order i 0 c.loop-at-test.true in
    let more = adds_more nodes (other_exports given (exports_at xs (take i order))) (other_exports given (exports_at xs (k ∷ []))) c.args.entries.now.items c.loop-at.entries.items c.export_at.new.entries.items c.loop-at.invariant c.in_ok-export_at.ensures in
    subst (λ (l : List (Name × ℕ)). AddsExports nodes l c.args.entries.now.items c.export_at.new.entries.items)
    (sym (others_next given (exports_at xs (take i order)) (exports_at xs (k ∷ []))) ∙ ap (other_exports given) (sym (exports_next xs (take i order) k) ∙ ap (exports_at xs) (sym (take-one_more order i k at)))) more

pub returns : goal.returns
returns c =
    let order = c.args.order.now in
    let le : length order ≤ c.loop-at.at-index = omega (arith, c.loop-at-test.false) in
    subst (λ (ks : List ℕ). AddsAt c.args.nodes.now.entries c.args.exported.now c.args.graph.now.exports ks c.args.entries.now.items c.loop-at.entries.items) (take_all c.loop-at.at-index order le) c.loop-at.invariant
