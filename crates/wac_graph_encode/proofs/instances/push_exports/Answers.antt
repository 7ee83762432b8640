use Rattle.std.proofs.Common.{ℕ, List, [], length, sym, subst}
use Rattle.std.proofs.lemmas.Result.{IfOk-weaker}
use Rattle.wac_graph_scopes.specs.Orders.{IsOrder}
use Rattle.wac_graph_encode.proofs.Rearranging.{rearranged, first_rearranged}
use Rattle.wac_graph_encode.specs.Writing.{exports_at, other_exports}
use Rattle.wac_graph_encode.proofs.instances.push_exports.Goals as goal

pub returns : goal.returns
returns c =
    let xs = c.args.graph.now.exports in
    let given = c.args.exported.now in
    let order = c.as_slice.result.now in
    let is : IsOrder (length xs) [] order = subst (λ (l : List ℕ). IsOrder (length xs) [] l) (sym c.as_slice.ensures.value) c.in_ok-order.ensures in
    IfOk-weaker c.push_in_order.result _ _
    (λ u a. record { listing = other_exports given (exports_at xs order); rearranged = λ first. first_rearranged given xs (exports_at xs order) first (rearranged xs order c.see_sound.ensures.exported.distinct is); adds = a })
    c.push_in_order.ensures
