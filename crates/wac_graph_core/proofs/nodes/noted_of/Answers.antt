use Rattle.std.proofs.Common.{◌≡◌, ◌+◌, ◌++◌, ◌∷◌, [], Some, refl, sym, ap, subst, take, ◌∙◌}
use Rattle.std.proofs.lemmas.List.{length-take-le, take_more}
use Rattle.wac_graph_core.specs.Noted.{HasNotes}
use Rattle.wac_graph_core.specs.Slots.{nodes_in}
use Rattle.wac_graph_core.proofs.Noting.{none_known}
use Rattle.wac_graph_core.proofs.nodes.noted_of.Goals as goal

pub loop-at-init : goal.loop-at-init
loop-at-init c = none_known (Some c.none_noted.result) _ refl

pub loop-at-preserved : goal.loop-at-preserved
loop-at-preserved c =
    let slots = c.args.slots.now in
    let more : take (c.loop-at.at + 1) slots ≡ take c.loop-at.at slots ++ c.index-slots-at.result ∷ [] =
    take_more slots c.loop-at.at c.index-slots-at.result c.loop-at-test.true ∙ ap (λ o. take c.loop-at.at slots ++ o ∷ []) (sym c.index-slots-at.is) in
    subst (λ l. HasNotes c.with_slot-noted.result (nodes_in l)) (sym more)
    (c.with_slot-noted.ensures (take c.loop-at.at slots) (length-take-le c.loop-at.at slots c.loop-at.auto.at-end ∙ sym c.new.ensures) c.loop-at.invariant)
