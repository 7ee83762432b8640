use Rattle.std.proofs.Common.{◌++◌, ◌∷◌, [], sym, ap, ◌∙◌}
use Rattle.wac_graph_core.specs.Slots.{nodes_in}
use Rattle.wac_graph_core.proofs.NodeMap.{nodes_skipped}
use Rattle.wac_graph_core.proofs.slots.trim.Goals as goal

pub loop-slot-preserved : goal.loop-slot-preserved
loop-slot-preserved c =
    let left = c.pop.new.self.items in
    sym (ap nodes_in (c.in-Some.ensures.items ∙ ap (λ o. left ++ o ∷ []) c.in-None.is) ∙ nodes_skipped left) ∙ c.loop-slot.invariant
