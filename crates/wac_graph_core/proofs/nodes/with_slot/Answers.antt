use Rattle.std.proofs.Common.{◌≡◌, ◌++◌, ◌∷◌, [], sym, ap, subst, ◌∙◌}
use Rattle.std.specs.FinMap as map
use Rattle.wac_graph_core.specs.Noted.{HasNotes}
use Rattle.wac_graph_core.specs.Slots.{nodes_in}
use Rattle.wac_graph_core.proofs.NodeMap.{nodes_pushed, nodes_skipped}
use Rattle.wac_graph_core.proofs.nodes.with_slot.Goals as goal

pub returns-in-Some : goal.returns-in-Some
returns-in-Some c slots len known =
    let pushed : nodes_in (slots ++ c.args.slot.now ∷ []) ≡ map.insert (nodes_in slots) c.args.id c.in-Some.node =
    ap (λ o. nodes_in (slots ++ o ∷ [])) c.in-Some.is ∙ nodes_pushed slots c.in-Some.node ∙ ap (λ k. map.insert (nodes_in slots) k c.in-Some.node) len in
    subst (HasNotes c.with_node.result) (sym pushed) (c.with_node.ensures (nodes_in slots) known)

pub returns-in-None : goal.returns-in-None
returns-in-None c slots len known =
    subst (HasNotes c.args.noted) (sym (ap (λ o. nodes_in (slots ++ o ∷ [])) c.in-None.is ∙ nodes_skipped slots)) known
