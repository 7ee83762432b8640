use Rattle.std.proofs.Common.{subst}
use Rattle.wac_graph_core.specs.Slots.{nodes_in}
use Rattle.wac_graph_core.specs.Noted.{HasNotes, KnowsTypes}
use Rattle.wac_graph_core.proofs.nodes.Nodes.marked.Goals as goal

pub look_up_marked-requires : goal.look_up_marked-requires
look_up_marked-requires c =
    let known = subst (λ o. HasNotes o (nodes_in c.self.inside.slots.items)) c.in-Some.is c.self.invariant in
    subst (KnowsTypes c.in-Some.noted.types) c.self.view_is known.types
