use Rattle.std.proofs.Common.{subst}
use Rattle.wac_graph_core.specs.Slots.{nodes_in}
use Rattle.wac_graph_core.specs.Noted.{HasNotes, KnowsTypes}
use Rattle.wac_graph_core.proofs.Noting.{told_none}
use Rattle.wac_graph_core.proofs.nodes.Nodes.find_definition.Goals as goal

pub look_up_definition-requires : goal.look_up_definition-requires
look_up_definition-requires c =
    let known = subst (λ o. HasNotes o (nodes_in c.self.inside.slots.items)) c.in-Some.is c.self.invariant in
    subst (KnowsTypes c.in-Some.noted.types) c.self.view_is known.types

pub returns-in-Some-clause-none : goal.returns-in-Some-clause-none
returns-in-Some-clause-none c = told_none c.args.self.now c.args.ty c.look_up_definition.result c.look_up_definition.ensures.told
