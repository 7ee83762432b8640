use Rattle.std.proofs.Common.{refl, subst}
use Rattle.std.proofs.lemmas.Result.{on_ok_weaker}
use Rattle.wac_types_base.specs.Collection.{IsAcyclic}
use Rattle.wac_types_base.proofs.Adding.{Grows-refl}
use Rattle.wac_graph_asks.specs.AskedNodes.{CopiesWorld}
use Rattle.wac_graph_asks.proofs.NodeAsks.{no_instance_added, package_there, instance_added}
use Rattle.wac_graph_asks.proofs.asks.Asked.ask_instance.Goals as goal

pub returns-in_default : goal.returns-in_default
returns-in_default c = no_instance_added c.args.graph.now c.args.self.now c.requires c.args.node c.in_default.ensures

pub returns-in_default-2 : goal.returns-in_default-2
returns-in_default-2 c =
    absurd (package_there c.args.graph.now c.see_sound.ensures (subst IsAcyclic c.types.ensures c.see_acyclic.ensures) c.args.node c.in-Some.«package» c.in-Some.ensures
    (subst (CopiesWorld c.args.graph.now c.args.self.now c.copied_world.new.self c.in-Some.«package») c.in_default-2.is c.in_ok-world.ensures))

pub returns : goal.returns
returns c =
    let copied = subst (CopiesWorld c.args.graph.now c.args.self.now c.copied_world.new.self c.in-Some.«package») c.in-Some-2.is c.in_ok-world.ensures in
    on_ok_weaker c.push_unbound.result
    (λ is. instance_added c.args.graph.now c.see_sound.ensures (subst IsAcyclic c.types.ensures c.see_acyclic.ensures) c.args.node c.in-Some.«package» c.in-Some.ensures c.args.self.now c.copied_world.new.self
    (record c.copied_world.new.self { asks = c.push_unbound.new.asks }) c.in-Some-2.world c.in_ok-bound.bound copied c.in_ok-bound.ensures refl (Grows-refl c.copied_world.new.self.types copied.1.held.acyclic) is refl refl)
    c.push_unbound.ensures
