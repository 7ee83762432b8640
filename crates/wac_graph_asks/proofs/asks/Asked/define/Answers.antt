use Rattle.std.proofs.Common.{refl, ◌∙◌}
use Rattle.wac_graph_asks.proofs.NodeAsks.{no_item_added, no_other_kind, definition_added}
use Rattle.wac_graph_asks.proofs.asks.Asked.define.Goals as goal

pub returns-in_default : goal.returns-in_default
returns-in_default c = no_item_added c.args.graph.now c.args.self.now c.args.node c.requires.defined c.in_default.ensures.kind

pub returns-in_default-kind : goal.returns-in_default-kind
returns-in_default-kind c = absurd (no_other_kind c.args.graph.now c.args.node c.in-Some.kind c.requires.defined c.in-Some.ensures.kind c.see_sound.ensures c.in_default-kind.not-Ty)

pub returns : goal.returns
returns c =
    definition_added c.args.graph.now c.args.node c.in-Some.kind c.requires.defined c.in-Some.ensures.kind c.args.self.now
    (record c.args.self.now { types = c.copied_type.new.to; definitions = c.push.new.self }) c.requires.held c.in_ok-copy.ensures.grows c.in-Ty.ty c.in-Ty.is c.in_ok-name.name (c.in_ok-name.ensures ∙ c.requires.name) c.in_ok-copy.copy c.in_ok-copy.ensures.copy
    c.in_ok-push.ensures.items refl refl
