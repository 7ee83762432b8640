use Rattle.std.proofs.Common.{◌∙◌}
use Rattle.std.specs.Prelude.{string_bytes}
use Rattle.wac_types_base.proofs.Again.{new_in_copy, one_more_copied}
use Rattle.wac_graph_core.proofs.named.NamedNodes.copy.Goals as goal

pub push_reserved-requires-clause-new : goal.push_reserved-requires-clause-new
push_reserved-requires-clause-new c =
    new_in_copy c.args.self.now.items c.loop-at.at c.entry-node.result.0.now c.entry-node.result.1 c.entry-node.ensures (string_bytes c.in_ok-name.name) c.reserve.new.self.items c.len-at-end.ensures.distinct (c.reserve.ensures.items ∙ c.loop-at.invariant) c.in_ok-name.ensures.ok

pub loop-at-preserved : goal.loop-at-preserved
loop-at-preserved c =
    one_more_copied c.args.self.now.items c.loop-at.at c.entry-node.result.0.now c.entry-node.result.1 c.entry-node.ensures (string_bytes c.in_ok-name.name) c.reserve.new.self.items c.push_reserved.new.self.items (c.reserve.ensures.items ∙ c.loop-at.invariant) c.in_ok-name.ensures.ok c.push_reserved.ensures
