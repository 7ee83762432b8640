use Rattle.std.proofs.Common.{true, cond, ◌==◌, ◌∷◌, ◌++◌, [], ap, ◌∙◌}
use Rattle.std.specs.List.{list_any}
use Rattle.wac_graph_core.proofs.Indexing.{indexed_more}
use Rattle.wac_graph_core.proofs.node_set.NodeSet.push.Goals as goal

pub invariant_of-self-2 : goal.invariant_of-self-2
invariant_of-self-2 c = indexed_more c.self.inside.indexes.keys c.insert.new.self.keys c.self.inside.nodes.items c.push_reserved.new.self.items c.args.node c.self.invariant
    (λ j. c.in_ok-insert.ensures.updates.0 j ∙ ap (λ i. cond (i == j) true (list_any (λ x. j == x) c.self.inside.indexes.keys)) c.index.ensures)
    (c.push_reserved.ensures.items ∙ ap (λ l. l ++ c.args.node ∷ []) c.reserve.ensures.items)
