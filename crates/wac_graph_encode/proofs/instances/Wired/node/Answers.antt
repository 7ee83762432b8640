use Rattle.std.proofs.Common.{◌∙◌}
use Rattle.wac_graph_encode.proofs.WritingLaws.{found_if, none_if}
use Rattle.wac_graph_encode.proofs.instances.Wired.node.Goals as goal

pub returns-clause-found : goal.returns-clause-found
returns-clause-found c = found_if c.args.self.now.root.nodes.entries c.args.node c.copied.result (c.copied.ensures ∙ c.get.ensures.value)

pub returns-clause-none : goal.returns-clause-none
returns-clause-none c = none_if c.args.self.now.root.nodes.entries c.args.node c.copied.result (c.copied.ensures ∙ c.get.ensures.value)
