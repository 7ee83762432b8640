use Rattle.std.proofs.Common.{List, ℕ, subst}
use Rattle.wac_graph_encode.specs.Writing.{AddsNeeded}
use Rattle.wac_graph_encode.proofs.instances.Wired.sources_of.Goals as goal

pub returns-clause-only : goal.returns-clause-only
returns-clause-only c = subst (λ (start : List ℕ). AddsNeeded c.args.self.now.graph.now c.args.node start c.push_sources.new.sources.items) c.new-sources.ensures.items c.in_ok-push_sources.ensures.only

pub returns-clause-all : goal.returns-clause-all
returns-clause-all c = c.in_ok-push_sources.ensures.all
