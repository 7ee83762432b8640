use Rattle.std.proofs.Common.{ℕ, ap, subst}
use Rattle.std.specs.Option.{IfNone}
use Rattle.wac_types_base.specs.Entries.{Name}
use Rattle.wac_graph_core.specs.Edges.{HasAlias}
use Rattle.wac_graph_core.specs.Graph.{Graph}
use Rattle.wac_graph_core.proofs.graph.CompositionGraph.get_alias_source.Goals as goal

pub returns-clause-none : goal.returns-clause-none
returns-clause-none c =
    subst (λ es. IfNone c.source.result ((i : ℕ) (n : Name) → HasAlias es i n c.args.alias → ⊥)) (ap (λ (g : Graph). g.edges) c.self.view_is) c.source.ensures.none
