-- What stands in the graph of a document that is being resolved.
use Rattle.std.specs.Prelude.{◌≡◌, ◌≢◌, ℕ, List, IsSome}
use Rattle.wac_types_base.specs.Entries.{Name}
use Rattle.wac_types_base.specs.Graph.{Among}
use Rattle.wac_graph_core.specs.declared.edge.Edge.{Edge}
use Rattle.wac_graph_core.specs.Graph.{Graph, ContainsNode, instantiated}
use Rattle.wac_parser_declare.specs.declared.scope.Binding.{Binding}
use Rattle.wac_parser_declare.specs.Holding.{NamesStand}
use Rattle.wac_parser_resolve.specs.declared.arguments.Given.{Given}

-- the nodes that are given
pub record AreThere (g : Graph) (given : List Given) : Type 0 where
  pub nodes : (one : Given) → Among one given → ContainsNode g one.node

-- the items of the root's names
pub record IsSound (g : Graph) (names : List (Name × Binding)) : Type 0 where
  pub stand : NamesStand g.types names

-- an instance of a package that nothing leads out of
pub record IsFresh (g : Graph) (k : ℕ) : Type 0 where
  pub made : IsSome (instantiated g k)
  pub quiet : (e : Edge) → Among e g.edges → e.from ≡ k → ⊥

-- the nodes that are given are others
pub record AreApart (given : List Given) (k : ℕ) : Type 0 where
  pub nodes : (one : Given) → Among one given → one.node ≢ k
