-- What the wiring of a graph then is.
use Rattle.std.specs.Prelude.{◌≡◌, ℕ, Some}
use Rattle.wac_types_base.specs.declared.item.ItemKind.{ItemKind}
use Rattle.wac_types_base.specs.Collection.{IsAcyclic}
use Rattle.wac_types_base.specs.Stated.{stated_of}
use Rattle.wac_types_names.specs.Packaged.{Packaged}
use Rattle.wac_graph_bytes.specs.Wirings.{Wiring}
use Rattle.wac_nesting.specs.Given.{World, IsBound, IsTrueWorld}
use Rattle.wac_composition.specs.OuterLaws.{AreMet}
use Rattle.wac_composition.specs.Sound.{maps_of}
use Rattle.wac_composition.specs.Worlds.{composed_world}
use Rattle.wac_graph_core.specs.Graph.{Graph, IsGraph, instantiated}
use Rattle.wac_graph_asks.specs.Graphs.{composition_of}
use Rattle.wac_graph_asks.specs.Wirings.{IsGraphWiring}

-- each import of each instance is bound once, to what fits it, and the world is true
pub record IsBoundUnder (IsOf : ℕ → World → Type 0) (world : World) (W : Wiring ℕ) : Type 0 where
  pub bound : IsBound IsOf W
  pub true_world : IsTrueWorld IsOf world W

-- the node k is an instance of a package of this world
pub record IsOfNode (g : Graph) (k : ℕ) (world : World) : Type 0 where
  pub packaged : Packaged
  pub is : instantiated g k ≡ Some packaged
  pub says : world ≡ maps_of (stated_of g.types (ItemKind.Component packaged.ty))

-- where what a graph asks is met, its wiring is bound, and the world of its composition is true of it
abbrev pub GraphsAreWired : Type 0
GraphsAreWired = (g : Graph) (W : Wiring ℕ) → IsGraph g → IsAcyclic g.types → AreMet (composition_of g) → IsGraphWiring g W
    → IsBoundUnder (IsOfNode g) (maps_of (composed_world (composition_of g))) W
