-- The wiring of a graph is the one that its composition has, with nodes for instances.
use Rattle.std.specs.Prelude.{◌≡◌, ℕ, [], map, Some, None, option_map}
use Rattle.wac_types_base.specs.Collection.{IsAcyclic}
use Rattle.wac_types_base.specs.Entries.{Name, value_at}
use Rattle.wac_types_base.specs.Graph.{Among}
use Rattle.wac_types_base.specs.Tree.{tree}
use Rattle.wac_types_names.specs.Packaged.{Packaged}
use Rattle.wac_types_names.specs.Keys.{package_key}
use Rattle.wac_graph_bytes.specs.Wirings.{OfBytes, Instantiation, Wiring}
use Rattle.wac_graph_core.specs.Graph.{Graph, IsGraph, instantiated}
use Rattle.wac_composition.specs.Composition.{Made}
use Rattle.wac_composition.specs.Asks.{asks_of}
use Rattle.wac_composition.specs.OuterImports.{outer_imports}
use Rattle.wac_composition.specs.Wired.{argument_source, export_source}
use Rattle.wac_graph_asks.specs.Graphs.{composition_of}
use Rattle.wac_graph_asks.specs.Wirings.{IsGraphWiring}

-- the node is this instance of the composition: of a package of its key, and each import is given what the composition says
pub record IsComposedAs (g : Graph) (W : Wiring ℕ) (k : ℕ) (p : Packaged) : Type 0 where
  pub made : Made ℕ ℕ
  pub there : Among made (composition_of g).made
  pub number : made.number ≡ k
  pub key : made.key ≡ package_key p
  pub instance : Instantiation ℕ
  pub wired : W.at k ≡ Some instance
  pub tag : instance.tag ≡ OfBytes p.bytes
  pub given : (n : Name) → instance.args n ≡ argument_source (λ key. OfBytes p.bytes) (composition_of g) made n

pub record IsComposed (g : Graph) (W : Wiring ℕ) : Type 0 where
  pub outers : (n : Name) → W.outers n ≡ option_map tree (value_at (outer_imports (asks_of (composition_of g))) n)
  pub each : (k : ℕ) (p : Packaged) → instantiated g k ≡ Some p → IsComposedAs g W k p
  pub only : (k : ℕ) → instantiated g k ≡ None → W.at k ≡ None
  pub exports : (n : Name)
      → W.exports n
      ≡ export_source (λ key. OfBytes []) (composition_of g) (value_at (map (λ e. (e.0, e.1)) (composition_of g).exports) n)

-- Each wiring of a graph whose types are of finite depth is so.
abbrev pub GraphsAreComposed : Type 0
GraphsAreComposed = (g : Graph) (W : Wiring ℕ) → IsGraph g → IsAcyclic g.types → IsGraphWiring g W → IsComposed g W
