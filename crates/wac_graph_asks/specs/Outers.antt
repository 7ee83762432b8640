-- The outer imports of a graph, as the imports of a world.
use Rattle.std.specs.Prelude.{◌≡◌, ℕ, List, [], Some, IsSome, slice_get}
use Rattle.wac_types_base.specs.declared.ids.WorldId.{WorldId}
use Rattle.wac_types_base.specs.declared.item.ItemKind.{ItemKind}
use Rattle.wac_types_base.specs.Record.{Collection}
use Rattle.wac_types_base.specs.Entries.{Name, AreDistinct, names_of, value_at}
use Rattle.wac_types_base.specs.Graph.{Among}
use Rattle.wac_types_base.specs.Collection.{Stands}
use Rattle.wac_types_written.specs.Forms.{stated_items}
use Rattle.wac_graph_core.specs.Graph.{Graph}
use Rattle.wac_types_parts.specs.Parts.{world_uses_of, imports_of, world_exports_of}
use Rattle.wac_composition.specs.Asks.{Ask, asks_of}
use Rattle.wac_composition.specs.Classes.{spelling}
use Rattle.wac_composition.specs.OuterImports.{outer_imports}
use Rattle.wac_composition.specs.OuterLaws.{IsMet}
use Rattle.wac_graph_asks.specs.declared.asks.Asked.{Asked}
use Rattle.wac_graph_asks.specs.declared.outers.Outers.{Outers}
use Rattle.wac_graph_asks.specs.Graphs.{composition_of}
use Rattle.wac_graph_asks.specs.Asked.{IsAsked}

module _ (asks : List (Ask ℕ)) (c : Collection) where
  -- at that place the world has the import under the spelling of the name
  abbrev pub IsSpelledAt : WorldId → Name → ℕ → Type 0
  IsSpelledAt world n at = (k : ItemKind) × (slice_get (imports_of c world) at ≡ Some (spelling asks n, k))

  -- The world's imports are the outer imports of these asks, in order. Each ask is met, and under its name stands the place of its import.
  pub record AreOuters (world : WorldId) (places : List (Name × ℕ)) : Type 0 where
    pub stands : Stands c (ItemKind.Component world)
    pub imports : stated_items c (imports_of c world) ≡ outer_imports asks
    pub distinct : AreDistinct (names_of (imports_of c world))
    pub met : (a : Ask ℕ) → Among a asks → IsMet asks a
    pub placed : (n : Name) (at : ℕ) → value_at places n ≡ Some at → IsSpelledAt world n at
    pub named : (a : Ask ℕ) → Among a asks → IsSome (value_at places a.name)

-- the outer imports of the graph's composition
abbrev pub IsOuters : Graph → Collection → WorldId → List (Name × ℕ) → Type 0
IsOuters g c world places = AreOuters (asks_of (composition_of g)) c world places

-- they are those of any graph that asks so
abbrev pub AnswersOuters : (old new : Asked) → Outers → Type 0
AnswersOuters old new o = (g : Graph) → IsAsked g old → IsOuters g new.types o.world o.places

-- the world uses nothing and exports nothing
pub record HasImportsAlone (c : Collection) (world : WorldId) : Type 0 where
  pub uses : world_uses_of c world ≡ []
  pub exports : world_exports_of c world ≡ []
