-- The wiring that a composition is, where each package has its tag.
use Rattle.std.specs.Prelude.{ℕ, Option, Some, None, is_some, map, option_map, slice_get, if◌then◌else◌}
use Rattle.wac_types_base.specs.Entries.{Name, value_at}
use Rattle.wac_types_base.specs.Stated.{imports_of}
use Rattle.wac_types_base.specs.Tree.{tree}
use Rattle.wac_types_names.specs.Keys.{Key}
use Rattle.wac_graph_bytes.specs.Wirings.{Tag, Source, Absent, Outer, Instantiation, Wiring}
use Rattle.wac_composition.specs.Composition.{Origin, Made, Composition}
use Rattle.wac_composition.specs.Asks.{asks_of}
use Rattle.wac_composition.specs.Classes.{spelling}
use Rattle.wac_composition.specs.OuterImports.{outer_imports}
use Rattle.wac_composition.specs.Worlds.{source_of}

module _ {A : Type 0} (tag_of : Key → Tag) (c : Composition A ℕ) where
  -- what an import of an instance is given: the argument's source, or the outer import of its class
  abbrev pub source_for : Option (Origin ℕ) → Name → Source ℕ
  source_for None n = Outer (spelling (asks_of c) n)
  source_for (Some o) n = source_of (asks_of c) o

  -- nothing where its world has no such import
  abbrev pub argument_source : Made A ℕ → Name → Source ℕ
  argument_source m n = if is_some (value_at (imports_of m.world) n) then source_for (value_at m.arguments n) n else Absent

  abbrev pub instantiation : Made A ℕ → Instantiation ℕ
  instantiation m = record { tag = tag_of m.key; args = argument_source m }

  abbrev pub export_source : Option (Origin ℕ) → Source ℕ
  export_source None = Absent
  export_source (Some o) = source_of (asks_of c) o

  -- instances are numbered by their places
  abbrev pub composed_wiring : Wiring ℕ
  composed_wiring = record {
    outers = λ n. option_map tree (value_at (outer_imports (asks_of c)) n);
    at = λ k. option_map instantiation (slice_get c.made k);
    exports = λ n. export_source (value_at (map (λ e. (e.0, e.1)) c.exports) n);
  }
