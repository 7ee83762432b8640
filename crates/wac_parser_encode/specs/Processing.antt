-- How a resolution is encoded.
use Rattle.std.specs.Prelude.{◌≡◌, ℕ, List, Option, Some, None, codes, string_bytes}
use Rattle.wac_graph_bytes.specs.declared.entry.Processor.{Processor}
use Rattle.wac_graph_encode.specs.declared.options.EncodeOptions.{EncodeOptions}
use Rattle.wac_graph_encode.specs.Encoding.{TellsProcessor}

-- the processor given, else this project's
abbrev pub HasProcessor : Option Processor → Option Processor → Type 0
HasProcessor (Some p) o = o ≡ Some p
HasProcessor None None = ⊥
HasProcessor None (Some q) = (string_bytes q.name ≡ codes "wac-parser") × (string_bytes q.version ≡ codes "0.11.0")

-- the same options with a processor
pub record IsProcessed (old new : EncodeOptions) : Type 0 where
  pub define : new.define_components ≡ old.define_components
  pub validate : new.validate ≡ old.validate
  pub processor : HasProcessor old.processor new.processor

-- the component tells the processor that is given, or this project's
abbrev pub TellsSomeProcessor : Option Processor → List ℕ → Type 0
TellsSomeProcessor given bytes = (told : Option Processor) × HasProcessor given told × TellsProcessor told bytes
