-- What writing does to a writer of JSON; for private clauses.
use Rattle.std.specs.Prelude.{◌≡◌, ℕ, List, [], Option}
use Rattle.serde_json.specs.Data.{Data}
use Rattle.serde_json.specs.Written.{compact_text}
use Rattle.wac_streams.specs.Calls.{Calls}
use Rattle.wac_parser_print.specs.Texts.{word}
use Rattle.wac_parser_print.specs.Printers.{Printer, Adds}
use Rattle.wac_parser_json.specs.declared.writer.JsonWriter.{JsonWriter}

-- a writer as a printer without a layout
abbrev pub printer_of : {W : Type 0} → (W → Option (List ℕ)) → (W → Option Calls) → JsonWriter W → Printer
printer_of contents calls w = record {
  layout = record { source = []; space = [] };
  failed = w.failed;
  written = contents w.sink.now;
  calls = calls w.sink.now;
}

-- These bytes are added, and the sink is the same.
pub record WritesBytes {W : Type 0} (contents : W → Option (List ℕ)) (calls : W → Option Calls)
    (old : JsonWriter W) (bytes : List ℕ) (new : JsonWriter W) : Type 0 where
  pub same_sink : new.sink.ghost_name ≡ old.sink.ghost_name
  pub adds : Adds (printer_of contents calls old) (word bytes) (printer_of contents calls new)

-- the text of a value is written
abbrev pub Writes : {W : Type 0} → (W → Option (List ℕ)) → (W → Option Calls) → JsonWriter W → Data → JsonWriter W → Type 0
Writes contents calls old value new = WritesBytes contents calls old (compact_text value) new
