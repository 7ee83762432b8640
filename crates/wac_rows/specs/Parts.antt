-- The parts of a row.
use Rattle.std.specs.Prelude.{ℕ, List, Option, find, bytes_eq}
use Rattle.std.specs.Option.{option_map}
use Rattle.wac_rows.specs.declared.row.Part.{Part}

-- the text of the first part of a kind
abbrev pub first_text : List ℕ → List Part → Option (List ℕ)
first_text kind parts = option_map (λ p. p.text.now) (find (λ p. bytes_eq p.kind.now kind) parts)
