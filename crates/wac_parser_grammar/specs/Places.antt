-- Places in a source.
use Rattle.wac_parser_lexer.specs.Items.{Input, rest_input}

-- The place is this one, or lies behind items that follow it.
pub data IsBehind (place : Input) : Input → Type 0 where
  here : IsBehind place place
  on : {s : Input} → IsBehind place (rest_input s) → IsBehind place s
