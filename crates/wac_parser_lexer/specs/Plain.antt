-- The bytes that are characters by themselves and are never refused.
use Rattle.std.specs.Prelude.{ℕ, Bool, ◌&&◌, ◌||◌, nat_le}
use Rattle.wac_parser_lexer.specs.Refused.{is_plain_control}

-- printed ASCII, tab, line feed, carriage return
abbrev pub is_plain : ℕ → Bool
is_plain b = (nat_le 32 b && nat_le b 126) || is_plain_control b
