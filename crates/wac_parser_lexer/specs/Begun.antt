-- The keywords and symbols by their first byte.
use Rattle.std.specs.Prelude.{ℕ, ◌==◌, if◌then◌else◌, List, [], ◌∷◌, slice_index}
use Rattle.std.specs.Str.{bytes_eq}
use Rattle.wac_parser_lexer.specs.declared.token.Token.{Token}
use Rattle.wac_parser_lexer.specs.declared.token.Token.TheVariants as k
use Rattle.wac_parser_lexer.specs.Spellings.{spellings}

-- the entries of a table whose text begins with a byte
abbrev pub begun_by : ℕ → List (List ℕ × Token) → List (List ℕ × Token)
begun_by b [] = []
begun_by b (entry ∷ table) = if slice_index entry.0 0 == b then entry ∷ begun_by b table else begun_by b table

-- every keyword and symbol that begins with a byte
unfoldable pub spellings_by : ℕ → List (List ℕ × Token)
spellings_by b = begun_by b spellings

-- the token that a table has for a whole text, or an identifier
abbrev pub keyword_in : List (List ℕ × Token) → List ℕ → Token
keyword_in [] w = k.Ident
keyword_in (entry ∷ table) w = if bytes_eq entry.0 w then entry.1 else keyword_in table w
