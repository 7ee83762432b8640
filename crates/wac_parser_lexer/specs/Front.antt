-- The token at the front of a text, byte by byte.
use Rattle.std.specs.Prelude.{◌≡◌, ℕ, nat_lt, nat_eq, if◌then◌else◌, List, [], ◌∷◌, ◌++◌, length, Option, Some, None}
use Rattle.std.specs.List.{starts_with}
use Rattle.wac_parser_lexer.specs.declared.token.Token.{Token}
use Rattle.wac_parser_lexer.specs.declared.token.Token.TheVariants as k
use Rattle.wac_parser_lexer.specs.Scan.{ident_len, package_name_len, package_path_len, string_len, line_comment_len, block_comment_len}
use Rattle.wac_parser_lexer.specs.Spellings.{spellings}
use Rattle.wac_parser_lexer.specs.Tokens.{IsToken, IsNext}

-- the longer of two, the first where they are equally long
abbrev pub longer : Token × ℕ → Token × ℕ → Token × ℕ
longer a b = if nat_lt a.1 b.1 then b else a

-- the longest entry of a table that the text begins with
abbrev pub spelled_from : Token × ℕ → List (List ℕ × Token) → List ℕ → Token × ℕ
spelled_from best [] z = best
spelled_from best (entry ∷ table) z =
    spelled_from (if starts_with nat_eq z entry.0 then longer best (entry.1, length entry.0) else best) table z

unfoldable pub spelled_at : List ℕ → Token × ℕ
spelled_at z = spelled_from (k.Ident, 0) spellings z

-- the longest token of any kind, a keyword or a symbol where another kind is as long; length 0 where there is none
unfoldable pub longest_at : List ℕ → Token × ℕ
longest_at z =
    let a = longer (spelled_at z) (k.Ident, ident_len z) in
    let b = longer a (k.PackageName, package_name_len z) in
    let c = longer b (k.PackagePath, package_path_len z) in
    let d = longer c (k.String, string_len z) in
    let e = longer d (k.Comment, line_comment_len z) in
    longer e (k.BlockComment, block_comment_len z)

unfoldable pub token_at : List ℕ → Option (Token × ℕ)
token_at z = if nat_lt 0 (longest_at z).1 then Some (longest_at z) else None

-- The scan gives the longest token, and none only where no front of the text is one.
abbrev pub ScanIsLongest : Type 0
ScanIsLongest =
    ((z : List ℕ) (kind : Token) (n : ℕ) → token_at z ≡ Some (kind, n)
    → (word : List ℕ) × (rest : List ℕ) × (length word ≡ n) × IsNext z kind word rest)
    × ((z : List ℕ) → token_at z ≡ None → (kind : Token) (word rest : List ℕ) → z ≡ word ++ rest → IsToken kind word → ⊥)

-- The longest token at the front of a text is what the scan gives, of one kind and one length alone.
abbrev pub LongestIsScanned : Type 0
LongestIsScanned =
    (z : List ℕ) (kind : Token) (word rest : List ℕ) → IsNext z kind word rest → token_at z ≡ Some (kind, length word)
