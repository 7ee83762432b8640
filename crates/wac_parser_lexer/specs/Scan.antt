-- How many bytes at the front of a text belong together; 0 where none do.
use Rattle.std.specs.Prelude.{ℕ, zero, suc, ◌+◌, Bool, false, ◌&&◌, ◌||◌, ◌==◌, nat_lt, if◌then◌else◌, List, [], ◌∷◌, drop, length}
use Rattle.std.specs.List.{prefix_len}
use Rattle.wac_parser_lexer.specs.Words.{is_lower, is_upper, is_letter, is_digit, is_lower_word_byte, is_upper_word_byte, is_version_byte, is_unquoted, is_in_line, opens_comment, closes_comment}

unfoldable pub word_len : List ℕ → ℕ
word_len [] = 0
word_len (c ∷ cs) =
    if is_lower c then 1 + prefix_len is_lower_word_byte cs
    else (if is_upper c then 1 + prefix_len is_upper_word_byte cs else 0)

-- what is left of a part, and then each joint with a part behind it
unfoldable pub parts_len : (List ℕ → ℕ) → ℕ → ℕ → List ℕ → ℕ
parts_len part joint left [] = 0
parts_len part joint (suc left) (b ∷ z) = suc (parts_len part joint left z)
parts_len part joint zero (b ∷ z) = if b == joint && nat_lt 0 (part z) then suc (parts_len part joint (part z) z) else 0

-- a joint at the front, with a part behind it
unfoldable pub next_len : (List ℕ → ℕ) → ℕ → List ℕ → ℕ
next_len part joint [] = 0
next_len part joint (b ∷ z) = if b == joint && nat_lt 0 (part z) then suc (part z) else 0

-- parts joined by a byte
abbrev pub joined_len : (List ℕ → ℕ) → ℕ → List ℕ → ℕ
joined_len part joint z = if nat_lt 0 (part z) then parts_len part joint (part z) z else 0

-- a part, and a joint with another part behind it where they are there
abbrev pub suffixed_len : (List ℕ → ℕ) → ℕ → (List ℕ → ℕ) → List ℕ → ℕ
suffixed_len part joint other z = if nat_lt 0 (part z) then part z + next_len other joint (drop (part z) z) else 0

-- a part, and a joint with another part behind it, which must be there
abbrev pub followed_len : (List ℕ → ℕ) → ℕ → (List ℕ → ℕ) → List ℕ → ℕ
followed_len part joint other z =
    if nat_lt 0 (part z)
    && nat_lt 0 (next_len other joint (drop (part z) z)) then part z + next_len other joint (drop (part z) z) else 0

unfoldable pub label_len : List ℕ → ℕ
label_len z = joined_len word_len 45 z

unfoldable pub ident_len : List ℕ → ℕ
ident_len [] = 0
ident_len (b ∷ z) = if b == 37 then (if nat_lt 0 (label_len z) then suc (label_len z) else 0) else label_len (b ∷ z)

unfoldable pub idents_len : ℕ → List ℕ → ℕ
idents_len joint z = joined_len ident_len joint z

-- a colon, and what begins an identifier behind it
abbrev pub names_go_on : List ℕ → Bool
names_go_on [] = false
names_go_on (b ∷ []) = false
names_go_on (b ∷ c ∷ z) = b == 58 && (is_letter c || c == 37)

unfoldable pub names_len : List ℕ → ℕ
names_len z = followed_len ident_len 58 (idents_len 58) z

unfoldable pub path_len : List ℕ → ℕ
path_len z = followed_len names_len 47 (idents_len 47) z

unfoldable pub version_parts_len : List ℕ → ℕ
version_parts_len z = joined_len (prefix_len is_version_byte) 46 z

unfoldable pub version_len : List ℕ → ℕ
version_len z = suffixed_len (prefix_len is_digit) 46 version_parts_len z

unfoldable pub package_name_len : List ℕ → ℕ
package_name_len z = suffixed_len names_len 64 version_len z

unfoldable pub package_path_len : List ℕ → ℕ
package_path_len z = suffixed_len path_len 64 version_len z

unfoldable pub string_len : List ℕ → ℕ
string_len [] = 0
string_len (b ∷ z) = if b == 34 && nat_lt (prefix_len is_unquoted z) (length z) then prefix_len is_unquoted z + 2 else 0

unfoldable pub line_comment_len : List ℕ → ℕ
line_comment_len [] = 0
line_comment_len (b ∷ []) = 0
line_comment_len (b ∷ c ∷ z) = if b == 47 && c == 47 then 2 + prefix_len is_in_line z else 0

-- so many bytes, and then those behind them, unless there are none
abbrev pub past : ℕ → ℕ → ℕ
past n m = if nat_lt 0 m then n + m else 0

-- the bytes up to the end of a comment, in which so many more are open
unfoldable pub inside_len : ℕ → List ℕ → ℕ
inside_len more [] = 0
inside_len more (b ∷ []) = 0
inside_len zero (b ∷ c ∷ z) =
    if opens_comment b c then past 2 (inside_len 1 z)
    else (if closes_comment b c then 2 else past 1 (inside_len zero (c ∷ z)))
inside_len (suc more) (b ∷ c ∷ z) =
    if opens_comment b c then past 2 (inside_len (suc (suc more)) z)
    else (if closes_comment b c then past 2 (inside_len more z) else past 1 (inside_len (suc more) (c ∷ z)))

unfoldable pub block_comment_len : List ℕ → ℕ
block_comment_len [] = 0
block_comment_len (b ∷ []) = 0
block_comment_len (b ∷ c ∷ z) = if opens_comment b c then past 2 (inside_len 0 z) else 0
