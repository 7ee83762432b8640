-- The characters that may not stand in a source.
use Rattle.std.specs.Prelude.{ℕ, ◌+◌, Bool, ◌&&◌, ◌||◌, ◌==◌, nat_le, if◌then◌else◌, List, [], ◌∷◌, Option, Some, None}
use Rattle.std.specs.Char.{is_control, len_utf8}
use Rattle.std.specs.Str.{chars}
use Rattle.wac_parser_lexer.specs.declared.span.SourceSpan.{SourceSpan}
use Rattle.wac_parser_lexer.specs.declared.error.Error.{Error}
use Rattle.wac_parser_lexer.specs.declared.error.Error.TheVariants as fault

-- characters that change the direction of the text: U+202A to U+202E, U+2066 to U+2069
abbrev pub is_bidirectional : ℕ → Bool
is_bidirectional c = (nat_le 0x202A c && nat_le c 0x202E) || (nat_le 0x2066 c && nat_le c 0x2069)

-- characters that Unicode deprecates or discourages
abbrev pub is_discouraged : ℕ → Bool
is_discouraged c =
    c == 0x149 || c == 0x673 || c == 0xF77 || c == 0xF79 || c == 0x17A3 || c == 0x17A4 || c == 0x17B4 || c == 0x17B5

-- tab, line feed, carriage return
abbrev pub is_plain_control : ℕ → Bool
is_plain_control c = c == 9 || c == 10 || c == 13

-- the fault that a character is
unfoldable pub refusal : ℕ → Option Error
refusal c =
    if is_bidirectional c then Some (fault.DisallowedBidirectionalOverride c)
    else (if is_discouraged c then Some (fault.DiscouragedUnicodeCodepoint c)
    else (if is_plain_control c then None
    else (if is_control c then Some (fault.DisallowedControlCode c) else None)))

abbrev pub refusal_or : ℕ → ℕ → Option Error → Option (Error × SourceSpan) → Option (Error × SourceSpan)
refusal_or at c (Some error) others = Some (error, record { offset = at; length = len_utf8 c })
refusal_or at c None others = others

-- the first refused character of those from a place on, with its span
abbrev pub refused_from : ℕ → List ℕ → Option (Error × SourceSpan)
refused_from at [] = None
refused_from at (c ∷ cs) = refusal_or at c (refusal c) (refused_from (at + len_utf8 c) cs)

-- the first refused character of a source, with its span
abbrev pub first_refused : List ℕ → Option (Error × SourceSpan)
first_refused source = refused_from 0 (chars source)
