-- How version tracks are told from other texts.
use Rattle.std.specs.Prelude.{ℕ, ◌^◌, ◌&&◌, ◌||◌, List, [], ◌∷◌, take, drop, Bool, nat_lt, if◌then◌else◌, Option, Some, None}
use Rattle.std.specs.Str.{bytes_eq}
use Rattle.std.specs.Str.Parse.{digits_value}
use Rattle.std.specs.Fmt.{decimal}

-- the text is how its number is written, which is at least 1 and which 64 bits hold
abbrev pub number_test : List ℕ → Bool
number_test t =
    bytes_eq t (decimal (digits_value 10 t)) && (nat_lt 0 (digits_value 10 t) && nat_lt (digits_value 10 t) (2 ^ 64))

-- such a number, alone or behind `0.`
abbrev pub track_test : List ℕ → Bool
track_test t = number_test t || (bytes_eq (take 2 t) (48 ∷ 46 ∷ []) && number_test (drop 2 t))

-- the text, where it is a track
abbrev pub track_in : Option (List ℕ) → Option (List ℕ)
track_in None = None
track_in (Some text) = if track_test text then Some text else None
