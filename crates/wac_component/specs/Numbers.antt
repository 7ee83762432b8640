-- Numbers and names.
use Rattle.std.specs.Prelude.{ℕ, zero, suc, ◌+◌, ◌-◌, ◌*◌, ◌^◌, List, nat_lt}
use Rattle.std.specs.Str.{is_utf8}
use Rattle.wac_component.specs.declared.fault.FaultKind.TheVariants as kind
use Rattle.wac_component.specs.Rules.{Rule, ◌>>=◌, pure, refuse, choose, byte, bytes, times}

-- a number of 32 bits
abbrev pub small : ℕ → Rule ℕ
small n = choose (nat_lt n (2 ^ 32)) (pure n) (refuse kind.Number)

-- a digit below the limit, or one with 128 added and the higher digits
abbrev pub some_digits : Rule ℕ → ℕ → Rule ℕ
some_digits higher limit = do
  b ← byte
  choose (nat_lt b limit) (pure b) (choose (nat_lt b 128) (refuse kind.Number) (higher >>= λ high. small (b - 128 + 128 * high)))

-- At most so many digits of seven bits, the lowest first, each but the last with 128 added; the last lies below the limit.
unfoldable pub digits : ℕ → ℕ → Rule ℕ
digits zero limit = refuse kind.Number
digits (suc more) limit = some_digits (digits more limit) limit

-- an unsigned number (LEB128, perhaps with more digits than it needs)
abbrev pub number : Rule ℕ
number = digits 5 128

-- a signed number that is not negative: the highest bit of the last digit is the sign, 0
abbrev pub signed_number : Rule ℕ
signed_number = digits 5 64

-- a text that is UTF-8
abbrev pub text : List ℕ → Rule (List ℕ)
text x = choose (is_utf8 x) (pure x) (refuse kind.Text)

-- a text with its length
unfoldable pub name : Rule (List ℕ)
name = do
  n ← number
  x ← bytes n
  text x

-- a count, and that many values
abbrev pub vec : {X : Type 0} → Rule X → Rule (List X)
vec p = number >>= λ n. times n p
