-- The next item of a lexer, and the tokens that were tried there.
use Rattle.std.specs.Prelude.{◌≡◌, ℕ, zero, suc, ◌+◌, ◌-◌, ◌^◌, nat_lt, min, Bool, true, false, if◌then◌else◌, List, [], ◌∷◌, length, slice_set, Option, Some, None, Result, Ok, Err}
use denote.Enum.Bare.{sameb}
use Rattle.wac_parser_lexer.specs.contracts.token.Token.{the_type}
use Rattle.wac_parser_lexer.specs.declared.span.SourceSpan.{SourceSpan}
use Rattle.wac_parser_lexer.specs.declared.token.Token.{Token}
use Rattle.wac_parser_lexer.specs.declared.error.Error.{Error}
use Rattle.wac_parser_lexer.specs.Items.{Input, first_item, rest_input, shown_span}
use Rattle.wac_parser_grammar.specs.Faults.{Fault, lexer, expected, expected_either, expected_multiple}

-- ---- the next token

-- `==` on tokens
unfoldable pub same_token : Token → Token → Bool
same_token = sameb the_type

-- the token of an item, if it is one
abbrev pub token_of : Option (Result Token Error × SourceSpan) → Option Token
token_of None = None
token_of (Some (Ok t, span)) = Some t
token_of (Some (Err e, span)) = None

abbrev pub next_token : Input → Option Token
next_token s = token_of (first_item s)

abbrev pub is_token : Token → Option Token → Bool
is_token k None = false
is_token k (Some t) = same_token t k

-- whether this token comes next
unfoldable pub sees : Token → Input → Bool
sees k s = is_token k (next_token s)

abbrev pub is_any : List Token → Option Token → Bool
is_any [] t = false
is_any (k ∷ ks) t = if is_token k t then true else is_any ks t

-- whether one of these tokens comes next
unfoldable pub sees_any : List Token → Input → Bool
sees_any ks s = is_any ks (next_token s)

-- ---- faults at the next item

-- of the tokens tried, so many, one behind the other, and nothing behind the last
abbrev pub remember : ℕ → List Token → List (Option Token)
remember zero ks = []
remember (suc n) [] = None ∷ remember n []
remember (suc n) (k ∷ ks) = Some k ∷ remember n ks

-- The number of the tokens, as far as it can be counted.
abbrev pub count_of : List Token → ℕ
count_of ks = min (length ks) (2 ^ 64 - 1)

-- None of these tokens was found: one and two are named as such, of more the first ten.
abbrev pub none_found : List Token → Option Token → SourceSpan → Fault
none_found (k ∷ []) found span = expected k found span
none_found (k ∷ l ∷ []) found span = expected_either k l found span
none_found ks found span = expected_multiple (remember 10 ks) (count_of ks) found span

-- At an item a faulty one is named itself; at the end the place is that of the item before.
abbrev pub refused_at : Option (Result Token Error × SourceSpan) → SourceSpan → (Option Token → SourceSpan → Fault) → Fault
refused_at None at_end fault = fault None at_end
refused_at (Some (Ok t, span)) at_end fault = fault (Some t) span
refused_at (Some (Err e, span)) at_end fault = lexer e span

-- the fault where none of the tokens comes next
unfoldable pub none_of : List Token → Input → Fault
none_of ks s = refused_at (first_item s) (shown_span s) (none_found ks)

-- the fault where one token alone may stand: at the end the end is passed first
unfoldable pub missed : Token → Input → Fault
missed k s = refused_at (first_item s) (shown_span (rest_input s)) (expected k)

-- ---- a lookahead

pub record Ahead : Type 0 where
  pub next : Option (Result Token Error × SourceSpan)
  pub span : SourceSpan
  pub attempts : List (Option Token)
  pub count : ℕ

-- before any token is tried
abbrev pub fresh : Input → Ahead
fresh s = record { next = first_item s; span = shown_span s; attempts = remember 10 []; count = 0 }

-- one more token was tried, and did not come next
abbrev pub tried : Token → Ahead → Ahead
tried k a = record {
  next = a.next;
  span = a.span;
  attempts = if nat_lt a.count 10 then slice_set a.attempts a.count (Some k) else a.attempts;
  count = min (a.count + 1) (2 ^ 64 - 1);
}

-- all of these were tried
abbrev pub tried_all : List Token → Ahead → Ahead
tried_all [] a = a
tried_all (k ∷ ks) a = tried_all ks (tried k a)

-- these were tried, up to the one that comes next, or all
abbrev pub tried_until : List Token → Option Token → Ahead → Ahead
tried_until [] t a = a
tried_until (k ∷ ks) t a = if is_token k t then a else tried_until ks t (tried k a)

-- whether one of these comes next; those before it were tried, and where none does, all
pub record Tries (ks : List Token) (old : Ahead) (found : Bool) (new : Ahead) : Type 0 where
  pub value : found ≡ is_any ks (token_of old.next)
  pub after : new ≡ tried_until ks (token_of old.next) old

-- the fault that the attempts make, by how many there were
abbrev pub by_attempts : ℕ → List (Option Token) → Option Token → SourceSpan → Fault
by_attempts (suc zero) (Some k ∷ ks) found span = expected k found span
by_attempts (suc (suc zero)) (Some k ∷ Some l ∷ ks) found span = expected_either k l found span
by_attempts n ks found span = expected_multiple ks n found span

unfoldable pub said : Ahead → Fault
said a = refused_at a.next a.span (by_attempts a.count a.attempts)
