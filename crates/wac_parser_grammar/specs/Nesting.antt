-- How deep what is refused as nested too deep stands.
use Rattle.std.specs.Prelude.{◌≡◌, ℕ, suc, ◌+◌, true, if◌then◌else◌, List, [], ◌∷◌, Some, Ok, Err}
use Rattle.wac_parser_lexer.specs.declared.span.SourceSpan.{SourceSpan}
use Rattle.wac_parser_lexer.specs.declared.token.Token.{Token}
use Rattle.wac_parser_lexer.specs.declared.token.Token.TheVariants as k
use Rattle.wac_parser_lexer.specs.Items.{Item, Input, first_item}
use Rattle.wac_parser_grammar.specs.Places.{IsBehind}
use Rattle.wac_parser_grammar.specs.Faults.{nested_too_deep}
use Rattle.wac_parser_grammar.specs.Ahead.{token_of, is_any}
use Rattle.wac_parser_grammar.specs.ValueTypes.{type_first, ty}
use Rattle.wac_parser_grammar.specs.Expressions.{expr_first, expr}

-- what can be nested: the tokens that open a level, those that close it, and those that begin what stands there
pub record Nest : Type 0 where
  pub opening : List Token
  pub closing : List Token
  pub first : List Token

-- types, in angles
abbrev pub types : Nest
types = record { opening = k.OpenAngle ∷ []; closing = k.CloseAngle ∷ []; first = type_first }

-- expressions, in parentheses or as arguments in braces
abbrev pub expressions : Nest
expressions = record { opening = k.OpenParen ∷ k.OpenBrace ∷ []; closing = k.CloseParen ∷ k.CloseBrace ∷ []; first = expr_first }

-- how many of the items are one of the tokens
abbrev pub among : List Token → List Item → ℕ
among ks [] = 0
among ks (i ∷ is) = if is_any ks (token_of (Some (i.token, i.span))) then suc (among ks is) else among ks is

-- From the one place to the other so many more levels are opened than closed.
abbrev pub AreOpen : Nest → ℕ → Input → Input → Type 0
AreOpen nest n from to =
    n + (among nest.opening to.items + among nest.closing from.items)
    ≡ among nest.opening from.items + among nest.closing to.items

-- At the span, behind the place, a token begins what stands so many levels deeper.
pub record BeginsDeeper (nest : Nest) (n : ℕ) (s : Input) (span : SourceSpan) : Type 0 where
  pub place : Input
  pub behind : IsBehind place s
  pub token : Token
  pub there : first_item place ≡ Some (Ok token, span)
  pub begins : is_any nest.first (Some token) ≡ true
  pub levels : AreOpen nest n s place

-- what has no room for so many levels is refused just that many levels deeper
pub record DeepFaultsAreDeep : Type 0 where
  pub types : (n : ℕ) (s : Input) (span : SourceSpan) → (ty n).read s ≡ Err (nested_too_deep span) → BeginsDeeper types n s span
  pub expressions : (n : ℕ) (s : Input) (span : SourceSpan) → (expr n).read s ≡ Err (nested_too_deep span)
      → BeginsDeeper expressions n s span
