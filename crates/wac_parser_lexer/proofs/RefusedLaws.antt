-- The search for a refused character, step by step.
use Rattle.std.proofs.Common.{◌≡◌, ℕ, ◌+◌, List, [], ◌∷◌, ◌++◌, length, drop, Some, None, ap, sym, ◌∙◌, arith}
use Rattle.std.specs.Char.{len_utf8, encode_utf8}
use Rattle.std.specs.Str.{chars, IsUtf8}
use Rattle.std.proofs.lemmas.Str.{chars-nil, chars_past_char, drop_past_char}
use Rattle.wac_parser_lexer.specs.declared.error.Error.{Error}
use Rattle.wac_parser_lexer.specs.Refused.{refusal, refusal_or, refused_from}

-- the end
pub refused_end : (at : ℕ) (z : List ℕ) → length z ≡ 0 → refused_from at (chars z) ≡ None
refused_end at [] none = ap (refused_from at) chars-nil
refused_end at (b ∷ z) none = absurd (omega arith)

-- the character at a place, and those behind it
module _ (source : List ℕ) (at c : ℕ) (rest : List ℕ) (u : IsUtf8 (drop at source)) (split : drop at source ≡ encode_utf8 c ++ rest) where
  refused_step : refused_from at (chars (drop at source)) ≡ refusal_or at c (refusal c) (refused_from (at + len_utf8 c) (chars rest))
  refused_step = ap (refused_from at) (chars_past_char (drop at source) rest c u split)

  pub refused_here : (error : Error) → refusal c ≡ Some error → refused_from at (chars (drop at source)) ≡ Some (error, record { offset = at; length = len_utf8 c })
  refused_here error e = refused_step ∙ ap (λ o. refusal_or at c o (refused_from (at + len_utf8 c) (chars rest))) e

  pub refused_later : refusal c ≡ None → refused_from at (chars (drop at source)) ≡ refused_from (at + len_utf8 c) (chars (drop (at + len_utf8 c) source))
  refused_later e =
      refused_step ∙ ap (λ o. refusal_or at c o (refused_from (at + len_utf8 c) (chars rest))) e
      ∙ ap (λ (y : List ℕ). refused_from (at + len_utf8 c) (chars y)) (sym (drop_past_char source rest at c split))
