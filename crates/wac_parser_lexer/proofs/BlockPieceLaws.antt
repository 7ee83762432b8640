-- The piece at a `/*`: a comment, or the fault of one that has no end.
use Rattle.std.proofs.Common.{◌≡◌, ℕ, zero, suc, ◌+◌, ◌<◌, Bool, true, false, cond, eqb, ltb, List, [], ◌∷◌, length, get_or, Option, Some, None, Result, Err, refl, ap, sym, subst, ◌∙◌, arith}
use Rattle.std.proofs.lemmas.Bool.{eqb-true, and_parts}
use Rattle.std.proofs.lemmas.Bool.Decides.{nat_tests}
use Rattle.wac_parser_lexer.specs.declared.token.Token.{Token}
use Rattle.wac_parser_lexer.specs.declared.token.Token.TheVariants as k
use Rattle.wac_parser_lexer.specs.declared.error.Error.{Error}
use Rattle.wac_parser_lexer.specs.declared.error.Error.TheVariants as fault
use Rattle.wac_parser_lexer.specs.Words.{opens_comment}
use Rattle.wac_parser_lexer.specs.Scan.{line_comment_len, block_comment_len, inside_len, past}
use Rattle.wac_parser_lexer.specs.Front.{longer, spelled_at, longest_at, token_at}
use Rattle.wac_parser_lexer.specs.Spellings.{spellings}
use Rattle.wac_parser_lexer.specs.Pieces.{front_piece, token_or_fault}
use Rattle.wac_parser_lexer.proofs.FirstLaws.{comment_alone}

-- so many bytes that are passed over
abbrev pub skip : ℕ → Option (Result Token Error) × ℕ
skip n = (None, n)

no_zero : (n : ℕ) → 0 < n → eqb n 0 ≡ false
no_zero n some = grind (arith, nat_tests)

long : (n : ℕ) → 1 < n → ltb 1 n ≡ true
long n some = grind (arith, nat_tests)

pub positive : (n : ℕ) → 0 < n → ltb 0 n ≡ true
positive n some = grind (arith, nat_tests)

past_some : (m : ℕ) → 0 < m → past 2 m ≡ 2 + m
past_some m some = ap (λ (b : Bool). cond b (2 + m) 0) (positive m some)

past_two : (m : ℕ) → 0 < past 2 m → 1 < past 2 m
past_two zero some = absurd (omega arith)
past_two (suc m) some = let e : past 2 (suc m) ≡ 2 + suc m = past_some (suc m) (omega arith) in omega (arith, e)

slash : (y : List ℕ) → spelled_at (47 ∷ 42 ∷ y) ≡ (k.Slash, 1)
unfolding spelled_at spellings
slash y = refl

no_line : (y : List ℕ) → line_comment_len (47 ∷ 42 ∷ y) ≡ 0
unfolding line_comment_len
no_line y = refl

two_bytes : (y : List ℕ) → 0 < block_comment_len (47 ∷ 42 ∷ y) → 1 < block_comment_len (47 ∷ 42 ∷ y)
unfolding block_comment_len
two_bytes y some = past_two (inside_len 0 y) some

-- the longest token is the comment
longest : (y : List ℕ) (n : ℕ) → block_comment_len (47 ∷ 42 ∷ y) ≡ n → 1 < n → longest_at (47 ∷ 42 ∷ y) ≡ (k.BlockComment, n)
longest y n e some =
    comment_alone (47 ∷ 42 ∷ y) (omega arith) refl
    ∙ ap (λ (a : Token × ℕ). longer (longer a (k.Comment, line_comment_len (47 ∷ 42 ∷ y))) (k.BlockComment, block_comment_len (47 ∷ 42 ∷ y))) (slash y)
    ∙ ap (λ (m : ℕ). longer (longer (k.Slash, 1) (k.Comment, m)) (k.BlockComment, block_comment_len (47 ∷ 42 ∷ y))) (no_line y)
    ∙ ap (λ (m : ℕ). longer (k.Slash, 1) (k.BlockComment, m)) e
    ∙ ap (λ (b : Bool). cond b (k.BlockComment, n) (k.Slash, 1)) (long n some)

token : (y : List ℕ) (n : ℕ) → longest_at (47 ∷ 42 ∷ y) ≡ (k.BlockComment, n) → 0 < n → token_at (47 ∷ 42 ∷ y) ≡ Some (k.BlockComment, n)
unfolding token_at
token y n e some = rw e (rw (positive n some) refl)

front : (y : List ℕ) → 0 < block_comment_len (47 ∷ 42 ∷ y) → front_piece (47 ∷ 42 ∷ y) ≡ skip (block_comment_len (47 ∷ 42 ∷ y))
unfolding front_piece
front y some =
    let z = 47 ∷ 42 ∷ y in
    let n = block_comment_len z in
    let found : token_at z ≡ Some (k.BlockComment, n) = token y n (longest y n refl (two_bytes y some)) some in
    ap (λ (b : Bool). cond b (Some (Err fault.UnterminatedComment), length z) (token_or_fault z (token_at z))) (no_zero n some)
    ∙ ap (token_or_fault z) found

unended : (y : List ℕ) → block_comment_len (47 ∷ 42 ∷ y) ≡ 0 → front_piece (47 ∷ 42 ∷ y) ≡ (Some (Err fault.UnterminatedComment), length (47 ∷ 42 ∷ y))
unfolding front_piece
unended y none =
    let z = 47 ∷ 42 ∷ y in
    ap (λ (n : ℕ). cond (eqb n 0) (Some (Err fault.UnterminatedComment), length z) (token_or_fault z (token_at z))) none

-- a fact of each text that begins with `/*`
module _ (P : List ℕ → Type 0) (here : (y : List ℕ) → P (47 ∷ 42 ∷ y)) where
  at_block : (z : List ℕ) → opens_comment (get_or z 0 0) (get_or z 1 0) ≡ true → P z
  at_block [] e = cc
  at_block (b ∷ []) e = let parts = and_parts (eqb b 47) (eqb 0 42) e in cc
  at_block (b ∷ c ∷ y) e =
      let parts = and_parts (eqb b 47) (eqb c 42) e in
      subst (λ (x : ℕ). P (x ∷ c ∷ y)) (sym (eqb-true b 47 parts.0)) (subst (λ (x : ℕ). P (47 ∷ x ∷ y)) (sym (eqb-true c 42 parts.1)) (here y))

pub block_front : (z : List ℕ) → opens_comment (get_or z 0 0) (get_or z 1 0) ≡ true → 0 < block_comment_len z → front_piece z ≡ skip (block_comment_len z)
block_front z e some = at_block (λ (x : List ℕ). 0 < block_comment_len x → front_piece x ≡ skip (block_comment_len x)) front z e some

pub block_fault : (z : List ℕ) → opens_comment (get_or z 0 0) (get_or z 1 0) ≡ true → block_comment_len z ≡ 0 → front_piece z ≡ (Some (Err fault.UnterminatedComment), length z)
block_fault z e none = at_block (λ (x : List ℕ). block_comment_len x ≡ 0 → front_piece x ≡ (Some (Err fault.UnterminatedComment), length x)) unended z e none
