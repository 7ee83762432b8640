use Rattle.std.proofs.Common.{ℕ, leb, cond, not, refl, arith}
use Rattle.std.proofs.lemmas.Simd.{zip2_splat, zip2_splat_left}
use Rattle.wac_parser_lexer.specs.Words.{is_lower_word_byte}
use Rattle.wac_parser_lexer.proofs.LaneLaws.{joined, masked}
use Rattle.wac_parser_lexer.proofs.scan.foreign_lanes.Goals as goal

pub returns : goal.returns
returns c =
    let v = c.args.v in
    let long = c.fits-v.0 in
    masked _ (λ b. not (is_lower_word_byte b)) v _ (omega arith) c.fits-v.1
    (joined _ _ _ v
    (joined _ _ _ v (zip2_splat _ v 16 48 long) (zip2_splat_left {X = ℕ} (λ a b. cond (leb a b) 255 0) 58 16 v long))
    (joined _ _ _ v (zip2_splat _ v 16 97 long) (zip2_splat_left {X = ℕ} (λ a b. cond (leb a b) 255 0) 123 16 v long))) refl
