use Rattle.std.proofs.Common.{ℕ, leb, cond, not, refl, arith}
use Rattle.std.proofs.lemmas.Simd.{zip2_splat, zip2_splat_left}
use Rattle.wac_parser_lexer.specs.Plain.{is_plain}
use Rattle.wac_parser_lexer.proofs.LaneLaws.{joined, masked}
use Rattle.wac_parser_lexer.proofs.refused.odd_lanes.Goals as goal

pub returns : goal.returns
returns c =
    let v = c.args.v in
    let long = c.fits-v.0 in
    masked _ (λ b. not (is_plain b)) v _ (omega arith) c.fits-v.1
    (joined _ _ _ v (joined _ _ _ v (joined _ _ _ v (joined _ _ _ v (zip2_splat _ v 16 32 long) (zip2_splat _ v 16 9 long)) (zip2_splat _ v 16 10 long)) (zip2_splat _ v 16 13 long))
    (zip2_splat_left {X = ℕ} (λ a b. cond (leb a b) 255 0) 127 16 v long)) refl
