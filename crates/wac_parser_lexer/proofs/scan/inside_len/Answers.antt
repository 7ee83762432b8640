use Rattle.std.proofs.Common.{◌≢◌, sym, ◌∙◌, arith}
use Rattle.wac_parser_lexer.proofs.CommentLaws.{opens, closes, goes, found, lost}
use Rattle.wac_parser_lexer.proofs.scan.inside_len.Goals as goal

pub comment-preserved-then-opens_comment : goal.comment-preserved-then-opens_comment
comment-preserved-then-opens_comment c = record {
  sum = opens c.args.z.now c.comment.end c.comment.more _ c.comment.invariant.sum c.comment-test.true (sym c.opens_comment.ensures ∙ c.if-opens_comment.true);
  fits = omega arith;
  few = omega arith;
}

pub comment-preserved-then-not-closes_comment : goal.comment-preserved-then-not-closes_comment
comment-preserved-then-not-closes_comment c = record {
  sum = goes c.args.z.now c.comment.end c.comment.more _ c.comment.invariant.sum c.comment-test.true (sym c.opens_comment.ensures ∙ c.if-opens_comment.false) (sym c.closes_comment.ensures ∙ c.if-not-closes_comment.true);
  fits = omega arith;
  few = omega arith;
}

pub comment-preserved : goal.comment-preserved
comment-preserved c =
    let some : c.comment.more ≢ 0 = λ e. omega arith in
    record {
      sum = closes c.args.z.now c.comment.end c.comment.more _ c.comment.invariant.sum c.comment-test.true (sym c.closes_comment.ensures ∙ c.if-not-closes_comment.false) some;
      fits = omega arith;
      few = omega arith;
    }

pub returns-else-more-gt0-clause-value : goal.returns-else-more-gt0-clause-value
returns-else-more-gt0-clause-value c =
    found c.args.z.now c.comment.end c.comment.more _ c.comment.invariant.sum c.comment-test.true (sym c.closes_comment.ensures ∙ c.if-not-closes_comment.false) (omega arith)

pub returns-clause-value : goal.returns-clause-value
returns-clause-value c = lost c.args.z.now c.comment.end c.comment.more _ c.comment.invariant.sum c.comment-test.false
