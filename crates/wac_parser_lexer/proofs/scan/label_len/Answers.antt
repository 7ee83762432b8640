use Rattle.std.proofs.Common.{◌≡◌, ◌+◌, sym, ◌∙◌, refl, arith, rules, length-drop}
use Rattle.std.proofs.lemmas.Grind.{common_steps}
use Rattle.wac_parser_lexer.specs.Scan.{word_len, label_len}
use Rattle.wac_parser_lexer.proofs.Joins.{next_in, next_out, first_part}
use Rattle.wac_parser_lexer.proofs.WordLaws.{word_fits}
use Rattle.wac_parser_lexer.proofs.scan.label_len.Goals as goal

pub returns-then-end-eq0-clause-value : goal.returns-then-end-eq0-clause-value
unfolding label_len
returns-then-end-eq0-clause-value c = let none : word_len c.args.z.now ≡ 0 = omega (arith, c.word_len-end.ensures.value) in rw none refl

pub parts-init : goal.parts-init
unfolding label_len
parts-init c = record {
  sum = rw c.word_len-end.ensures.value (sym (first_part word_len 45 word_fits c.args.z.now (omega (arith, c.word_len-end.ensures.value))));
  fits = omega (arith, c.next_word_len-more.ensures.fits, length-drop c.word_len-end.result c.args.z.now, c.word_len-end.ensures.fits);
  next = first_of (search rules, grind (arith, common_steps));
}

pub parts-preserved : goal.parts-preserved
parts-preserved c = record {
  sum = next_in word_len 45 word_fits c.args.z.now c.parts.end c.parts.more (label_len c.args.z.now) c.parts.invariant.sum c.parts.invariant.next (omega arith);
  fits = omega (arith, c.next_word_len-more-in-parts.ensures.fits, length-drop (c.parts.end + c.parts.more) c.args.z.now, c.parts.invariant.fits);
  next = first_of (search rules, grind (arith, common_steps));
}

pub returns-clause-value : goal.returns-clause-value
returns-clause-value c =
    next_out word_len 45 word_fits c.args.z.now c.parts.end (label_len c.args.z.now) c.parts.invariant.sum (sym c.parts.invariant.next ∙ omega arith)
