use Rattle.std.proofs.Common.{◌≡◌, ◌+◌, sym, ◌∙◌, refl, arith, rules, length-drop}
use Rattle.std.specs.List.{prefix_len}
use Rattle.wac_parser_lexer.specs.Words.{is_version_byte}
use Rattle.std.proofs.lemmas.Grind.{common_steps}
use Rattle.wac_parser_lexer.specs.Scan.{version_parts_len}
use Rattle.wac_parser_lexer.proofs.Joins.{next_in, next_out, first_part}
use Rattle.wac_parser_lexer.proofs.WordLaws.{run_fits}
use Rattle.wac_parser_lexer.proofs.scan.version_parts_len.Goals as goal

pub returns-then-end-eq0-clause-value : goal.returns-then-end-eq0-clause-value
unfolding version_parts_len
returns-then-end-eq0-clause-value c = let none : prefix_len is_version_byte c.args.z.now ≡ 0 = omega (arith, c.version_part_len-end.ensures.value) in rw none refl

pub parts-init : goal.parts-init
unfolding version_parts_len
parts-init c = record {
  sum = rw c.version_part_len-end.ensures.value (sym (first_part (prefix_len is_version_byte) 46 (run_fits is_version_byte) c.args.z.now (omega (arith, c.version_part_len-end.ensures.value))));
  fits = omega (arith, c.next_version_part_len-more.ensures.fits, length-drop c.version_part_len-end.result c.args.z.now, c.version_part_len-end.ensures.fits);
  next = first_of (search rules, grind (arith, common_steps));
}

pub parts-preserved : goal.parts-preserved
parts-preserved c = record {
  sum = next_in (prefix_len is_version_byte) 46 (run_fits is_version_byte) c.args.z.now c.parts.end c.parts.more (version_parts_len c.args.z.now) c.parts.invariant.sum c.parts.invariant.next (omega arith);
  fits = omega (arith, c.next_version_part_len-more-in-parts.ensures.fits, length-drop (c.parts.end + c.parts.more) c.args.z.now, c.parts.invariant.fits);
  next = first_of (search rules, grind (arith, common_steps));
}

pub returns-clause-value : goal.returns-clause-value
returns-clause-value c =
    next_out (prefix_len is_version_byte) 46 (run_fits is_version_byte) c.args.z.now c.parts.end (version_parts_len c.args.z.now) c.parts.invariant.sum (sym c.parts.invariant.next ∙ omega arith)
