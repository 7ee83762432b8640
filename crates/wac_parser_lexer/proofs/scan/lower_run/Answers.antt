use Rattle.std.proofs.Common.{sym, ap, ◌∙◌, arith}
use Rattle.std.proofs.lemmas.List.Sums.{prefix_len-le-length}
use lib.Count.{count_trailing_zeros}
use Rattle.wac_parser_lexer.specs.Words.{is_lower_word_byte}
use Rattle.wac_parser_lexer.proofs.LaneLaws.{run_through, run_stops}
use Rattle.wac_parser_lexer.proofs.scan.lower_run.Goals as goal

pub returns-then-foreign-ne0-clause-value : goal.returns-then-foreign-ne0-clause-value
returns-then-foreign-ne0-clause-value c =
    let mask = c.foreign_lanes-foreign in
    let run = run_stops is_lower_word_byte c.args.z.now c.lanes.at 16 (omega arith) (omega arith) (omega (arith, mask.ensures)) ∙ ap (count_trailing_zeros 64) (sym mask.ensures) in
    omega (arith, run, c.lanes.invariant.value)

pub returns-then-foreign-ne0-clause-fits : goal.returns-then-foreign-ne0-clause-fits
returns-then-foreign-ne0-clause-fits c =
    let mask = c.foreign_lanes-foreign in
    let run = run_stops is_lower_word_byte c.args.z.now c.lanes.at 16 (omega arith) (omega arith) (omega (arith, mask.ensures)) ∙ ap (count_trailing_zeros 64) (sym mask.ensures) in
    omega (arith, run, c.lanes.invariant.value, prefix_len-le-length is_lower_word_byte c.args.z.now)

pub lanes-preserved : goal.lanes-preserved
lanes-preserved c =
    let run = run_through is_lower_word_byte c.args.z.now c.lanes.at 16 (omega arith) (omega (arith, c.foreign_lanes-foreign.ensures)) in
    record { value = omega (arith, run, c.lanes.invariant.value); within = omega arith }
