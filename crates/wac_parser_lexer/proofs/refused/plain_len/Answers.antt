use Rattle.std.proofs.Common.{sym, ap, ◌∙◌, arith}
use Rattle.std.proofs.lemmas.List.Sums.{prefix_len-le-length}
use lib.Count.{count_trailing_zeros}
use Rattle.wac_parser_lexer.specs.Plain.{is_plain}
use Rattle.wac_parser_lexer.proofs.LaneLaws.{run_through, run_stops}
use Rattle.wac_parser_lexer.proofs.refused.plain_len.Goals as goal

pub returns-then-odd-ne0-clause-value : goal.returns-then-odd-ne0-clause-value
returns-then-odd-ne0-clause-value c =
    let odd = c.odd_lanes-odd in
    let run = run_stops is_plain c.args.z.now c.lanes.at 16 (omega arith) (omega arith) (omega (arith, odd.ensures)) ∙ ap (count_trailing_zeros 64) (sym odd.ensures) in
    omega (arith, run, c.lanes.invariant.value)

pub returns-then-odd-ne0-clause-fits : goal.returns-then-odd-ne0-clause-fits
returns-then-odd-ne0-clause-fits c =
    let odd = c.odd_lanes-odd in
    let run = run_stops is_plain c.args.z.now c.lanes.at 16 (omega arith) (omega arith) (omega (arith, odd.ensures)) ∙ ap (count_trailing_zeros 64) (sym odd.ensures) in
    omega (arith, run, c.lanes.invariant.value, prefix_len-le-length is_plain c.args.z.now)

pub lanes-preserved : goal.lanes-preserved
lanes-preserved c =
    let run = run_through is_plain c.args.z.now c.lanes.at 16 (omega arith) (omega (arith, c.odd_lanes-odd.ensures)) in
    record { value = omega (arith, run, c.lanes.invariant.value); within = omega arith }
