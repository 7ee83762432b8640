use Rattle.std.proofs.Common.{sym, arith}
use Rattle.wac_parser_lexer.proofs.FindLaws.{run_to, run_over}
use Rattle.wac_parser_lexer.proofs.scan.line_len.Goals as goal

pub returns-in-Some-clause-value : goal.returns-in-Some-clause-value
returns-in-Some-clause-value c =
    let found = c.in-Some.ensures in
    sym (run_to 10 c.args.z.now c.in-Some.at found.0.high (λ j below. found.0.before j (omega arith) below) found.1)

pub returns-in-None-clause-value : goal.returns-in-None-clause-value
returns-in-None-clause-value c = sym (run_over 10 c.args.z.now (λ j below. c.in-None.ensures j (omega arith) below))
