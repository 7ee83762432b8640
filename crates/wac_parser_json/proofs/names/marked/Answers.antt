use Rattle.std.proofs.Common.{arith}
use Rattle.std.proofs.lemmas.Bool.Decides.{nat_tests}
use Rattle.wac_parser_json.proofs.Writing.{nothing, then, of_bytes, marked_text, unmarked_text}
use Rattle.wac_parser_json.proofs.names.marked.Goals as goal

pub returns-then-is_empty : goal.returns-then-is_empty
returns-then-is_empty g c = of_bytes (unmarked_text c.args.mark c.args.text.now (grind (arith, nat_tests))) (nothing _)

pub returns : goal.returns
returns g c = of_bytes (marked_text c.args.mark c.args.text.now (grind (arith, nat_tests))) (then c.escaped.ensures (rw c.as_bytes.ensures.value at c.escaped-2.ensures))
