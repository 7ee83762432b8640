use Rattle.std.proofs.Common.{◌<◌, rules, arith, length, get_or}
use Rattle.std.proofs.lemmas.Grind.{common_steps}
use Rattle.std.proofs.lemmas.Str.{IsCharBoundary-after_ascii}
use Rattle.wac_parser_terms.proofs.text.strip_percent.Goals as goal

pub range_from-requires : goal.range_from-requires
range_from-requires c =
    let some : 0 < length c.as_bytes.result.now = omega arith in
    let small : get_or c.as_bytes.result.now 0 0 < 128 = first_of (omega arith, grind (arith, common_steps), search rules) in
    λ _. IsCharBoundary-after_ascii c.args.text.now 0 c.utf8.text (rw c.as_bytes.ensures.value at some) (rw c.as_bytes.ensures.value at small)
