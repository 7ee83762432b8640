use Rattle.std.proofs.Common.{refl, rules}
use Rattle.wac_parser_json.proofs.Writing.{written_whole, written_front}
use Rattle.wac_parser_json.proofs.document.write_json.Goals as goal

pub returns-then-failed-clause-prefix : goal.returns-then-failed-clause-prefix
returns-then-failed-clause-prefix g c =
    let front = written_front c.document.ensures refl c.if-failed.true in
    search rules

pub returns-clause-whole : goal.returns-clause-whole
returns-clause-whole g c =
    let whole = written_whole c.document.ensures c.if-failed.false in
    search rules
