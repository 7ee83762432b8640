use Rattle.std.proofs.Common.{decimal}
use Rattle.semver.specs.Identifiers.{marked, pre_text, build_text}
use Rattle.wac_parser_json.proofs.Writing.{then, of_bytes, version_in_quotes}
use Rattle.wac_parser_json.proofs.names.version_text.Goals as goal

pub returns : goal.returns
returns g c =
    let v = c.args.version.now in
    let tail = then (rw c.as_str.ensures at c.marked.ensures) (then (rw c.as_str-2.ensures at c.marked-2.ensures) c.word-4.ensures) in
    of_bytes (version_in_quotes (decimal v.major) (decimal v.minor) (decimal v.patch) (marked 45 (pre_text v.pre)) (marked 43 (build_text v.build)))
    (then c.word.ensures (then c.numeral.ensures (then c.word-2.ensures (then c.numeral-2.ensures (then c.word-3.ensures (then c.numeral-3.ensures tail))))))
