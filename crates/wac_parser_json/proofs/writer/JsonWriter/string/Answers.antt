use Rattle.wac_parser_json.proofs.Writing.{then}
use Rattle.wac_parser_json.proofs.writer.JsonWriter.string.Goals as goal

pub returns : goal.returns
returns g c = then c.word.ensures (then (rw c.as_bytes.ensures.value at c.escaped.ensures) c.word-2.ensures)
