use Rattle.wac_parser_json.proofs.Writing.{of_bytes, plain_front}
use Rattle.wac_parser_json.proofs.writer.JsonWriter.escaped_front.Goals as goal

pub returns-then-plain-gt0-clause-text : goal.returns-then-plain-gt0-clause-text
returns-then-plain-gt0-clause-text g c = of_bytes (rw c.plain_len-plain.ensures.value (plain_front c.args.bytes.now)) c.bytes.ensures
