use Rattle.std.proofs.Common.{rules}
use Rattle.json.specs.Print.{escape_byte}
use Rattle.wac_parser_json.proofs.Writing.{of_bytes}
use Rattle.wac_parser_json.proofs.writer.JsonWriter.escaped_byte.Goals as goal

pub returns-then-letter-gt0 : goal.returns-then-letter-gt0
unfolding escape_byte
returns-then-letter-gt0 g c = of_bytes (search rules) c.bytes.ensures

pub returns-then-byte-lt32 : goal.returns-then-byte-lt32
unfolding escape_byte
returns-then-byte-lt32 g c = of_bytes (search rules) c.bytes-then-byte-lt32.ensures

pub returns : goal.returns
unfolding escape_byte
returns g c = of_bytes (search rules) c.bytes-2.ensures
