use Rattle.std.proofs.Common.{refl, sym, ◌∙◌}
use Rattle.wac_parser_print.proofs.Adding.{bytes_by}
use Rattle.wac_parser_json.proofs.writer.JsonWriter.bytes.Goals as goal

pub returns-then-is_err : goal.returns-then-is_err
returns-then-is_err g c = record {
  same_sink = refl;
  adds = bytes_by _ _ c.args.bytes.now c.write_bytes.result c.if-self.false (sym c.if-is_err.true ∙ c.is_err.ensures.value) refl
      c.write_bytes.ensures.whole c.write_bytes.ensures.prefix c.write_bytes.ensures.none_failed c.write_bytes.ensures.failed;
}

pub returns-else-is_err : goal.returns-else-is_err
returns-else-is_err g c = record {
  same_sink = refl;
  adds = bytes_by _ _ c.args.bytes.now c.write_bytes.result c.if-self.false (c.if-self.false ∙ sym c.if-is_err.false ∙ c.is_err.ensures.value) refl
      c.write_bytes.ensures.whole c.write_bytes.ensures.prefix c.write_bytes.ensures.none_failed c.write_bytes.ensures.failed;
}
