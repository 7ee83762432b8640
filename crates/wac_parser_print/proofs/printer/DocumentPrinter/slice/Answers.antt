use Rattle.std.proofs.Common.{ap, ◌∙◌}
use Rattle.wac_parser_lexer.specs.Pieces.{text_at}
use Rattle.wac_parser_print.specs.Texts.{word, slice}
use Rattle.wac_parser_print.specs.Printers.{Printer}
use Rattle.wac_parser_print.proofs.Adding.{same_at}
use Rattle.wac_parser_print.proofs.printer.DocumentPrinter.slice.Goals as goal

pub returns : goal.returns
unfolding word slice
returns g c = same_at (word c.part_at.result.now) (slice c.args.span) (c.part_at.ensures ∙ ap (λ (p : Printer). text_at p.layout.source c.args.span) c.self.view_is) c.add_bytes.ensures
