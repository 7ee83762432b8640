-- A doc comment as the lexer gives it.
use Rattle.std.specs.Prelude.{List, ℕ}
use Rattle.std.specs.Borrow.{Bor}
use Rattle.wac_parser_lexer.specs.declared.span.SourceSpan.{SourceSpan}
use Rattle.wac_parser_lexer.specs.Items.{Doc}

-- a text and a span as a doc comment
abbrev pub doc_of : Bor (List ℕ) × SourceSpan → Doc
doc_of c = record { comment = c.0.now; span = c.1 }
