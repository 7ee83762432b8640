-- Spans whose end the machine can name.
use Rattle.std.specs.Prelude.{◌+◌, ◌<◌, ◌^◌}
use Rattle.wac_parser_lexer.specs.declared.span.SourceSpan.{SourceSpan}

-- the offset behind its last byte is a number of 64 bits
abbrev pub HasEnd : SourceSpan → Type 0
HasEnd span = span.offset + span.length < 2 ^ 64
