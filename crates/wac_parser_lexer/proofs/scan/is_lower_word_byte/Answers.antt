use Rattle.std.proofs.Common.{refl, arith}
use Rattle.wac_parser_lexer.specs.declared.scan.TheConstants.{WORD_BYTES}
use Rattle.wac_parser_lexer.specs.Words.{is_lower_word_byte}
use Rattle.wac_parser_lexer.proofs.TableLaws.{agree_below, from_table}
use Rattle.wac_parser_lexer.proofs.scan.is_lower_word_byte.Goals as goal

pub returns : goal.returns
unfolding agree_below
returns c = from_table WORD_BYTES 1 is_lower_word_byte c.args.b (omega arith) refl
