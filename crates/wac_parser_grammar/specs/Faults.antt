-- A refusal as plain data: what an error says, with texts as bytes.
use Rattle.std.specs.Prelude.{ℕ, List, Option}
use Rattle.std.specs.String.{string_bytes}
use Rattle.wac_parser_lexer.specs.declared.span.SourceSpan.{SourceSpan}
use Rattle.wac_parser_lexer.specs.declared.token.Token.{Token}
use Rattle.wac_parser_lexer.specs.declared.error.Error as lexer_error
use Rattle.wac_parser_grammar.specs.declared.error.Error.{Error}
use Rattle.wac_parser_grammar.specs.declared.error.Error.TheVariants as e
use Rattle.wac_parser_grammar.specs.declared.error.DeclaredType.{DeclaredType}
use Rattle.wac_parser_grammar.specs.declared.error.MemberKind.{MemberKind}

pub data Fault : Type 0 where
  lexer : lexer_error.Error → SourceSpan → Fault
  expected : Token → Option Token → SourceSpan → Fault
  expected_either : Token → Token → Option Token → SourceSpan → Fault
  expected_multiple : List (Option Token) → ℕ → Option Token → SourceSpan → Fault
  empty_type : DeclaredType → MemberKind → SourceSpan → Fault
  invalid_version : List ℕ → SourceSpan → Fault
  nested_too_deep : SourceSpan → Fault
  memory : Fault

abbrev pub fault_of : Error → Fault
fault_of (e.Lexer error span) = lexer error span
fault_of (e.Expected token found span) = expected token found span
fault_of (e.ExpectedEither first second found span) = expected_either first second found span
fault_of (e.ExpectedMultiple tokens count found span) = expected_multiple tokens count found span
fault_of (e.EmptyType ty kind span) = empty_type ty kind span
fault_of (e.InvalidVersion version span) = invalid_version (string_bytes version) span
fault_of (e.NestedTooDeep span) = nested_too_deep span
fault_of e.Memory = memory
