use Rattle.std.proofs.Common.{◌+◌, ◌*◌, ◌≡◌, ◌≤◌, ℕ, length, map, true}
use Rattle.wac_parser_tree.specs.Views.{view_ty}
use Rattle.wac_parser_grammar.specs.Places.{IsBehind}
use Rattle.wac_parser_grammar.specs.Rules.{read_list, after_front, left}
use Rattle.wac_parser_grammar.specs.ValueTypes.{ty, type_first}
use Rattle.wac_parser_lexer.specs.declared.token.Token.TheVariants.{CloseAngle}
use Rattle.wac_parser_terms.proofs.value_type.+ty.Given as goal

abbrev pub decreases-ty_within : goal.decreases-ty_within
decreases-ty_within l = 8 * l.levels

abbrev pub decreases-ty_level : goal.decreases-ty_level
decreases-ty_level l = 8 * l.inside + 7

abbrev pub decreases-composed_ty : goal.decreases-composed_ty
decreases-composed_ty l = 8 * l.inside + 6

abbrev pub decreases-list_ty : goal.decreases-list_ty
decreases-list_ty l = 8 * l.inside + 5

abbrev pub decreases-option_ty : goal.decreases-option_ty
decreases-option_ty l = 8 * l.inside + 5

abbrev pub decreases-tuple_ty : goal.decreases-tuple_ty
decreases-tuple_ty l = 8 * l.inside + 5

abbrev pub decreases-result_ty : goal.decreases-result_ty
decreases-result_ty l = 8 * l.inside + 5

abbrev pub decreases-stream_ty : goal.decreases-stream_ty
decreases-stream_ty l = 8 * l.inside + 5

abbrev pub decreases-future_ty : goal.decreases-future_ty
decreases-future_ty l = 8 * l.inside + 5

abbrev pub decreases-second_part : goal.decreases-second_part
decreases-second_part l = 8 * l.inside + 4

abbrev pub decreases-payload : goal.decreases-payload
decreases-payload l = 8 * l.inside + 4

abbrev pub decreases-omitted_or : goal.decreases-omitted_or
decreases-omitted_or l = 8 * l.inside + 3

abbrev pub decreases-boxed_ty : goal.decreases-boxed_ty
decreases-boxed_ty l = 8 * l.inside + 2

abbrev pub decreases-types : goal.decreases-types
decreases-types l = 8 * l.inside + 2

abbrev pub decreases-types-types : goal.decreases-types-types
decreases-types-types l = left l.lexer

abbrev pub invariant-types-types : goal.invariant-types-types
invariant-types-types l = record {
  reads : (n : ℕ) → after_front (map view_ty l.types.items) (read_list (ty l.inside).read type_first CloseAngle true n l.lexer) ≡ read_list (ty l.inside).read type_first CloseAngle true (length l.types.items + n) l.initial.lexer;
  room : length l.types.items + left l.lexer ≤ left l.initial.lexer;
  place : IsBehind l.lexer l.initial.lexer;
}
