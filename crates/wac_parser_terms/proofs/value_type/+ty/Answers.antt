use Rattle.std.proofs.Common.{Err, ◌≡◌, true, map, length, sym, ap, ◌∙◌, arith}
use Rattle.std.proofs.lemmas.Result.{err_from_is_err_and}
use Rattle.std.proofs.lemmas.List.{map-append, length-append}
use Rattle.wac_parser_lexer.specs.declared.token.Token.TheVariants as k
use Rattle.wac_parser_tree.specs.Views.{view_ty}
use Rattle.wac_parser_grammar.specs.Rules.{left}
use Rattle.wac_parser_grammar.specs.ValueTypes.{ty, ty_level, composed_ty, type_first}
use Rattle.wac_parser_terms.proofs.Places.{stays}
use Rattle.wac_parser_grammar.proofs.Lists.{deeper, Rests-more, Rests-ends, Rests-begins_not, Rests-fails, Rests-fails_behind, begun_some}
use Rattle.wac_parser_terms.proofs.Types.{too_deep_reads, taken_type, passed_type}
use Rattle.wac_parser_terms.proofs.value_type.+ty.Goals as goal
use Rattle.wac_parser_grammar.proofs.Faithful.{behind_trans}

pub ty_within-returns-then-levels-eq0-clause-value : goal.ty_within-returns-then-levels-eq0-clause-value
unfolding ty
ty_within-returns-then-levels-eq0-clause-value t c =
    let none : c.args.levels ≡ 0 = omega arith in
    λ _. ap (λ n. (ty n).read c.args.lexer.now) none ∙ too_deep_reads type_first c.args.lexer.now _ c.too_deep.ensures

pub ty_within-returns-clause-value : goal.ty_within-returns-clause-value
unfolding ty
ty_within-returns-clause-value t c = rw (deeper ty c.args.levels (omega arith)) c.ty_level.ensures.value

pub ty_level-returns-in-Some-clause-value : goal.ty_level-returns-in-Some-clause-value
unfolding ty_level
ty_level-returns-in-Some-clause-value t c = taken_type view_ty (composed_ty (ty c.args.inside)) c.args.lexer.now c.next_keyword_type.new.lexer c.next_keyword_type.result c.in-Some.ty c.in-Some.is c.next_keyword_type.ensures.value

pub ty_level-returns-in-None-clause-value : goal.ty_level-returns-in-None-clause-value
unfolding ty_level
ty_level-returns-in-None-clause-value t c = passed_type view_ty (composed_ty (ty c.args.inside)) c.args.lexer.now c.next_keyword_type.new.lexer c.composed_ty.new.lexer c.next_keyword_type.result c.composed_ty.result c.in-None.is c.next_keyword_type.ensures.value c.composed_ty.ensures.value

pub types-returns-in_err-expect_value-clause-value : goal.types-returns-in_err-expect_value-clause-value
types-returns-in_err-expect_value-clause-value t c =
    let p = err_from_is_err_and c.from_residual.result c.from_residual.ensures.1 in
    rw (p.1, p.2) (λ other. Rests-begins_not (ty c.args.inside).read type_first k.CloseAngle true (map view_ty c.types.types.items) c.types.lexer c.args.lexer.now (length c.types.types.items) (left c.args.lexer.now)
    c.types.invariant.reads (omega (arith, c.types.invariant.room)) (sym c.sees.ensures ∙ c.types-test.true) c.in_err-expect_value.ensures.none ∙ ap Err (sym c.in_err-expect_value.ensures.fault))

pub types-returns-in_err-ty_within-clause-value : goal.types-returns-in_err-ty_within-clause-value
types-returns-in_err-ty_within-clause-value t c =
    let some = begun_some type_first c.types.lexer c.in_ok-expect_value.ensures.some in
    let p = err_from_is_err_and c.from_residual-in_err-ty_within.result c.from_residual-in_err-ty_within.ensures.1 in
    rw (p.1, p.2) (λ other. Rests-fails (ty c.args.inside).read type_first k.CloseAngle true (map view_ty c.types.types.items) c.types.lexer c.args.lexer.now (length c.types.types.items) (left c.args.lexer.now) _
    c.types.invariant.reads (omega (arith, c.types.invariant.room, some)) (sym c.sees.ensures ∙ c.types-test.true) c.in_ok-expect_value.ensures.some (c.in_err-ty_within.ensures.value other))

pub types-types-preserved : goal.types-types-preserved
types-types-preserved t c = record {
  reads = λ n. rw (c.in_ok-push.ensures.items, map-append, length-append)
      (Rests-more (ty c.args.inside).read type_first k.CloseAngle true (map view_ty c.types.types.items) c.types.lexer c.ty_within.new.lexer c.behind.new.lexer c.args.lexer.now (view_ty c.in_ok-ty_within.field-0) (length c.types.types.items)
      c.types.invariant.reads (sym c.sees.ensures ∙ c.types-test.true) c.in_ok-expect_value.ensures.some c.in_ok-ty_within.ensures.value c.in_ok-behind.ensures.value n);
  room = rw (c.in_ok-push.ensures.items, length-append) (omega (arith, c.types.invariant.room, c.in_ok-ty_within.ensures.takes, c.in_ok-behind.ensures.keeps));
  place = behind_trans c.behind.new.lexer c.ty_within.new.lexer c.args.lexer.now c.behind.ensures.goes_on (behind_trans c.ty_within.new.lexer c.types.lexer c.args.lexer.now c.ty_within.ensures.goes_on c.types.invariant.place);
}

pub types-returns-in_err-behind-clause-value : goal.types-returns-in_err-behind-clause-value
types-returns-in_err-behind-clause-value t c =
    let some = begun_some type_first c.types.lexer c.in_ok-expect_value.ensures.some in
    let p = err_from_is_err_and c.from_residual-in_err-behind.result c.from_residual-in_err-behind.ensures.1 in
    rw (p.1, p.2) (λ other. Rests-fails_behind (ty c.args.inside).read type_first k.CloseAngle true (map view_ty c.types.types.items) c.types.lexer c.ty_within.new.lexer c.args.lexer.now (view_ty c.in_ok-ty_within.field-0) (length c.types.types.items) (left c.args.lexer.now) _
    c.types.invariant.reads (omega (arith, c.types.invariant.room, some)) (sym c.sees.ensures ∙ c.types-test.true) c.in_ok-expect_value.ensures.some c.in_ok-ty_within.ensures.value (c.in_err-behind.ensures.value other))

pub types-returns-clause-value : goal.types-returns-clause-value
types-returns-clause-value t c =
    Rests-ends (ty c.args.inside).read type_first k.CloseAngle true (map view_ty c.types.types.items) c.types.lexer c.args.lexer.now (length c.types.types.items) (left c.args.lexer.now)
    c.types.invariant.reads (omega (arith, c.types.invariant.room)) (sym c.sees.ensures ∙ c.types-test.false)

pub tuple_ty-returns-in_err-parse_token-clause-goes_on : goal.tuple_ty-returns-in_err-parse_token-clause-goes_on
tuple_ty-returns-in_err-parse_token-clause-goes_on t c = behind_trans _ _ _ c.parse_token-2.ensures.goes_on c.parse_token.ensures.goes_on

pub tuple_ty-returns-then-not-sees_any-clause-goes_on : goal.tuple_ty-returns-then-not-sees_any-clause-goes_on
tuple_ty-returns-then-not-sees_any-clause-goes_on t c = behind_trans _ _ _ c.parse_token-2.ensures.goes_on c.parse_token.ensures.goes_on

pub tuple_ty-returns-in_err-types-clause-goes_on : goal.tuple_ty-returns-in_err-types-clause-goes_on
tuple_ty-returns-in_err-types-clause-goes_on t c =
    behind_trans _ _ _ c.types.ensures.goes_on
    (behind_trans _ _ _ c.parse_token-2.ensures.goes_on c.parse_token.ensures.goes_on)

pub tuple_ty-returns-in_err-close-clause-goes_on : goal.tuple_ty-returns-in_err-close-clause-goes_on
tuple_ty-returns-in_err-close-clause-goes_on t c =
    behind_trans _ _ _ c.parse_token-3.ensures.goes_on
    (behind_trans _ _ _ c.types.ensures.goes_on
    (behind_trans _ _ _ c.parse_token-2.ensures.goes_on c.parse_token.ensures.goes_on))

pub tuple_ty-returns-clause-goes_on : goal.tuple_ty-returns-clause-goes_on
tuple_ty-returns-clause-goes_on t c =
    behind_trans _ _ _ c.parse_token-3.ensures.goes_on
    (behind_trans _ _ _ c.types.ensures.goes_on
    (behind_trans _ _ _ c.parse_token-2.ensures.goes_on c.parse_token.ensures.goes_on))

pub list_ty-returns-in_err-parse_token-clause-goes_on : goal.list_ty-returns-in_err-parse_token-clause-goes_on
list_ty-returns-in_err-parse_token-clause-goes_on t c = behind_trans _ _ _ c.parse_token-2.ensures.goes_on c.parse_token.ensures.goes_on

pub list_ty-returns-in_err-ty-clause-goes_on : goal.list_ty-returns-in_err-ty-clause-goes_on
list_ty-returns-in_err-ty-clause-goes_on t c =
    behind_trans _ _ _ c.boxed_ty.ensures.goes_on
    (behind_trans _ _ _ c.parse_token-2.ensures.goes_on c.parse_token.ensures.goes_on)

pub list_ty-returns-in_err-close-clause-goes_on : goal.list_ty-returns-in_err-close-clause-goes_on
list_ty-returns-in_err-close-clause-goes_on t c =
    behind_trans _ _ _ c.parse_token-3.ensures.goes_on
    (behind_trans _ _ _ c.boxed_ty.ensures.goes_on
    (behind_trans _ _ _ c.parse_token-2.ensures.goes_on c.parse_token.ensures.goes_on))

pub list_ty-returns-clause-goes_on : goal.list_ty-returns-clause-goes_on
list_ty-returns-clause-goes_on t c =
    behind_trans _ _ _ c.parse_token-3.ensures.goes_on
    (behind_trans _ _ _ c.boxed_ty.ensures.goes_on
    (behind_trans _ _ _ c.parse_token-2.ensures.goes_on c.parse_token.ensures.goes_on))

pub option_ty-returns-in_err-parse_token-clause-goes_on : goal.option_ty-returns-in_err-parse_token-clause-goes_on
option_ty-returns-in_err-parse_token-clause-goes_on t c = behind_trans _ _ _ c.parse_token-2.ensures.goes_on c.parse_token.ensures.goes_on

pub option_ty-returns-in_err-ty-clause-goes_on : goal.option_ty-returns-in_err-ty-clause-goes_on
option_ty-returns-in_err-ty-clause-goes_on t c =
    behind_trans _ _ _ c.boxed_ty.ensures.goes_on
    (behind_trans _ _ _ c.parse_token-2.ensures.goes_on c.parse_token.ensures.goes_on)

pub option_ty-returns-in_err-close-clause-goes_on : goal.option_ty-returns-in_err-close-clause-goes_on
option_ty-returns-in_err-close-clause-goes_on t c =
    behind_trans _ _ _ c.parse_token-3.ensures.goes_on
    (behind_trans _ _ _ c.boxed_ty.ensures.goes_on
    (behind_trans _ _ _ c.parse_token-2.ensures.goes_on c.parse_token.ensures.goes_on))

pub option_ty-returns-clause-goes_on : goal.option_ty-returns-clause-goes_on
option_ty-returns-clause-goes_on t c =
    behind_trans _ _ _ c.parse_token-3.ensures.goes_on
    (behind_trans _ _ _ c.boxed_ty.ensures.goes_on
    (behind_trans _ _ _ c.parse_token-2.ensures.goes_on c.parse_token.ensures.goes_on))

pub result_ty-returns-in_err-optional-clause-goes_on : goal.result_ty-returns-in_err-optional-clause-goes_on
result_ty-returns-in_err-optional-clause-goes_on t c = behind_trans _ _ _ c.optional.ensures.goes_on c.parse_token.ensures.goes_on

pub result_ty-returns-then-not-branch-clause-goes_on : goal.result_ty-returns-then-not-branch-clause-goes_on
result_ty-returns-then-not-branch-clause-goes_on t c = behind_trans _ _ _ c.optional.ensures.goes_on c.parse_token.ensures.goes_on

pub result_ty-returns-in_err-ok-clause-goes_on : goal.result_ty-returns-in_err-ok-clause-goes_on
result_ty-returns-in_err-ok-clause-goes_on t c =
    behind_trans _ _ _ c.omitted_or.ensures.goes_on
    (behind_trans _ _ _ c.optional.ensures.goes_on c.parse_token.ensures.goes_on)

pub result_ty-returns-in_err-err-clause-goes_on : goal.result_ty-returns-in_err-err-clause-goes_on
result_ty-returns-in_err-err-clause-goes_on t c =
    behind_trans _ _ _ c.second_part.ensures.goes_on
    (behind_trans _ _ _ c.omitted_or.ensures.goes_on
    (behind_trans _ _ _ c.optional.ensures.goes_on c.parse_token.ensures.goes_on))

pub result_ty-returns-in_err-close-clause-goes_on : goal.result_ty-returns-in_err-close-clause-goes_on
result_ty-returns-in_err-close-clause-goes_on t c =
    behind_trans _ _ _ c.parse_token-2.ensures.goes_on
    (behind_trans _ _ _ c.second_part.ensures.goes_on
    (behind_trans _ _ _ c.omitted_or.ensures.goes_on
    (behind_trans _ _ _ c.optional.ensures.goes_on c.parse_token.ensures.goes_on)))

pub result_ty-returns-clause-goes_on : goal.result_ty-returns-clause-goes_on
result_ty-returns-clause-goes_on t c =
    behind_trans _ _ _ c.parse_token-2.ensures.goes_on
    (behind_trans _ _ _ c.second_part.ensures.goes_on
    (behind_trans _ _ _ c.omitted_or.ensures.goes_on
    (behind_trans _ _ _ c.optional.ensures.goes_on c.parse_token.ensures.goes_on)))

pub payload-returns-in_err-ty-clause-goes_on : goal.payload-returns-in_err-ty-clause-goes_on
payload-returns-in_err-ty-clause-goes_on t c = behind_trans _ _ _ c.boxed_ty.ensures.goes_on c.optional.ensures.goes_on

pub payload-returns-in_err-close-clause-goes_on : goal.payload-returns-in_err-close-clause-goes_on
payload-returns-in_err-close-clause-goes_on t c =
    behind_trans _ _ _ c.parse_token.ensures.goes_on
    (behind_trans _ _ _ c.boxed_ty.ensures.goes_on c.optional.ensures.goes_on)

pub payload-returns-clause-goes_on : goal.payload-returns-clause-goes_on
payload-returns-clause-goes_on t c =
    behind_trans _ _ _ c.parse_token.ensures.goes_on
    (behind_trans _ _ _ c.boxed_ty.ensures.goes_on c.optional.ensures.goes_on)

pub stream_ty-returns-in_err-ty-clause-goes_on : goal.stream_ty-returns-in_err-ty-clause-goes_on
stream_ty-returns-in_err-ty-clause-goes_on t c = behind_trans _ _ _ c.payload.ensures.goes_on c.parse_token.ensures.goes_on

pub stream_ty-returns-clause-goes_on : goal.stream_ty-returns-clause-goes_on
stream_ty-returns-clause-goes_on t c = behind_trans _ _ _ c.payload.ensures.goes_on c.parse_token.ensures.goes_on

pub future_ty-returns-in_err-ty-clause-goes_on : goal.future_ty-returns-in_err-ty-clause-goes_on
future_ty-returns-in_err-ty-clause-goes_on t c = behind_trans _ _ _ c.payload.ensures.goes_on c.parse_token.ensures.goes_on

pub future_ty-returns-clause-goes_on : goal.future_ty-returns-clause-goes_on
future_ty-returns-clause-goes_on t c = behind_trans _ _ _ c.payload.ensures.goes_on c.parse_token.ensures.goes_on

pub composed_ty-returns-else-sees-8-clause-goes_on : goal.composed_ty-returns-else-sees-8-clause-goes_on
composed_ty-returns-else-sees-8-clause-goes_on t c = stays _

pub omitted_or-returns-then-not-sees_any-clause-goes_on : goal.omitted_or-returns-then-not-sees_any-clause-goes_on
omitted_or-returns-then-not-sees_any-clause-goes_on t c = stays _
