-- A type that is nested too deep stands as many levels deeper as there was room for.
use Rattle.std.proofs.Common.{◌≡◌, ℕ, zero, suc, ◌+◌, true, Option, Some, None, refl, subst, arith}
use Rattle.wac_parser_lexer.specs.declared.span.SourceSpan.{SourceSpan}
use Rattle.wac_parser_lexer.specs.declared.token.Token.{Token}
use Rattle.wac_parser_lexer.specs.declared.token.Token.TheVariants as k
use Rattle.wac_parser_tree.specs.Trees as t
use Rattle.wac_parser_grammar.specs.Rules.{Rule, token}
use Rattle.wac_parser_grammar.specs.Ahead.{same_token, next_token}
use Rattle.wac_parser_grammar.specs.Names.{ident}
use Rattle.wac_parser_grammar.specs.ValueTypes.{type_first, keyword_type, keyword_or, keyword_at, keyword_type_or, tuple_ty, list_ty, option_ty, omitted_or, second_part, result_parts, result_ty, payload, stream_ty, future_ty, borrow_ty, composed_ty, ty_level, ty, too_deep}
use Rattle.wac_parser_grammar.specs.Nesting.{types}
use Rattle.wac_parser_grammar.proofs.Sinking.{Sinks, step, bind_sinks, pure_sinks, look_sinks, refuse_sinks, begin_sinks, begin_any_sinks, none_never, token_sinks, optional_sinks, behind_sinks, ident_sinks, too_deep_sinks, list_sinks}

opens : (l : ℕ) → suc l + step types.closing k.OpenAngle ≡ l + step types.opening k.OpenAngle
unfolding same_token
opens l = omega arith

closes : (l : ℕ) → l + step types.closing k.CloseAngle ≡ suc l + step types.opening k.CloseAngle
unfolding same_token
closes l = omega arith

module _ {n : ℕ} where
  open_sinks : {l : ℕ} → Sinks types n l (λ _. suc l) (token k.OpenAngle)
  open_sinks {l = l} = token_sinks k.OpenAngle l (suc l) (opens l)

  close_sinks : {l : ℕ} → Sinks types n (suc l) (λ _. l) (token k.CloseAngle)
  close_sinks {l = l} = token_sinks k.CloseAngle (suc l) l (closes l)

  id_sinks : {l : ℕ} → Sinks types n l (λ _. l) ident
  unfolding same_token
  id_sinks = ident_sinks refl

  borrow_sinks : {l : ℕ} → Sinks types n l (λ _. l) borrow_ty
  unfolding borrow_ty same_token
  borrow_sinks {l = l} = bind_sinks _ _ (token_sinks k.BorrowKeyword l l refl) (λ v0. bind_sinks _ _ open_sinks (λ v1. bind_sinks _ _ id_sinks (λ v2. bind_sinks _ _ close_sinks (λ v3. pure_sinks _))))

  module _ {l : ℕ} (inner : Rule t.Ty) (deeper : Sinks types n (suc l) (λ _. suc l) inner) where
    tuple_sinks : Sinks types n l (λ _. l) (tuple_ty inner)
    unfolding tuple_ty same_token
    tuple_sinks =
        bind_sinks _ _ (token_sinks k.TupleKeyword l l refl) (λ v0. bind_sinks _ _ open_sinks (λ v1.
        bind_sinks _ _ (begin_any_sinks type_first _ _ (list_sinks inner deeper type_first k.CloseAngle true (behind_sinks k.CloseAngle true refl)) (refuse_sinks _ (none_never _))) (λ v2.
        bind_sinks _ _ close_sinks (λ v3. pure_sinks _))))

    listed_sinks : Sinks types n l (λ _. l) (list_ty inner)
    unfolding list_ty same_token
    listed_sinks = bind_sinks _ _ (token_sinks k.ListKeyword l l refl) (λ v0. bind_sinks _ _ open_sinks (λ v1. bind_sinks _ _ deeper (λ v2. bind_sinks _ _ close_sinks (λ v3. pure_sinks _))))

    option_sinks : Sinks types n l (λ _. l) (option_ty inner)
    unfolding option_ty same_token
    option_sinks = bind_sinks _ _ (token_sinks k.OptionKeyword l l refl) (λ v0. bind_sinks _ _ open_sinks (λ v1. bind_sinks _ _ deeper (λ v2. bind_sinks _ _ close_sinks (λ v3. pure_sinks _))))

    omitted_sinks : Sinks types n (suc l) (λ _. suc l) (omitted_or inner)
    unfolding omitted_or same_token
    omitted_sinks =
        begin_sinks k.Underscore _ _ (bind_sinks _ _ (token_sinks k.Underscore (suc l) (suc l) refl) (λ v0. pure_sinks _))
        (begin_any_sinks type_first _ _ (bind_sinks _ _ deeper (λ v0. pure_sinks _)) (refuse_sinks _ (none_never _)))

    second_sinks : Sinks types n (suc l) (λ _. suc l) (second_part inner)
    unfolding second_part same_token
    second_sinks = optional_sinks k.Comma (suc l) (suc l) refl _ _ omitted_sinks (pure_sinks _)

    parts_sinks : (start : SourceSpan) → Sinks types n (suc l) (λ _. l) (result_parts inner start)
    unfolding result_parts
    parts_sinks start = bind_sinks _ _ omitted_sinks (λ v0. bind_sinks _ _ second_sinks (λ v1. bind_sinks _ _ close_sinks (λ v2. pure_sinks _)))

    result_sinks : Sinks types n l (λ _. l) (result_ty inner)
    unfolding result_ty same_token
    result_sinks = bind_sinks _ _ (token_sinks k.ResultKeyword l l refl) (λ v0. optional_sinks k.OpenAngle l (suc l) (opens l) _ _ (parts_sinks v0) (pure_sinks _))

    payload_sinks : (start : SourceSpan) → Sinks types n l (λ _. l) (payload inner start)
    unfolding payload
    payload_sinks start = optional_sinks k.OpenAngle l (suc l) (opens l) _ _ (bind_sinks _ _ deeper (λ v0. bind_sinks _ _ close_sinks (λ v1. pure_sinks _))) (pure_sinks _)

    stream_sinks : Sinks types n l (λ _. l) (stream_ty inner)
    unfolding stream_ty same_token
    stream_sinks = bind_sinks _ _ (token_sinks k.StreamKeyword l l refl) (λ v0. bind_sinks _ _ (payload_sinks v0) (λ v1. pure_sinks _))

    future_sinks : Sinks types n l (λ _. l) (future_ty inner)
    unfolding future_ty same_token
    future_sinks = bind_sinks _ _ (token_sinks k.FutureKeyword l l refl) (λ v0. bind_sinks _ _ (payload_sinks v0) (λ v1. pure_sinks _))

    composed_sinks : Sinks types n l (λ _. l) (composed_ty inner)
    unfolding composed_ty
    composed_sinks =
        begin_sinks k.TupleKeyword _ _ tuple_sinks (begin_sinks k.ListKeyword _ _ listed_sinks (begin_sinks k.OptionKeyword _ _ option_sinks (begin_sinks k.ResultKeyword _ _ result_sinks
        (begin_sinks k.BorrowKeyword _ _ borrow_sinks (begin_sinks k.StreamKeyword _ _ stream_sinks (begin_sinks k.FutureKeyword _ _ future_sinks
        (begin_sinks k.Ident _ _ (bind_sinks _ _ id_sinks (λ v0. pure_sinks _)) (refuse_sinks _ (none_never _)))))))))

    no_angle : (k : Token) (make : SourceSpan → t.Ty) → keyword_type k ≡ Some make → l + step types.closing k ≡ l + step types.opening k
    unfolding same_token
    no_angle k.OpenAngle make e = cc
    no_angle k.CloseAngle make e = cc
    no_angle _ make e = refl

    or_sinks : (o : Option (SourceSpan → t.Ty)) (k : Token) → keyword_type k ≡ o → Sinks types n l (λ _. l) (keyword_or o k (composed_ty inner))
    or_sinks None k e = composed_sinks
    or_sinks (Some make) k e = bind_sinks _ _ (token_sinks k l l (no_angle k make e)) (λ v0. pure_sinks _)

    at_sinks : (o : Option Token) → Sinks types n l (λ _. l) (keyword_at o (composed_ty inner))
    at_sinks None = composed_sinks
    at_sinks (Some k) = or_sinks (keyword_type k) k refl

    level_sinks : Sinks types n l (λ _. l) (ty_level inner)
    unfolding ty_level keyword_type_or
    level_sinks = bind_sinks _ _ (look_sinks next_token) at_sinks

  pub ty_sinks : (j l : ℕ) → j + l ≡ n → Sinks types n l (λ _. l) (ty j)
  unfolding ty
  ty_sinks zero l e = let P : ℕ → Type 0 = λ (i : ℕ). Sinks types n i (λ _. i) (too_deep {X = t.Ty} type_first) in let same : n ≡ l = omega (arith, e) in subst P same too_deep_sinks
  ty_sinks (suc j) l e = level_sinks (ty j) (ty_sinks j (suc l) (omega (arith, e)))
