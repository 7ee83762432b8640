-- The rules of types read just what they say.
use Rattle.std.proofs.Common.{◌≡◌, ℕ, zero, suc, true, List, [], ◌∷◌, Option, Some, None, refl}
use Rattle.wac_parser_lexer.specs.declared.span.SourceSpan.{SourceSpan}
use Rattle.wac_parser_lexer.specs.declared.token.Token.{Token}
use Rattle.wac_parser_lexer.specs.declared.token.Token.TheVariants as k
use Rattle.wac_parser_tree.specs.Trees as t
use Rattle.wac_parser_grammar.specs.Rules.{Rule}
use Rattle.wac_parser_grammar.proofs.Exact.{Exact, Takes, Keeps, Begins, bind, pure_exact, refuse_exact, look_exact, choose_exact, begin_exact, begin_any_exact, token_exact, optional_exact, bind_takes, bind_keeps, then_takes, still_keeps, pure_keeps, look_keeps, refuse_takes, token_takes, choose_keeps, begin_takes, begin_any_takes, begin_any_keeps, optional_keeps, token_begins, bind_begins, optional_begins, refuse_begins, begin_begins}
use Rattle.wac_parser_grammar.proofs.ExactLists.{list_exact, list_keeps}
use Rattle.std.proofs.Common.{inl, inr, sym, ap, ◌∙◌, subst}
use Rattle.wac_parser_lexer.specs.Items.{Input}
use Rattle.wac_parser_grammar.specs.Ahead.{same_token, is_any, next_token, sees_any}
use Rattle.wac_parser_grammar.specs.ValueTypes.{type_first, func_first, keyword_type, keyword_or, keyword_at, keyword_type_or, too_deep, tuple_ty, list_ty, option_ty, omitted_or, second_part, result_parts, result_ty, payload, stream_ty, future_ty, borrow_ty, composed_ty, ty_level, ty, value_type, named_type, result_list, func_results, func_params, func_type, func_type_ref}
use Rattle.wac_parser_grammar.proofs.Exact.{skip}
use Rattle.wac_parser_grammar.proofs.NameLaws.{ident_exact, ident_takes, ident_begins}

pub borrow_ty_exact : Exact borrow_ty
unfolding borrow_ty
borrow_ty_exact = bind _ _ (token_exact k.BorrowKeyword) (λ v0. bind _ _ (token_exact k.OpenAngle) (λ v1. bind _ _ (ident_exact) (λ v2. bind _ _ (token_exact k.CloseAngle) (λ v3. pure_exact _))))

pub borrow_ty_takes : Takes borrow_ty
unfolding borrow_ty
borrow_ty_takes = bind_takes _ _ (token_takes k.BorrowKeyword) (λ v0. bind_keeps _ _ (still_keeps _ (token_takes k.OpenAngle)) (λ v1. bind_keeps _ _ (still_keeps _ (ident_takes)) (λ v2. bind_keeps _ _ (still_keeps _ (token_takes k.CloseAngle)) (λ v3. pure_keeps _))))

module _ (inner : Rule t.Ty) (exact : Exact inner) (takes : Takes inner) (begins : Begins type_first inner) where
  pub tuple_ty_exact : Exact (tuple_ty inner)
  unfolding tuple_ty
  tuple_ty_exact = bind _ _ (token_exact k.TupleKeyword) (λ v0. bind _ _ (token_exact k.OpenAngle) (λ v1. bind _ _ (begin_any_exact type_first _ _ (list_exact inner type_first k.CloseAngle true exact begins takes) (refuse_exact _)) (λ v2. bind _ _ (token_exact k.CloseAngle) (λ v3. pure_exact _))))

  pub tuple_ty_takes : Takes (tuple_ty inner)
  unfolding tuple_ty
  tuple_ty_takes = bind_takes _ _ (token_takes k.TupleKeyword) (λ v0. bind_keeps _ _ (still_keeps _ (token_takes k.OpenAngle)) (λ v1. bind_keeps _ _ (begin_any_keeps type_first _ _ (list_keeps inner type_first k.CloseAngle true exact begins takes) (still_keeps _ (refuse_takes _))) (λ v2. bind_keeps _ _ (still_keeps _ (token_takes k.CloseAngle)) (λ v3. pure_keeps _))))

  pub list_ty_exact : Exact (list_ty inner)
  unfolding list_ty
  list_ty_exact = bind _ _ (token_exact k.ListKeyword) (λ v0. bind _ _ (token_exact k.OpenAngle) (λ v1. bind _ _ (exact) (λ v2. bind _ _ (token_exact k.CloseAngle) (λ v3. pure_exact _))))

  pub list_ty_takes : Takes (list_ty inner)
  unfolding list_ty
  list_ty_takes = bind_takes _ _ (token_takes k.ListKeyword) (λ v0. bind_keeps _ _ (still_keeps _ (token_takes k.OpenAngle)) (λ v1. bind_keeps _ _ (still_keeps _ (takes)) (λ v2. bind_keeps _ _ (still_keeps _ (token_takes k.CloseAngle)) (λ v3. pure_keeps _))))

  pub option_ty_exact : Exact (option_ty inner)
  unfolding option_ty
  option_ty_exact = bind _ _ (token_exact k.OptionKeyword) (λ v0. bind _ _ (token_exact k.OpenAngle) (λ v1. bind _ _ (exact) (λ v2. bind _ _ (token_exact k.CloseAngle) (λ v3. pure_exact _))))

  pub option_ty_takes : Takes (option_ty inner)
  unfolding option_ty
  option_ty_takes = bind_takes _ _ (token_takes k.OptionKeyword) (λ v0. bind_keeps _ _ (still_keeps _ (token_takes k.OpenAngle)) (λ v1. bind_keeps _ _ (still_keeps _ (takes)) (λ v2. bind_keeps _ _ (still_keeps _ (token_takes k.CloseAngle)) (λ v3. pure_keeps _))))

  pub omitted_or_exact : Exact (omitted_or inner)
  unfolding omitted_or
  omitted_or_exact = begin_exact k.Underscore _ _ (bind _ _ (token_exact k.Underscore) (λ v0. pure_exact _)) (begin_any_exact type_first _ _ (bind _ _ (exact) (λ v0. pure_exact _)) (refuse_exact _))

  pub omitted_or_takes : Takes (omitted_or inner)
  unfolding omitted_or
  omitted_or_takes = begin_takes k.Underscore _ _ (bind_takes _ _ (token_takes k.Underscore) (λ v0. pure_keeps _)) (begin_any_takes type_first _ _ (bind_takes _ _ (takes) (λ v0. pure_keeps _)) (refuse_takes _))

  pub second_part_exact : Exact (second_part inner)
  unfolding second_part
  second_part_exact = bind _ _ (optional_exact k.Comma) (λ v0. choose_exact v0 _ _ (omitted_or_exact) (pure_exact _))

  pub second_part_keeps : Keeps (second_part inner)
  unfolding second_part
  second_part_keeps = bind_keeps _ _ (optional_keeps k.Comma) (λ v0. choose_keeps v0 _ _ (still_keeps _ (omitted_or_takes)) (pure_keeps _))

  pub result_parts_exact : (start : SourceSpan) → Exact (result_parts inner start)
  unfolding result_parts
  result_parts_exact start = bind _ _ (omitted_or_exact) (λ v0. bind _ _ (second_part_exact) (λ v1. bind _ _ (token_exact k.CloseAngle) (λ v2. pure_exact _)))

  pub result_parts_takes : (start : SourceSpan) → Takes (result_parts inner start)
  unfolding result_parts
  result_parts_takes start = bind_takes _ _ (omitted_or_takes) (λ v0. bind_keeps _ _ (second_part_keeps) (λ v1. bind_keeps _ _ (still_keeps _ (token_takes k.CloseAngle)) (λ v2. pure_keeps _)))

  pub result_ty_exact : Exact (result_ty inner)
  unfolding result_ty
  result_ty_exact = bind _ _ (token_exact k.ResultKeyword) (λ v0. bind _ _ (optional_exact k.OpenAngle) (λ v1. choose_exact v1 _ _ (result_parts_exact v0) (pure_exact _)))

  pub result_ty_takes : Takes (result_ty inner)
  unfolding result_ty
  result_ty_takes = bind_takes _ _ (token_takes k.ResultKeyword) (λ v0. bind_keeps _ _ (optional_keeps k.OpenAngle) (λ v1. choose_keeps v1 _ _ (still_keeps _ (result_parts_takes v0)) (pure_keeps _)))

  pub payload_exact : (start : SourceSpan) → Exact (payload inner start)
  unfolding payload
  payload_exact start = bind _ _ (optional_exact k.OpenAngle) (λ v0. choose_exact v0 _ _ (bind _ _ (exact) (λ v1. bind _ _ (token_exact k.CloseAngle) (λ v2. pure_exact _))) (pure_exact _))

  pub payload_keeps : (start : SourceSpan) → Keeps (payload inner start)
  unfolding payload
  payload_keeps start = bind_keeps _ _ (optional_keeps k.OpenAngle) (λ v0. choose_keeps v0 _ _ (bind_keeps _ _ (still_keeps _ (takes)) (λ v1. bind_keeps _ _ (still_keeps _ (token_takes k.CloseAngle)) (λ v2. pure_keeps _))) (pure_keeps _))

  pub stream_ty_exact : Exact (stream_ty inner)
  unfolding stream_ty
  stream_ty_exact = bind _ _ (token_exact k.StreamKeyword) (λ v0. bind _ _ (payload_exact v0) (λ v1. pure_exact _))

  pub stream_ty_takes : Takes (stream_ty inner)
  unfolding stream_ty
  stream_ty_takes = bind_takes _ _ (token_takes k.StreamKeyword) (λ v0. bind_keeps _ _ (payload_keeps v0) (λ v1. pure_keeps _))

  pub future_ty_exact : Exact (future_ty inner)
  unfolding future_ty
  future_ty_exact = bind _ _ (token_exact k.FutureKeyword) (λ v0. bind _ _ (payload_exact v0) (λ v1. pure_exact _))

  pub future_ty_takes : Takes (future_ty inner)
  unfolding future_ty
  future_ty_takes = bind_takes _ _ (token_takes k.FutureKeyword) (λ v0. bind_keeps _ _ (payload_keeps v0) (λ v1. pure_keeps _))

  pub composed_ty_exact : Exact (composed_ty inner)
  unfolding composed_ty
  composed_ty_exact = begin_exact k.TupleKeyword _ _ (tuple_ty_exact) (begin_exact k.ListKeyword _ _ (list_ty_exact) (begin_exact k.OptionKeyword _ _ (option_ty_exact) (begin_exact k.ResultKeyword _ _ (result_ty_exact) (begin_exact k.BorrowKeyword _ _ (borrow_ty_exact) (begin_exact k.StreamKeyword _ _ (stream_ty_exact) (begin_exact k.FutureKeyword _ _ (future_ty_exact) (begin_exact k.Ident _ _ (bind _ _ (ident_exact) (λ v0. pure_exact _)) (refuse_exact _))))))))

  pub composed_ty_takes : Takes (composed_ty inner)
  unfolding composed_ty
  composed_ty_takes = begin_takes k.TupleKeyword _ _ (tuple_ty_takes) (begin_takes k.ListKeyword _ _ (list_ty_takes) (begin_takes k.OptionKeyword _ _ (option_ty_takes) (begin_takes k.ResultKeyword _ _ (result_ty_takes) (begin_takes k.BorrowKeyword _ _ (borrow_ty_takes) (begin_takes k.StreamKeyword _ _ (stream_ty_takes) (begin_takes k.FutureKeyword _ _ (future_ty_takes) (begin_takes k.Ident _ _ (bind_takes _ _ (ident_takes) (λ v0. pure_keeps _)) (refuse_takes _))))))))

  keyword_or_exact : (o : Option (SourceSpan → t.Ty)) (k : Token) → Exact (keyword_or o k (composed_ty inner))
  keyword_or_exact None k = composed_ty_exact
  keyword_or_exact (Some make) k = bind _ _ (token_exact k) (λ span. pure_exact _)

  keyword_at_exact : (o : Option Token) → Exact (keyword_at o (composed_ty inner))
  keyword_at_exact None = composed_ty_exact
  keyword_at_exact (Some k) = keyword_or_exact (keyword_type k) k

  pub ty_level_exact : Exact (ty_level inner)
  unfolding ty_level keyword_type_or
  ty_level_exact = bind _ _ (look_exact next_token) keyword_at_exact

  keyword_or_takes : (o : Option (SourceSpan → t.Ty)) (k : Token) → Takes (keyword_or o k (composed_ty inner))
  keyword_or_takes None k = composed_ty_takes
  keyword_or_takes (Some make) k = bind_takes _ _ (token_takes k) (λ span. pure_keeps _)

  keyword_at_takes : (o : Option Token) → Takes (keyword_at o (composed_ty inner))
  keyword_at_takes None = composed_ty_takes
  keyword_at_takes (Some k) = keyword_or_takes (keyword_type k) k

  pub ty_level_takes : Takes (ty_level inner)
  unfolding ty_level keyword_type_or
  ty_level_takes = then_takes _ _ (look_keeps next_token) keyword_at_takes

-- where a type is one keyword, a type begins
keyword_first : (k : Token) (make : SourceSpan → t.Ty) → keyword_type k ≡ Some make → is_any type_first (Some k) ≡ true
unfolding same_token
keyword_first k.U8Keyword make e = refl
keyword_first k.S8Keyword make e = refl
keyword_first k.U16Keyword make e = refl
keyword_first k.S16Keyword make e = refl
keyword_first k.U32Keyword make e = refl
keyword_first k.S32Keyword make e = refl
keyword_first k.U64Keyword make e = refl
keyword_first k.S64Keyword make e = refl
keyword_first k.F32Keyword make e = refl
keyword_first k.F64Keyword make e = refl
keyword_first k.CharKeyword make e = refl
keyword_first k.BoolKeyword make e = refl
keyword_first k.StringKeyword make e = refl
keyword_first k.ErrorContextKeyword make e = refl
keyword_first _ make e = cc

-- what begins a composed type
composed_begins : (inner : Rule t.Ty) → Begins type_first (composed_ty inner)
unfolding composed_ty
composed_begins inner =
    skip k.U8Keyword _ _ (skip k.S8Keyword _ _ (skip k.U16Keyword _ _ (skip k.S16Keyword _ _ (skip k.U32Keyword _ _ (skip k.S32Keyword _ _ (skip k.U64Keyword _ _ (skip k.S64Keyword _ _
    (skip k.F32Keyword _ _ (skip k.F64Keyword _ _ (skip k.CharKeyword _ _ (skip k.BoolKeyword _ _ (skip k.StringKeyword _ _
    (begin_begins k.TupleKeyword _ _ _ (begin_begins k.ListKeyword _ _ _ (begin_begins k.OptionKeyword _ _ _ (begin_begins k.ResultKeyword _ _ _ (begin_begins k.BorrowKeyword _ _ _
    (begin_begins k.StreamKeyword _ _ _ (begin_begins k.FutureKeyword _ _ _ (skip k.ErrorContextKeyword _ _ (begin_begins k.Ident _ _ _ (refuse_begins _ _))))))))))))))))))))))

keyword_at_begins : (inner : Rule t.Ty) (s : Input) (x : t.Ty) (r : Input) (o : Option Token) (m : Option (SourceSpan → t.Ty)) (k : Token) → o ≡ Some k → keyword_type k ≡ m → o ≡ next_token s → (keyword_or m k (composed_ty inner)).Is x s r → sees_any type_first s ≡ true
unfolding sees_any
keyword_at_begins inner s x r o None k e f g h = (composed_begins inner).begins s x r h
keyword_at_begins inner s x r o (Some make) k e f g h = ap (is_any type_first) (sym g ∙ e) ∙ keyword_first k make f

next_begins : (inner : Rule t.Ty) (s : Input) (x : t.Ty) (r : Input) (o : Option Token) → o ≡ next_token s → (keyword_at o (composed_ty inner)).Is x s r → sees_any type_first s ≡ true
next_begins inner s x r None g h = (composed_begins inner).begins s x r h
next_begins inner s x r (Some k) g h = keyword_at_begins inner s x r (Some k) (keyword_type k) k refl refl g h

ty_level_begins : (inner : Rule t.Ty) → Begins type_first (ty_level inner)
unfolding ty_level keyword_type_or
ty_level_begins inner = record {
  begins = λ s x r h.
      let P : Input → Type 0 = λ (m : Input). (keyword_at h.0 (composed_ty inner)).Is x m r in
      next_begins inner s x r h.0 h.2.0 (subst P h.2.1 h.3);
}

too_deep_exact : {X : Type 0} (first : List Token) → Exact (too_deep {X = X} first)
too_deep_exact first = begin_any_exact first _ _ (refuse_exact _) (refuse_exact _)

too_deep_takes : {X : Type 0} (first : List Token) → Takes (too_deep {X = X} first)
too_deep_takes first = begin_any_takes first _ _ (refuse_takes _) (refuse_takes _)

pub too_deep_begins : {X : Type 0} (first : List Token) → Begins first (too_deep {X = X} first)
too_deep_begins first = record { begins = λ s y r h. elim h.3 [ inl w ↦ absurd w.1 | inr w ↦ absurd w.1 ] }

mutual
  unfolding ty

  pub ty_exact : (n : ℕ) → Exact (ty n)
  ty_exact zero = too_deep_exact type_first
  ty_exact (suc n) = ty_level_exact (ty n) (ty_exact n) (ty_takes n) (ty_begins n)

  pub ty_takes : (n : ℕ) → Takes (ty n)
  ty_takes zero = too_deep_takes type_first
  ty_takes (suc n) = ty_level_takes (ty n) (ty_exact n) (ty_takes n) (ty_begins n)

  pub ty_begins : (n : ℕ) → Begins type_first (ty n)
  ty_begins zero = too_deep_begins type_first
  ty_begins (suc n) = ty_level_begins (ty n)

pub value_type_exact : Exact value_type
unfolding value_type
value_type_exact = ty_exact 128

pub value_type_takes : Takes value_type
unfolding value_type
value_type_takes = ty_takes 128

pub value_type_begins : Begins type_first value_type
unfolding value_type
value_type_begins = ty_begins 128

pub named_type_exact : Exact named_type
unfolding named_type
named_type_exact = bind _ _ (ident_exact) (λ v0. bind _ _ (token_exact k.Colon) (λ v1. bind _ _ (value_type_exact) (λ v2. pure_exact _)))

pub named_type_takes : Takes named_type
unfolding named_type
named_type_takes = bind_takes _ _ (ident_takes) (λ v0. bind_keeps _ _ (still_keeps _ (token_takes k.Colon)) (λ v1. bind_keeps _ _ (still_keeps _ (value_type_takes)) (λ v2. pure_keeps _)))

pub named_type_begins : Begins (k.Ident ∷ []) named_type
unfolding named_type
named_type_begins = bind_begins _ _ _ (ident_begins)

pub result_list_exact : Exact result_list
unfolding result_list
result_list_exact = begin_any_exact type_first _ _ (bind _ _ (value_type_exact) (λ v0. pure_exact _)) (pure_exact _)

pub result_list_keeps : Keeps result_list
unfolding result_list
result_list_keeps = begin_any_keeps type_first _ _ (bind_keeps _ _ (still_keeps _ (value_type_takes)) (λ v0. pure_keeps _)) (pure_keeps _)

pub func_results_exact : Exact func_results
unfolding func_results
func_results_exact = bind _ _ (optional_exact k.Arrow) (λ v0. choose_exact v0 _ _ (result_list_exact) (pure_exact _))

pub func_results_keeps : Keeps func_results
unfolding func_results
func_results_keeps = bind_keeps _ _ (optional_keeps k.Arrow) (λ v0. choose_keeps v0 _ _ (result_list_keeps) (pure_keeps _))

pub func_params_exact : Exact func_params
unfolding func_params
func_params_exact = bind _ _ (token_exact k.OpenParen) (λ v0. bind _ _ (list_exact named_type (k.Ident ∷ []) k.CloseParen true named_type_exact named_type_begins named_type_takes) (λ v1. bind _ _ (token_exact k.CloseParen) (λ v2. pure_exact _)))

pub func_params_takes : Takes func_params
unfolding func_params
func_params_takes = bind_takes _ _ (token_takes k.OpenParen) (λ v0. bind_keeps _ _ (list_keeps named_type (k.Ident ∷ []) k.CloseParen true named_type_exact named_type_begins named_type_takes) (λ v1. bind_keeps _ _ (still_keeps _ (token_takes k.CloseParen)) (λ v2. pure_keeps _)))

pub func_type_exact : Exact func_type
unfolding func_type
func_type_exact = bind _ _ (optional_exact k.AsyncKeyword) (λ v0. bind _ _ (token_exact k.FuncKeyword) (λ v1. bind _ _ (func_params_exact) (λ v2. bind _ _ (func_results_exact) (λ v3. pure_exact _))))

pub func_type_takes : Takes func_type
unfolding func_type
func_type_takes = then_takes _ _ (optional_keeps k.AsyncKeyword) (λ v0. bind_takes _ _ (token_takes k.FuncKeyword) (λ v1. bind_keeps _ _ (still_keeps _ (func_params_takes)) (λ v2. bind_keeps _ _ (func_results_keeps) (λ v3. pure_keeps _))))

pub func_type_begins : Begins func_first func_type
unfolding func_type
func_type_begins = optional_begins k.AsyncKeyword (k.FuncKeyword ∷ []) _ (λ v0. bind_begins _ _ _ (token_begins k.FuncKeyword []))

pub func_type_ref_exact : Exact func_type_ref
unfolding func_type_ref
func_type_ref_exact = begin_any_exact func_first _ _ (bind _ _ (func_type_exact) (λ v0. pure_exact _)) (begin_exact k.Ident _ _ (bind _ _ (ident_exact) (λ v0. pure_exact _)) (refuse_exact _))

pub func_type_ref_takes : Takes func_type_ref
unfolding func_type_ref
func_type_ref_takes = begin_any_takes func_first _ _ (bind_takes _ _ (func_type_takes) (λ v0. pure_keeps _)) (begin_takes k.Ident _ _ (bind_takes _ _ (ident_takes) (λ v0. pure_keeps _)) (refuse_takes _))
