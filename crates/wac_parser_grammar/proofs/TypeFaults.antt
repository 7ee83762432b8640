-- The faults of types stand in the source.
use Rattle.std.proofs.Common.{◌≡◌, ℕ, zero, suc, inl, true, false, List, [], ◌∷◌, ◌++◌, Option, Some, None, refl, ap, ◌∙◌, arith}
use Rattle.wac_parser_lexer.specs.declared.span.SourceSpan.{SourceSpan}
use Rattle.wac_parser_lexer.specs.declared.token.Token.{Token}
use Rattle.wac_parser_lexer.specs.declared.token.Token.TheVariants as k
use Rattle.wac_parser_lexer.specs.Items.{Input}
use Rattle.wac_parser_tree.specs.Trees as t
use Rattle.wac_parser_grammar.specs.Rules.{Rule}
use Rattle.wac_parser_grammar.proofs.Faithful.{Faithful, Any, anywhere, bind_faithful, pure_faithful, choose_faithful, none_both, refuse_faithful, token_faithful, begin_faithful, begin_any_faithful, optional_faithful}
use Rattle.wac_parser_grammar.proofs.FaithfulLists.{list_faithful}
use Rattle.wac_parser_grammar.specs.Ahead.{same_token, is_any, next_token, sees_any}
use Rattle.wac_parser_grammar.specs.ValueTypes.{type_first, func_first, keyword_type, keyword_or, keyword_at, keyword_type_or, tuple_ty, list_ty, option_ty, omitted_or, second_part, result_parts, result_ty, payload, stream_ty, future_ty, borrow_ty, composed_ty, ty_level, ty, value_type, named_type, result_list, func_results, func_params, func_type, func_type_ref}
use Rattle.wac_parser_grammar.proofs.Exact.{Exact, Takes}
use Rattle.wac_parser_grammar.proofs.TypeLaws.{ty_exact, ty_takes, named_type_exact, named_type_takes}
use Rattle.wac_parser_grammar.proofs.Faithful.{Loose, FaithfulBy, narrow, none_left, none_right, none_is_any, too_deep_loose}
use Rattle.wac_parser_grammar.specs.Standing.{Saying, IsTooDeep}
use Rattle.wac_parser_grammar.proofs.TypeDepths.{ty_sinks}
use Rattle.wac_parser_grammar.proofs.DeepFaults.{deep_faithful}
use Rattle.wac_parser_grammar.proofs.NameFaults.{ident_faithful}

pub borrow_ty_faithful : {N : Saying} → FaithfulBy N Any borrow_ty
unfolding borrow_ty
borrow_ty_faithful = bind_faithful _ _ (token_faithful k.BorrowKeyword) (λ v0. bind_faithful _ _ (token_faithful k.OpenAngle) (λ v1. bind_faithful _ _ (ident_faithful) (λ v2. bind_faithful _ _ (token_faithful k.CloseAngle) (λ v3. pure_faithful _))))

-- the tokens that are types by themselves
abbrev keywords : List Token
keywords = k.U8Keyword ∷ k.S8Keyword ∷ k.U16Keyword ∷ k.S16Keyword ∷ k.U32Keyword ∷ k.S32Keyword ∷ k.U64Keyword ∷ k.S64Keyword ∷ k.F32Keyword ∷ k.F64Keyword ∷ k.CharKeyword ∷ k.BoolKeyword ∷ k.StringKeyword ∷ []

abbrev lone_keyword : List Token
lone_keyword = k.ErrorContextKeyword ∷ []

-- none of them comes next
abbrev NoKeyword : Input → Type 0
NoKeyword s = Unit {0} × (sees_any (keywords ++ lone_keyword) s ≡ false)

abbrev composed_first : List Token
composed_first = k.TupleKeyword ∷ k.ListKeyword ∷ k.OptionKeyword ∷ k.ResultKeyword ∷ k.BorrowKeyword ∷ k.StreamKeyword ∷ k.FutureKeyword ∷ []

no_type : (s : Input) → NoKeyword s → sees_any composed_first s ≡ false → sees_any (k.Ident ∷ []) s ≡ false → sees_any type_first s ≡ false
no_type s absent e f =
    none_both keywords (composed_first ++ lone_keyword ++ k.Ident ∷ []) s (none_left keywords lone_keyword s absent.1)
    (none_both composed_first (lone_keyword ++ k.Ident ∷ []) s e (none_both lone_keyword (k.Ident ∷ []) s (none_right keywords lone_keyword s absent.1) f))

no_keyword : (k : Token) → keyword_type k ≡ None → is_any (keywords ++ lone_keyword) (Some k) ≡ false
unfolding same_token
no_keyword k.U8Keyword e = cc
no_keyword k.S8Keyword e = cc
no_keyword k.U16Keyword e = cc
no_keyword k.S16Keyword e = cc
no_keyword k.U32Keyword e = cc
no_keyword k.S32Keyword e = cc
no_keyword k.U64Keyword e = cc
no_keyword k.S64Keyword e = cc
no_keyword k.F32Keyword e = cc
no_keyword k.F64Keyword e = cc
no_keyword k.CharKeyword e = cc
no_keyword k.BoolKeyword e = cc
no_keyword k.StringKeyword e = cc
no_keyword k.ErrorContextKeyword e = cc
no_keyword _ e = refl

module _ {N : Saying} (inner : Rule t.Ty) (exact : Exact inner) (takes : Takes inner) (faithful : FaithfulBy N Any inner) where
  pub tuple_ty_faithful : FaithfulBy N Any (tuple_ty inner)
  unfolding tuple_ty
  tuple_ty_faithful = bind_faithful _ _ (token_faithful k.TupleKeyword) (λ v0. bind_faithful _ _ (token_faithful k.OpenAngle) (λ v1. bind_faithful _ _ (begin_any_faithful type_first _ _ (list_faithful inner type_first k.CloseAngle true exact takes faithful) (refuse_faithful _ (λ s h. h.1))) (λ v2. bind_faithful _ _ (token_faithful k.CloseAngle) (λ v3. pure_faithful _))))

  pub list_ty_faithful : FaithfulBy N Any (list_ty inner)
  unfolding list_ty
  list_ty_faithful = bind_faithful _ _ (token_faithful k.ListKeyword) (λ v0. bind_faithful _ _ (token_faithful k.OpenAngle) (λ v1. bind_faithful _ _ (faithful) (λ v2. bind_faithful _ _ (token_faithful k.CloseAngle) (λ v3. pure_faithful _))))

  pub option_ty_faithful : FaithfulBy N Any (option_ty inner)
  unfolding option_ty
  option_ty_faithful = bind_faithful _ _ (token_faithful k.OptionKeyword) (λ v0. bind_faithful _ _ (token_faithful k.OpenAngle) (λ v1. bind_faithful _ _ (faithful) (λ v2. bind_faithful _ _ (token_faithful k.CloseAngle) (λ v3. pure_faithful _))))

  pub omitted_or_faithful : FaithfulBy N Any (omitted_or inner)
  unfolding omitted_or
  omitted_or_faithful = begin_faithful k.Underscore _ _ (bind_faithful _ _ (token_faithful k.Underscore) (λ v0. pure_faithful _)) (begin_any_faithful type_first _ _ (bind_faithful _ _ (anywhere (faithful)) (λ v0. pure_faithful _)) (refuse_faithful _ (λ s h. none_both _ _ _ h.0.1 h.1)))

  pub second_part_faithful : FaithfulBy N Any (second_part inner)
  unfolding second_part
  second_part_faithful = bind_faithful _ _ (optional_faithful k.Comma) (λ v0. choose_faithful v0 _ _ (omitted_or_faithful) (pure_faithful _))

  pub result_parts_faithful : (start : SourceSpan) → FaithfulBy N Any (result_parts inner start)
  unfolding result_parts
  result_parts_faithful start = bind_faithful _ _ (omitted_or_faithful) (λ v0. bind_faithful _ _ (second_part_faithful) (λ v1. bind_faithful _ _ (token_faithful k.CloseAngle) (λ v2. pure_faithful _)))

  pub result_ty_faithful : FaithfulBy N Any (result_ty inner)
  unfolding result_ty
  result_ty_faithful = bind_faithful _ _ (token_faithful k.ResultKeyword) (λ v0. bind_faithful _ _ (optional_faithful k.OpenAngle) (λ v1. choose_faithful v1 _ _ (result_parts_faithful v0) (pure_faithful _)))

  pub payload_faithful : (start : SourceSpan) → FaithfulBy N Any (payload inner start)
  unfolding payload
  payload_faithful start = bind_faithful _ _ (optional_faithful k.OpenAngle) (λ v0. choose_faithful v0 _ _ (bind_faithful _ _ (faithful) (λ v1. bind_faithful _ _ (token_faithful k.CloseAngle) (λ v2. pure_faithful _))) (pure_faithful _))

  pub stream_ty_faithful : FaithfulBy N Any (stream_ty inner)
  unfolding stream_ty
  stream_ty_faithful = bind_faithful _ _ (token_faithful k.StreamKeyword) (λ v0. bind_faithful _ _ (payload_faithful v0) (λ v1. pure_faithful _))

  pub future_ty_faithful : FaithfulBy N Any (future_ty inner)
  unfolding future_ty
  future_ty_faithful = bind_faithful _ _ (token_faithful k.FutureKeyword) (λ v0. bind_faithful _ _ (payload_faithful v0) (λ v1. pure_faithful _))

  pub composed_ty_faithful : FaithfulBy N NoKeyword (composed_ty inner)
  unfolding composed_ty
  composed_ty_faithful = begin_faithful k.TupleKeyword _ _ (anywhere (tuple_ty_faithful)) (begin_faithful k.ListKeyword _ _ (anywhere (list_ty_faithful)) (begin_faithful k.OptionKeyword _ _ (anywhere (option_ty_faithful)) (begin_faithful k.ResultKeyword _ _ (anywhere (result_ty_faithful)) (begin_faithful k.BorrowKeyword _ _ (anywhere (borrow_ty_faithful)) (begin_faithful k.StreamKeyword _ _ (anywhere (stream_ty_faithful)) (begin_faithful k.FutureKeyword _ _ (anywhere (future_ty_faithful)) (begin_faithful k.Ident _ _ (bind_faithful _ _ (anywhere (ident_faithful)) (λ v0. pure_faithful _)) (refuse_faithful _ (λ s h. no_type s h.0.0.0.0.0.0.0.0 (none_both _ _ _ h.0.0.0.0.0.0.0.1 (none_both _ _ _ h.0.0.0.0.0.0.1 (none_both _ _ _ h.0.0.0.0.0.1 (none_both _ _ _ h.0.0.0.0.1 (none_both _ _ _ h.0.0.0.1 (none_both _ _ _ h.0.0.1 h.0.1)))))) h.1)))))))))

  -- where the next token is this one
  abbrev Next : Option Token → Input → Type 0
  Next o s = next_token s ≡ o

  pub keyword_or_faithful : (o : Option (SourceSpan → t.Ty)) (k : Token) → keyword_type k ≡ o → FaithfulBy N (Next (Some k)) (keyword_or o k (composed_ty inner))
  unfolding sees_any
  keyword_or_faithful None k e = narrow (λ s n. (tt, ap (is_any (keywords ++ lone_keyword)) n ∙ no_keyword k e)) composed_ty_faithful
  keyword_or_faithful (Some make) k e = anywhere (bind_faithful _ _ (token_faithful k) (λ span. pure_faithful _))

  pub keyword_at_faithful : (o : Option Token) → FaithfulBy N (Next o) (keyword_at o (composed_ty inner))
  unfolding sees_any
  keyword_at_faithful None = narrow (λ s n. (tt, ap (is_any (keywords ++ lone_keyword)) n ∙ none_is_any (keywords ++ lone_keyword))) composed_ty_faithful
  keyword_at_faithful (Some k) = keyword_or_faithful (keyword_type k) k refl

  pub ty_level_faithful : FaithfulBy N Any (ty_level inner)
  unfolding ty_level keyword_type_or
  ty_level_faithful = record {
    goes = λ s x r c h. (keyword_at_faithful (next_token s)).goes s x r refl h;
    stands = λ s f c h. (keyword_at_faithful (next_token s)).stands s f refl h;
  }

-- whatever is said of nesting
ty_loose : (n : ℕ) → FaithfulBy (Loose (λ text. Unit {0})) Any (ty n)
unfolding ty
ty_loose zero = too_deep_loose type_first
ty_loose (suc n) = ty_level_faithful (ty n) (ty_exact n) (ty_takes n) (ty_loose n)

pub ty_faithful : (n : ℕ) → FaithfulBy (IsTooDeep n) Any (ty n)
ty_faithful n = deep_faithful {N = IsTooDeep n} (ty_loose n) (ty_sinks n 0 (omega arith)) (λ s span h. inl h)

pub value_type_faithful : Faithful Any value_type
unfolding value_type
value_type_faithful = ty_faithful 128

pub named_type_faithful : Faithful Any named_type
unfolding named_type
named_type_faithful = bind_faithful _ _ (ident_faithful) (λ v0. bind_faithful _ _ (token_faithful k.Colon) (λ v1. bind_faithful _ _ (value_type_faithful) (λ v2. pure_faithful _)))

pub result_list_faithful : Faithful Any result_list
unfolding result_list
result_list_faithful = begin_any_faithful type_first _ _ (bind_faithful _ _ (value_type_faithful) (λ v0. pure_faithful _)) (pure_faithful _)

pub func_results_faithful : Faithful Any func_results
unfolding func_results
func_results_faithful = bind_faithful _ _ (optional_faithful k.Arrow) (λ v0. choose_faithful v0 _ _ (result_list_faithful) (pure_faithful _))

pub func_params_faithful : Faithful Any func_params
unfolding func_params
func_params_faithful = bind_faithful _ _ (token_faithful k.OpenParen) (λ v0. bind_faithful _ _ (list_faithful named_type (k.Ident ∷ []) k.CloseParen true named_type_exact named_type_takes named_type_faithful) (λ v1. bind_faithful _ _ (token_faithful k.CloseParen) (λ v2. pure_faithful _)))

pub func_type_faithful : Faithful Any func_type
unfolding func_type
func_type_faithful = bind_faithful _ _ (optional_faithful k.AsyncKeyword) (λ v0. bind_faithful _ _ (token_faithful k.FuncKeyword) (λ v1. bind_faithful _ _ (func_params_faithful) (λ v2. bind_faithful _ _ (func_results_faithful) (λ v3. pure_faithful _))))

pub func_type_ref_faithful : Faithful Any func_type_ref
unfolding func_type_ref
func_type_ref_faithful = begin_any_faithful func_first _ _ (bind_faithful _ _ (func_type_faithful) (λ v0. pure_faithful _)) (begin_faithful k.Ident _ _ (bind_faithful _ _ (anywhere (ident_faithful)) (λ v0. pure_faithful _)) (refuse_faithful _ (λ s h. none_both _ _ _ h.0.1 h.1)))
