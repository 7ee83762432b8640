-- How types of values and of functions are written.
use Rattle.std.specs.Prelude.{◌≡◌, ℕ, zero, suc, ◌+◌, ◌-◌, true, List, [], ◌∷◌, Option, Some, None, Result, Ok, Err}
use Rattle.std.specs.Option.{option_map}
use Rattle.wac_parser_lexer.specs.declared.span.SourceSpan.{SourceSpan}
use Rattle.wac_parser_lexer.specs.declared.token.Token.{Token}
use Rattle.wac_parser_lexer.specs.declared.token.Token.TheVariants as k
use Rattle.wac_parser_lexer.specs.Items.{Input, first_item, rest_input}
use Rattle.wac_parser_lexer.specs.declared.error.Error.{Error}
use Rattle.wac_parser_tree.specs.Trees as t
use Rattle.wac_parser_grammar.specs.Faults.{nested_too_deep}
use Rattle.wac_parser_grammar.specs.Ahead.{next_token, none_of}
use Rattle.wac_parser_grammar.specs.Rules.{Rule, ◌>>=◌, ◌>>◌, pure, refuse, token, look, choose, begin, begin_any, optional, list_of, span_of_items}
use Rattle.wac_parser_grammar.specs.Names.{ident}

-- from the start of one span to the end of another
abbrev pub through : SourceSpan → SourceSpan → SourceSpan
through a b = record { offset = a.offset; length = (b.offset + b.length) - a.offset }

-- the tokens with which a type begins
abbrev pub type_first : List Token
type_first = k.U8Keyword ∷ k.S8Keyword ∷ k.U16Keyword ∷ k.S16Keyword ∷ k.U32Keyword ∷ k.S32Keyword ∷ k.U64Keyword ∷ k.S64Keyword
    ∷ k.F32Keyword ∷ k.F64Keyword
    ∷ k.CharKeyword ∷ k.BoolKeyword ∷ k.StringKeyword ∷ k.TupleKeyword ∷ k.ListKeyword ∷ k.OptionKeyword ∷ k.ResultKeyword
    ∷ k.BorrowKeyword ∷ k.StreamKeyword ∷ k.FutureKeyword
    ∷ k.ErrorContextKeyword ∷ k.Ident ∷ []

abbrev pub func_first : List Token
func_first = k.AsyncKeyword ∷ k.FuncKeyword ∷ []

-- nothing begins here, since the depth is spent
abbrev pub too_deep : {X : Type 0} → List Token → Rule X
too_deep first = begin_any first (refuse (λ s. nested_too_deep (span_of_items s.items))) (refuse (none_of first))

-- the types that are one keyword
abbrev pub keyword_type : Token → Option (SourceSpan → t.Ty)
keyword_type k.U8Keyword = Some t.Ty.u8
keyword_type k.S8Keyword = Some t.Ty.s8
keyword_type k.U16Keyword = Some t.Ty.u16
keyword_type k.S16Keyword = Some t.Ty.s16
keyword_type k.U32Keyword = Some t.Ty.u32
keyword_type k.S32Keyword = Some t.Ty.s32
keyword_type k.U64Keyword = Some t.Ty.u64
keyword_type k.S64Keyword = Some t.Ty.s64
keyword_type k.F32Keyword = Some t.Ty.f32
keyword_type k.F64Keyword = Some t.Ty.f64
keyword_type k.CharKeyword = Some t.Ty.char
keyword_type k.BoolKeyword = Some t.Ty.bool
keyword_type k.StringKeyword = Some t.Ty.string
keyword_type k.ErrorContextKeyword = Some t.Ty.error_context
keyword_type _ = None

abbrev pub keyword_or : Option (SourceSpan → t.Ty) → Token → Rule t.Ty → Rule t.Ty
keyword_or None k p = p
keyword_or (Some make) k p = token k >>= λ span. pure (make span)

abbrev pub keyword_at : Option Token → Rule t.Ty → Rule t.Ty
keyword_at None p = p
keyword_at (Some k) p = keyword_or (keyword_type k) k p

-- the type that an item is by itself
abbrev pub keyword_made : Option (Result Token Error × SourceSpan) → Option t.Ty
keyword_made None = None
keyword_made (Some (Ok k, span)) = option_map (λ make. make span) (keyword_type k)
keyword_made (Some (Err e, span)) = None

-- the type that the next item is by itself is taken, or nothing
abbrev pub TakesKeyword : Option t.Ty → Input → Input → Type 0
TakesKeyword None old new = (keyword_made (first_item old) ≡ None) × (new ≡ old)
TakesKeyword (Some ty) old new = (keyword_made (first_item old) ≡ Some ty) × (new ≡ rest_input old)

-- a keyword that is a type, where one comes next, and else another rule
unfoldable pub keyword_type_or : Rule t.Ty → Rule t.Ty
keyword_type_or p = look next_token >>= λ next. keyword_at next p

unfoldable pub borrow_ty : Rule t.Ty
borrow_ty = do
  start ← token k.BorrowKeyword
  token k.OpenAngle
  id ← ident
  close ← token k.CloseAngle
  pure (t.Ty.borrow id (through start close))

module _ (inner : Rule t.Ty) where
  -- one or more types
  unfoldable pub tuple_ty : Rule t.Ty
  tuple_ty = do
    start ← token k.TupleKeyword
    token k.OpenAngle
    types ← begin_any type_first (list_of inner type_first k.CloseAngle true) (refuse (none_of type_first))
    close ← token k.CloseAngle
    pure (t.Ty.tuple (t.tys types) (through start close))

  unfoldable pub list_ty : Rule t.Ty
  list_ty = do
    start ← token k.ListKeyword
    token k.OpenAngle
    ty ← inner
    close ← token k.CloseAngle
    pure (t.Ty.list ty (through start close))

  unfoldable pub option_ty : Rule t.Ty
  option_ty = do
    start ← token k.OptionKeyword
    token k.OpenAngle
    ty ← inner
    close ← token k.CloseAngle
    pure (t.Ty.option ty (through start close))

  -- `_` or a type
  unfoldable pub omitted_or : Rule t.MaybeTy
  omitted_or =
      begin k.Underscore (token k.Underscore >> pure t.no_ty)
      (begin_any type_first (inner >>= λ ty. pure (t.some_ty ty)) (refuse (none_of (k.Underscore ∷ type_first))))

  unfoldable pub second_part : Rule t.MaybeTy
  second_part = optional k.Comma >>= λ found. choose found omitted_or (pure t.no_ty)

  unfoldable pub result_parts : SourceSpan → Rule t.Ty
  result_parts start = do
    ok ← omitted_or
    err ← second_part
    close ← token k.CloseAngle
    pure (t.Ty.result ok err (through start close))

  unfoldable pub result_ty : Rule t.Ty
  result_ty = do
    start ← token k.ResultKeyword
    found ← optional k.OpenAngle
    choose found (result_parts start) (pure (t.Ty.result t.no_ty t.no_ty start))

  -- behind a keyword: nothing, or a type in angles; and the span of all
  unfoldable pub payload : SourceSpan → Rule (t.MaybeTy × SourceSpan)
  payload start = do
    found ← optional k.OpenAngle
    choose found (inner >>= λ ty. token k.CloseAngle >>= λ close. pure (t.some_ty ty, through start close))
        (pure (t.no_ty, start))

  unfoldable pub stream_ty : Rule t.Ty
  stream_ty = do
    start ← token k.StreamKeyword
    p ← payload start
    pure (t.Ty.stream p.0 p.1)

  unfoldable pub future_ty : Rule t.Ty
  future_ty = do
    start ← token k.FutureKeyword
    p ← payload start
    pure (t.Ty.future p.0 p.1)

  unfoldable pub composed_ty : Rule t.Ty
  composed_ty =
      begin k.TupleKeyword tuple_ty
      (begin k.ListKeyword list_ty
      (begin k.OptionKeyword option_ty
      (begin k.ResultKeyword result_ty
      (begin k.BorrowKeyword borrow_ty
      (begin k.StreamKeyword stream_ty
      (begin k.FutureKeyword future_ty
      (begin k.Ident (ident >>= λ id. pure (t.Ty.ident id))
      (refuse (none_of type_first)))))))))

  unfoldable pub ty_level : Rule t.Ty
  ty_level = keyword_type_or composed_ty

-- a type nested no deeper than the number
unfoldable pub ty : ℕ → Rule t.Ty
ty zero = too_deep type_first
ty (suc n) = ty_level (ty n)

-- a type
unfoldable pub value_type : Rule t.Ty
value_type = ty 128

-- ---- functions

unfoldable pub named_type : Rule t.NamedType
named_type = do
  id ← ident
  token k.Colon
  ty ← value_type
  pure (record { id = id; ty = ty })

-- one type, or none where none begins
unfoldable pub result_list : Rule t.ResultList
result_list = begin_any type_first (value_type >>= λ ty. pure (t.ResultList.scalar ty)) (pure t.ResultList.empty)

unfoldable pub func_results : Rule t.ResultList
func_results = optional k.Arrow >>= λ found. choose found result_list (pure t.ResultList.empty)

-- parameters in parentheses
unfoldable pub func_params : Rule (List t.NamedType)
func_params = do
  token k.OpenParen
  params ← list_of named_type (k.Ident ∷ []) k.CloseParen true
  token k.CloseParen
  pure params

unfoldable pub func_type : Rule t.FuncType
func_type = do
  is_async ← optional k.AsyncKeyword
  token k.FuncKeyword
  params ← func_params
  results ← func_results
  pure (record { is_async = is_async; params = params; results = results })

unfoldable pub func_type_ref : Rule t.FuncTypeRef
func_type_ref =
    begin_any func_first (func_type >>= λ f. pure (t.FuncTypeRef.func f))
    (begin k.Ident (ident >>= λ id. pure (t.FuncTypeRef.ident id))
    (refuse (none_of (k.AsyncKeyword ∷ k.FuncKeyword ∷ k.Ident ∷ []))))
