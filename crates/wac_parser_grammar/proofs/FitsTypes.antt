-- What the rules of types and functions take is nested no deeper than they have room for.
use Rattle.std.proofs.Common.{◌≡◌, ℕ, zero, suc, ◌≤◌, inl, inr, Bool, true, List, [], ◌∷◌, Option, Some, None, refl, subst, arith}
use Rattle.std.proofs.lemmas.Option.{same_Some}
use Rattle.std.proofs.Math.Nat.{max-le}
use Rattle.wac_parser_lexer.specs.declared.span.SourceSpan.{SourceSpan}
use Rattle.wac_parser_lexer.specs.declared.token.Token.{Token}
use Rattle.wac_parser_lexer.specs.declared.token.Token.TheVariants as k
use Rattle.wac_parser_lexer.specs.Items.{Input}
use Rattle.wac_parser_tree.specs.Trees as t
use Rattle.wac_parser_grammar.specs.Faults.{Fault}
use Rattle.wac_parser_grammar.specs.Rules.{Rule, ◌>>=◌, pure, refuse, begin, begin_any, IsListOf, IsAll}
use Rattle.wac_parser_grammar.specs.Names as n
use Rattle.wac_parser_grammar.specs.ValueTypes as v
use Rattle.wac_parser_grammar.specs.FormDepths.{levels, levels_of, levels_in, AllFit, NamedFits, ResultsFit, FuncFits, RefFits, IsFitting}

-- ---- rules

pub pure_fits : {X : Type 0} (c : X) (Fits : X → Type 0) → Fits c → IsFitting (pure c) Fits
pure_fits c Fits f = record { fits = λ s x r h. rw (h.0) f }

pub refuse_fits : {X : Type 0} (fault : Input → Fault) (Fits : X → Type 0) → IsFitting (refuse fault) Fits
refuse_fits fault Fits = record { fits = λ s x r h. absurd h }

-- a value made of another
pub made_fits : {A X : Type 0} (p : Rule A) (c : A → X) (Fits : X → Type 0) → IsFitting p (λ a. Fits (c a)) → IsFitting (p >>= (λ a. pure (c a))) Fits
made_fits p c Fits b = record { fits = λ s x r h. rw (h.3.0) (b.fits s h.0 h.1 h.2) }

-- a value made of another always fits
pub made_always : {A X : Type 0} (p : Rule A) (c : A → X) (Fits : X → Type 0) → ((a : A) → Fits (c a)) → IsFitting (p >>= (λ a. pure (c a))) Fits
made_always p c Fits f = record { fits = λ s x r h. rw (h.3.0) (f h.0) }

pub begin_fits : {X : Type 0} (k : Token) (p q : Rule X) (Fits : X → Type 0) → IsFitting p Fits → IsFitting q Fits → IsFitting (begin k p q) Fits
begin_fits k p q Fits a b = record { fits = λ s x r h. elim h.3 [ inl c ↦ a.fits h.1 x r c.1 | inr c ↦ b.fits h.1 x r c.1 ] }

pub begin_any_fits : {X : Type 0} (ks : List Token) (p q : Rule X) (Fits : X → Type 0) → IsFitting p Fits → IsFitting q Fits → IsFitting (begin_any ks p q) Fits
begin_any_fits ks p q Fits a b = record { fits = λ s x r h. elim h.3 [ inl c ↦ a.fits h.1 x r c.1 | inr c ↦ b.fits h.1 x r c.1 ] }

module _ {X : Type 0} (p : Rule X) (Fits : X → Type 0) (b : IsFitting p Fits) where
  pub list_fits : (until : Token) (commas : Bool) (xs : List X) (s r : Input) → IsListOf p.Is until commas xs s r → AllFit Fits xs
  list_fits until commas [] s r h = tt
  list_fits until commas (x ∷ xs) s r h = (b.fits s x h.1 h.2, list_fits until commas xs h.3 r h.5)

  pub all_fit : (xs : List X) (s r : Input) → IsAll p.Is xs s r → AllFit Fits xs
  all_fit [] s r h = tt
  all_fit (x ∷ xs) s r h = (b.fits s x h.0 h.1, all_fit xs h.0 r h.2)

-- ---- types

abbrev TyFits : ℕ → t.Ty → Type 0
TyFits depth x = levels x ≤ depth

listed_levels : (depth : ℕ) (xs : List t.Ty) → AllFit (TyFits depth) xs → levels_of (t.tys xs) ≤ depth
listed_levels depth [] f = omega arith
listed_levels depth (x ∷ xs) f = max-le f.0 (listed_levels depth xs f.1)

one_level : (c make : SourceSpan → t.Ty) (span : SourceSpan) → Some c ≡ Some make → levels (c span) ≡ 1 → levels (make span) ≡ 1
one_level c make span h f = let P : (SourceSpan → t.Ty) → Type 0 = λ (z : SourceSpan → t.Ty). levels (z span) ≡ 1 in subst P (same_Some _ _ h) f

-- a type that is one keyword is one level
keyword_levels : (l : Token) (make : SourceSpan → t.Ty) (span : SourceSpan) → v.keyword_type l ≡ Some make → levels (make span) ≡ 1
keyword_levels k.U8Keyword make span h = one_level t.Ty.u8 make span h refl
keyword_levels k.S8Keyword make span h = one_level t.Ty.s8 make span h refl
keyword_levels k.U16Keyword make span h = one_level t.Ty.u16 make span h refl
keyword_levels k.S16Keyword make span h = one_level t.Ty.s16 make span h refl
keyword_levels k.U32Keyword make span h = one_level t.Ty.u32 make span h refl
keyword_levels k.S32Keyword make span h = one_level t.Ty.s32 make span h refl
keyword_levels k.U64Keyword make span h = one_level t.Ty.u64 make span h refl
keyword_levels k.S64Keyword make span h = one_level t.Ty.s64 make span h refl
keyword_levels k.F32Keyword make span h = one_level t.Ty.f32 make span h refl
keyword_levels k.F64Keyword make span h = one_level t.Ty.f64 make span h refl
keyword_levels k.CharKeyword make span h = one_level t.Ty.char make span h refl
keyword_levels k.BoolKeyword make span h = one_level t.Ty.bool make span h refl
keyword_levels k.StringKeyword make span h = one_level t.Ty.string make span h refl
keyword_levels k.ErrorContextKeyword make span h = one_level t.Ty.error_context make span h refl
keyword_levels _ make span h = cc

module _ (depth : ℕ) (inner : Rule t.Ty) (inside : IsFitting inner (TyFits depth)) where
  abbrev Room : t.Ty → Type 0
  Room x = levels x ≤ suc depth

  abbrev InsideFits : t.MaybeTy → Type 0
  InsideFits x = levels_in x ≤ depth

  borrow_fits : IsFitting v.borrow_ty Room
  unfolding v.borrow_ty
  borrow_fits = record { fits = λ s x r h. rw (h.3.3.3.3.0) (omega arith) }

  tuple_fits : IsFitting (v.tuple_ty inner) Room
  unfolding v.tuple_ty
  tuple_fits = record {
    fits = λ s x r h. elim h.3.3.2.3 [
      | inl c ↦ (let few = listed_levels depth h.3.3.0 (list_fits inner (TyFits depth) inside k.CloseAngle true h.3.3.0 h.3.3.2.1 h.3.3.1 c.1) in rw (h.3.3.3.3.0) (omega (arith, few)))
      | inr c ↦ absurd c.1
    ];
  }

  list_ty_fits : IsFitting (v.list_ty inner) Room
  unfolding v.list_ty
  list_ty_fits = record { fits = λ s x r h. let few = inside.fits h.3.1 h.3.3.0 h.3.3.1 h.3.3.2 in rw (h.3.3.3.3.0) (omega (arith, few)) }

  option_fits : IsFitting (v.option_ty inner) Room
  unfolding v.option_ty
  option_fits = record { fits = λ s x r h. let few = inside.fits h.3.1 h.3.3.0 h.3.3.1 h.3.3.2 in rw (h.3.3.3.3.0) (omega (arith, few)) }

  no_ty_fits : InsideFits t.MaybeTy.no_ty
  no_ty_fits = omega arith

  omitted_fits : IsFitting (v.omitted_or inner) InsideFits
  unfolding v.omitted_or
  omitted_fits =
      begin_fits k.Underscore _ _ InsideFits (record { fits = λ s x r h. rw (h.3.0) no_ty_fits })
      (begin_any_fits v.type_first _ _ InsideFits (made_fits inner t.MaybeTy.some_ty InsideFits (record { fits = inside.fits })) (refuse_fits _ InsideFits))

  second_fits : IsFitting (v.second_part inner) InsideFits
  unfolding v.second_part
  second_fits = record { fits = λ s x r h. elim h.3 [ inl c ↦ omitted_fits.fits h.1 x r c.1 | inr c ↦ rw (c.1.0) no_ty_fits ] }

  parts_fit : (start : SourceSpan) → IsFitting (v.result_parts inner start) Room
  unfolding v.result_parts
  parts_fit start = record {
    fits = λ s x r h.
        let few = max-le (omitted_fits.fits s h.0 h.1 h.2) (second_fits.fits h.1 h.3.0 h.3.1 h.3.2) in
        rw (h.3.3.3.0) (omega (arith, few));
  }

  result_fits : IsFitting (v.result_ty inner) Room
  unfolding v.result_ty
  result_fits = record { fits = λ s x r h. elim h.3.3 [ inl c ↦ (parts_fit h.0).fits h.3.1 x r c.1 | inr c ↦ rw (c.1.0) (omega arith) ] }

  payload_fits : (start : SourceSpan) → IsFitting (v.payload inner start) (λ x. InsideFits x.0)
  unfolding v.payload
  payload_fits start = record { fits = λ s x r h. elim h.3 [ inl c ↦ rw (c.1.3.3.0) (inside.fits h.1 c.1.0 c.1.1 c.1.2) | inr c ↦ rw (c.1.0) no_ty_fits ] }

  stream_fits : IsFitting (v.stream_ty inner) Room
  unfolding v.stream_ty
  stream_fits = record { fits = λ s x r h. let few = (payload_fits h.0).fits h.1 h.3.0 h.3.1 h.3.2 in rw (h.3.3.0) (omega (arith, few)) }

  future_fits : IsFitting (v.future_ty inner) Room
  unfolding v.future_ty
  future_fits = record { fits = λ s x r h. let few = (payload_fits h.0).fits h.1 h.3.0 h.3.1 h.3.2 in rw (h.3.3.0) (omega (arith, few)) }

  one_fits : (x : t.Ty) → levels x ≡ 1 → Room x
  one_fits x h = omega (arith, h)

  composed_fits : IsFitting (v.composed_ty inner) Room
  unfolding v.composed_ty
  composed_fits =
      begin_fits k.TupleKeyword _ _ Room tuple_fits (begin_fits k.ListKeyword _ _ Room list_ty_fits (begin_fits k.OptionKeyword _ _ Room option_fits
      (begin_fits k.ResultKeyword _ _ Room result_fits (begin_fits k.BorrowKeyword _ _ Room borrow_fits (begin_fits k.StreamKeyword _ _ Room stream_fits
      (begin_fits k.FutureKeyword _ _ Room future_fits
      (begin_fits k.Ident _ _ Room (made_always n.ident t.Ty.ident Room (λ id. one_fits (t.Ty.ident id) refl)) (refuse_fits _ Room))))))))

  keyword_or_fits : (o : Option (SourceSpan → t.Ty)) (l : Token) → v.keyword_type l ≡ o → IsFitting (v.keyword_or o l (v.composed_ty inner)) Room
  keyword_or_fits None l h = composed_fits
  keyword_or_fits (Some make) l h = made_always _ make Room (λ span. one_fits (make span) (keyword_levels l make span h))

  keyword_at_fits : (o : Option Token) → IsFitting (v.keyword_at o (v.composed_ty inner)) Room
  keyword_at_fits None = composed_fits
  keyword_at_fits (Some l) = keyword_or_fits (v.keyword_type l) l refl

  level_fits : IsFitting (v.ty_level inner) Room
  unfolding v.ty_level v.keyword_type_or
  level_fits = record { fits = λ s x r h. (keyword_at_fits h.0).fits h.1 x r h.3 }

ty_fits : (depth : ℕ) → IsFitting (v.ty depth) (TyFits depth)
unfolding v.ty
ty_fits zero = begin_any_fits v.type_first _ _ (TyFits 0) (refuse_fits _ (TyFits 0)) (refuse_fits _ (TyFits 0))
ty_fits (suc depth) = record { fits = (level_fits depth (v.ty depth) (ty_fits depth)).fits }

pub value_type_fits : IsFitting v.value_type (λ x. levels x ≤ 128)
unfolding v.value_type
value_type_fits = record { fits = (ty_fits 128).fits }

-- ---- functions

pub named_type_fits : IsFitting v.named_type NamedFits
unfolding v.named_type
named_type_fits = record { fits = λ s x r h. rw (h.3.3.3.0) (value_type_fits.fits h.3.1 h.3.3.0 h.3.3.1 h.3.3.2) }

pub params_fit : IsFitting v.func_params (AllFit NamedFits)
unfolding v.func_params
params_fit = record { fits = λ s xs r h. rw (h.3.3.3.0) (list_fits v.named_type NamedFits named_type_fits k.CloseParen true h.3.0 h.1 h.3.1 h.3.2) }

result_list_fits : IsFitting v.result_list ResultsFit
unfolding v.result_list
result_list_fits =
    begin_any_fits v.type_first _ _ ResultsFit (made_fits v.value_type t.ResultList.scalar ResultsFit (record { fits = value_type_fits.fits }))
    (pure_fits t.ResultList.empty ResultsFit tt)

results_fit : IsFitting v.func_results ResultsFit
unfolding v.func_results
results_fit = record { fits = λ s x r h. elim h.3 [ inl c ↦ result_list_fits.fits h.1 x r c.1 | inr c ↦ rw (c.1.0) tt ] }

pub func_type_fits : IsFitting v.func_type FuncFits
unfolding v.func_type
func_type_fits = record {
  fits = λ s x r h. rw (h.3.3.3.3.0) (params_fit.fits h.3.1 h.3.3.0 h.3.3.1 h.3.3.2, results_fit.fits h.3.3.1 h.3.3.3.0 h.3.3.3.1 h.3.3.3.2);
}

pub func_type_ref_fits : IsFitting v.func_type_ref RefFits
unfolding v.func_type_ref
func_type_ref_fits =
    begin_any_fits v.func_first _ _ RefFits (made_fits v.func_type t.FuncTypeRef.func RefFits (record { fits = func_type_fits.fits }))
    (begin_fits k.Ident _ _ RefFits (made_always n.ident t.FuncTypeRef.ident RefFits (λ id. tt)) (refuse_fits _ RefFits))
