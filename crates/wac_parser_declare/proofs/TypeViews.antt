-- What the types of the code's trees are as plain data, form by form.
use Rattle.std.proofs.Common.{◌≡◌, [], map, Option, Some, None, sym, ap, subst, ◌∙◌, rules}
use Rattle.std.specs.declared.alloc.Global.{Global}
use Rattle.std.specs.declared.boxed.Box.{Box}
use Rattle.std.specs.declared.vec.Vec.{Vec}
use Rattle.wac_types_base.specs.declared.item.PrimitiveType.{PrimitiveType}
use Rattle.wac_types_base.specs.Collection as s
use Rattle.wac_types_base.specs.Stated.{Stated}
use Rattle.wac_parser_tree.specs.declared.text.Ident.{Ident}
use Rattle.wac_parser_tree.specs.declared.value_type.«Type».{«Type», U8 as U8Ty, S8 as S8Ty, U16 as U16Ty, S16 as S16Ty, U32 as U32Ty, S32 as S32Ty, U64 as U64Ty, S64 as S64Ty, F32 as F32Ty, F64 as F64Ty, Char as CharTy, Bool as BoolTy, String as StringTy, ErrorContext as ErrorContextTy, Tuple as TupleTy, List as ListTy, Option as OptionTy, Result as ResultTy, Borrow as BorrowTy, Stream as StreamTy, Future as FutureTy, Ident as IdentTy, the_lemmas}
use Rattle.wac_parser_tree.specs.Trees as t
use Rattle.wac_parser_tree.specs.Trees.{Span}
use Rattle.wac_parser_tree.specs.Views.{view_ident, view_ty}
use Rattle.wac_parser_refusals.specs.declared.refusal.Refusal.{Refusal}
use Rattle.wac_parser_refusals.specs.Causes.{Answer}
use Rattle.wac_parser_refusals.specs.Outcomes.{IsRefusal}
use Rattle.wac_parser_declare.proofs.Values.{some_refused}
use Rattle.wac_parser_declare.specs.Scope.{Scope}
use Rattle.wac_parser_declare.specs.Payloads.{boxed_payload}
use Rattle.wac_parser_declare.specs.ValueTypes.{value, values, maybe_value, value_named, borrow_named, of_one, of_maybe, of_two, of_all, primitive}

by_u8 : (x : Span) → view_ty (U8Ty x) ≡ t.Ty.u8 x
by_u8 x = search (rules, the_lemmas)

pub at_u8 : (ns : Scope) (P : Answer Stated → Type 0) (ty : «Type») (x : Span) → ty ≡ U8Ty x → P (primitive PrimitiveType.U8) → P (value ns (view_ty ty))
at_u8 ns P ty x e h = subst (λ (m : t.Ty). P (value ns m)) (sym (ap view_ty e ∙ by_u8 x)) h

by_s8 : (x : Span) → view_ty (S8Ty x) ≡ t.Ty.s8 x
by_s8 x = search (rules, the_lemmas)

pub at_s8 : (ns : Scope) (P : Answer Stated → Type 0) (ty : «Type») (x : Span) → ty ≡ S8Ty x → P (primitive PrimitiveType.S8) → P (value ns (view_ty ty))
at_s8 ns P ty x e h = subst (λ (m : t.Ty). P (value ns m)) (sym (ap view_ty e ∙ by_s8 x)) h

by_u16 : (x : Span) → view_ty (U16Ty x) ≡ t.Ty.u16 x
by_u16 x = search (rules, the_lemmas)

pub at_u16 : (ns : Scope) (P : Answer Stated → Type 0) (ty : «Type») (x : Span) → ty ≡ U16Ty x → P (primitive PrimitiveType.U16) → P (value ns (view_ty ty))
at_u16 ns P ty x e h = subst (λ (m : t.Ty). P (value ns m)) (sym (ap view_ty e ∙ by_u16 x)) h

by_s16 : (x : Span) → view_ty (S16Ty x) ≡ t.Ty.s16 x
by_s16 x = search (rules, the_lemmas)

pub at_s16 : (ns : Scope) (P : Answer Stated → Type 0) (ty : «Type») (x : Span) → ty ≡ S16Ty x → P (primitive PrimitiveType.S16) → P (value ns (view_ty ty))
at_s16 ns P ty x e h = subst (λ (m : t.Ty). P (value ns m)) (sym (ap view_ty e ∙ by_s16 x)) h

by_u32 : (x : Span) → view_ty (U32Ty x) ≡ t.Ty.u32 x
by_u32 x = search (rules, the_lemmas)

pub at_u32 : (ns : Scope) (P : Answer Stated → Type 0) (ty : «Type») (x : Span) → ty ≡ U32Ty x → P (primitive PrimitiveType.U32) → P (value ns (view_ty ty))
at_u32 ns P ty x e h = subst (λ (m : t.Ty). P (value ns m)) (sym (ap view_ty e ∙ by_u32 x)) h

by_s32 : (x : Span) → view_ty (S32Ty x) ≡ t.Ty.s32 x
by_s32 x = search (rules, the_lemmas)

pub at_s32 : (ns : Scope) (P : Answer Stated → Type 0) (ty : «Type») (x : Span) → ty ≡ S32Ty x → P (primitive PrimitiveType.S32) → P (value ns (view_ty ty))
at_s32 ns P ty x e h = subst (λ (m : t.Ty). P (value ns m)) (sym (ap view_ty e ∙ by_s32 x)) h

by_u64 : (x : Span) → view_ty (U64Ty x) ≡ t.Ty.u64 x
by_u64 x = search (rules, the_lemmas)

pub at_u64 : (ns : Scope) (P : Answer Stated → Type 0) (ty : «Type») (x : Span) → ty ≡ U64Ty x → P (primitive PrimitiveType.U64) → P (value ns (view_ty ty))
at_u64 ns P ty x e h = subst (λ (m : t.Ty). P (value ns m)) (sym (ap view_ty e ∙ by_u64 x)) h

by_s64 : (x : Span) → view_ty (S64Ty x) ≡ t.Ty.s64 x
by_s64 x = search (rules, the_lemmas)

pub at_s64 : (ns : Scope) (P : Answer Stated → Type 0) (ty : «Type») (x : Span) → ty ≡ S64Ty x → P (primitive PrimitiveType.S64) → P (value ns (view_ty ty))
at_s64 ns P ty x e h = subst (λ (m : t.Ty). P (value ns m)) (sym (ap view_ty e ∙ by_s64 x)) h

by_f32 : (x : Span) → view_ty (F32Ty x) ≡ t.Ty.f32 x
by_f32 x = search (rules, the_lemmas)

pub at_f32 : (ns : Scope) (P : Answer Stated → Type 0) (ty : «Type») (x : Span) → ty ≡ F32Ty x → P (primitive PrimitiveType.F32) → P (value ns (view_ty ty))
at_f32 ns P ty x e h = subst (λ (m : t.Ty). P (value ns m)) (sym (ap view_ty e ∙ by_f32 x)) h

by_f64 : (x : Span) → view_ty (F64Ty x) ≡ t.Ty.f64 x
by_f64 x = search (rules, the_lemmas)

pub at_f64 : (ns : Scope) (P : Answer Stated → Type 0) (ty : «Type») (x : Span) → ty ≡ F64Ty x → P (primitive PrimitiveType.F64) → P (value ns (view_ty ty))
at_f64 ns P ty x e h = subst (λ (m : t.Ty). P (value ns m)) (sym (ap view_ty e ∙ by_f64 x)) h

by_char : (x : Span) → view_ty (CharTy x) ≡ t.Ty.char x
by_char x = search (rules, the_lemmas)

pub at_char : (ns : Scope) (P : Answer Stated → Type 0) (ty : «Type») (x : Span) → ty ≡ CharTy x → P (primitive PrimitiveType.Char) → P (value ns (view_ty ty))
at_char ns P ty x e h = subst (λ (m : t.Ty). P (value ns m)) (sym (ap view_ty e ∙ by_char x)) h

by_bool : (x : Span) → view_ty (BoolTy x) ≡ t.Ty.bool x
by_bool x = search (rules, the_lemmas)

pub at_bool : (ns : Scope) (P : Answer Stated → Type 0) (ty : «Type») (x : Span) → ty ≡ BoolTy x → P (primitive PrimitiveType.Bool) → P (value ns (view_ty ty))
at_bool ns P ty x e h = subst (λ (m : t.Ty). P (value ns m)) (sym (ap view_ty e ∙ by_bool x)) h

by_string : (x : Span) → view_ty (StringTy x) ≡ t.Ty.string x
by_string x = search (rules, the_lemmas)

pub at_string : (ns : Scope) (P : Answer Stated → Type 0) (ty : «Type») (x : Span) → ty ≡ StringTy x → P (primitive PrimitiveType.String) → P (value ns (view_ty ty))
at_string ns P ty x e h = subst (λ (m : t.Ty). P (value ns m)) (sym (ap view_ty e ∙ by_string x)) h

by_error_context : (x : Span) → view_ty (ErrorContextTy x) ≡ t.Ty.error_context x
by_error_context x = search (rules, the_lemmas)

pub at_error_context : (ns : Scope) (P : Answer Stated → Type 0) (ty : «Type») (x : Span) → ty ≡ ErrorContextTy x → P (primitive PrimitiveType.ErrorContext) → P (value ns (view_ty ty))
at_error_context ns P ty x e h = subst (λ (m : t.Ty). P (value ns m)) (sym (ap view_ty e ∙ by_error_context x)) h

by_list : (b : Box «Type» Global) (x : Span) → view_ty (ListTy b x) ≡ t.Ty.list (view_ty b.value) x
by_list b x = search (rules, the_lemmas)

pub at_list : (ns : Scope) (P : Answer Stated → Type 0) (ty : «Type») (b : Box «Type» Global) (x : Span) → ty ≡ ListTy b x → P (of_one s.list (value ns (view_ty b.value))) → P (value ns (view_ty ty))
at_list ns P ty b x e h = subst (λ (m : t.Ty). P (value ns m)) (sym (ap view_ty e ∙ by_list b x)) h

by_option : (b : Box «Type» Global) (x : Span) → view_ty (OptionTy b x) ≡ t.Ty.option (view_ty b.value) x
by_option b x = search (rules, the_lemmas)

pub at_option : (ns : Scope) (P : Answer Stated → Type 0) (ty : «Type») (b : Box «Type» Global) (x : Span) → ty ≡ OptionTy b x → P (of_one s.option (value ns (view_ty b.value))) → P (value ns (view_ty ty))
at_option ns P ty b x e h = subst (λ (m : t.Ty). P (value ns m)) (sym (ap view_ty e ∙ by_option b x)) h

by_borrow : (i : Ident) (x : Span) → view_ty (BorrowTy i x) ≡ t.Ty.borrow (view_ident i) x
by_borrow i x = search (rules, the_lemmas)

pub at_borrow : (ns : Scope) (P : Answer Stated → Type 0) (ty : «Type») (i : Ident) (x : Span) → ty ≡ BorrowTy i x → P (borrow_named ns (view_ident i)) → P (value ns (view_ty ty))
at_borrow ns P ty i x e h = subst (λ (m : t.Ty). P (value ns m)) (sym (ap view_ty e ∙ by_borrow i x)) h

by_ident : (i : Ident) → view_ty (IdentTy i) ≡ t.Ty.ident (view_ident i)
by_ident i = search (rules, the_lemmas)

pub at_ident : (ns : Scope) (P : Answer Stated → Type 0) (ty : «Type») (i : Ident) → ty ≡ IdentTy i → P (value_named ns (view_ident i)) → P (value ns (view_ty ty))
at_ident ns P ty i e h = subst (λ (m : t.Ty). P (value ns m)) (sym (ap view_ty e ∙ by_ident i)) h

by_stream : (b : Option (Box «Type» Global)) (x : Span) → view_ty (StreamTy b x) ≡ t.Ty.stream (boxed_payload b) x
by_stream None x = search (rules, the_lemmas)
by_stream (Some b) x = search (rules, the_lemmas)

pub at_stream : (ns : Scope) (P : Answer Stated → Type 0) (ty : «Type») (b : Option (Box «Type» Global)) (x : Span) → ty ≡ StreamTy b x → P (of_maybe s.stream (maybe_value ns (boxed_payload b))) → P (value ns (view_ty ty))
at_stream ns P ty b x e h = subst (λ (m : t.Ty). P (value ns m)) (sym (ap view_ty e ∙ by_stream b x)) h

by_future : (b : Option (Box «Type» Global)) (x : Span) → view_ty (FutureTy b x) ≡ t.Ty.future (boxed_payload b) x
by_future None x = search (rules, the_lemmas)
by_future (Some b) x = search (rules, the_lemmas)

pub at_future : (ns : Scope) (P : Answer Stated → Type 0) (ty : «Type») (b : Option (Box «Type» Global)) (x : Span) → ty ≡ FutureTy b x → P (of_maybe s.future (maybe_value ns (boxed_payload b))) → P (value ns (view_ty ty))
at_future ns P ty b x e h = subst (λ (m : t.Ty). P (value ns m)) (sym (ap view_ty e ∙ by_future b x)) h

by_result : (a b : Option (Box «Type» Global)) (x : Span) → view_ty (ResultTy a b x) ≡ t.Ty.result (boxed_payload a) (boxed_payload b) x
by_result None None x = search (rules, the_lemmas)
by_result None (Some b) x = search (rules, the_lemmas)
by_result (Some a) None x = search (rules, the_lemmas)
by_result (Some a) (Some b) x = search (rules, the_lemmas)

pub at_result : (ns : Scope) (P : Answer Stated → Type 0) (ty : «Type») (a b : Option (Box «Type» Global)) (x : Span) → ty ≡ ResultTy a b x → P (of_two s.result (maybe_value ns (boxed_payload a)) (maybe_value ns (boxed_payload b))) → P (value ns (view_ty ty))
at_result ns P ty a b x e h = subst (λ (m : t.Ty). P (value ns m)) (sym (ap view_ty e ∙ by_result a b x)) h

by_tuple : (vs : Vec «Type» Global) (x : Span) → view_ty (TupleTy vs x) ≡ t.Ty.tuple (t.tys (map view_ty vs.items)) x
by_tuple vs x = search (rules, the_lemmas)

pub at_tuple : (ns : Scope) (P : Answer Stated → Type 0) (ty : «Type») (vs : Vec «Type» Global) (x : Span) → ty ≡ TupleTy vs x → P (of_all s.tuple (values ns [] (t.tys (map view_ty vs.items)))) → P (value ns (view_ty ty))
at_tuple ns P ty vs x e h = subst (λ (m : t.Ty). P (value ns m)) (sym (ap view_ty e ∙ by_tuple vs x)) h

-- an optional type whose type is refused
pub payload_refused : (ns : Scope) (o : Option (Box «Type» Global)) (b : Box «Type» Global) (y : «Type») (e : Refusal) → o ≡ Some b → y ≡ b.value → IsRefusal (value ns (view_ty y)) e → IsRefusal (maybe_value ns (boxed_payload o)) e
payload_refused ns o b y e is at h =
    subst (λ (p : Option (Box «Type» Global)). IsRefusal (maybe_value ns (boxed_payload p)) e) (sym is)
    (some_refused (value ns (view_ty b.value)) e (subst (λ (z : «Type»). IsRefusal (value ns (view_ty z)) e) at h))
