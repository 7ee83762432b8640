-- The text of each type, by the tree that the code has.
use Rattle.std.proofs.Common.{◌≡◌, List, map, codes, Option, Some, None, refl, ap, ◌∙◌, rules}
use Rattle.std.specs.Option.{option_map}
use Rattle.std.specs.declared.alloc.Global.{Global}
use Rattle.std.specs.declared.boxed.Box.{Box}
use Rattle.std.specs.declared.vec.Vec.{Vec}
use Rattle.wac_parser_lexer.specs.declared.span.SourceSpan.{SourceSpan}
use Rattle.wac_parser_tree.specs.declared.text.Ident.{Ident}
use Rattle.wac_parser_tree.specs.declared.value_type.«Type».{«Type», the_lemmas}
use Rattle.wac_parser_tree.specs.declared.value_type.«Type».TheVariants as variant
use Rattle.wac_parser_tree.specs.Trees as t
use Rattle.wac_parser_tree.specs.Views.{view_ty, view_boxed_ty, view_ident}

pub view_u8 : (s : SourceSpan) → view_ty (variant.U8 s) ≡ t.Ty.u8 s
view_u8 s = search (rules, the_lemmas)

pub view_s8 : (s : SourceSpan) → view_ty (variant.S8 s) ≡ t.Ty.s8 s
view_s8 s = search (rules, the_lemmas)

pub view_u16 : (s : SourceSpan) → view_ty (variant.U16 s) ≡ t.Ty.u16 s
view_u16 s = search (rules, the_lemmas)

pub view_s16 : (s : SourceSpan) → view_ty (variant.S16 s) ≡ t.Ty.s16 s
view_s16 s = search (rules, the_lemmas)

pub view_u32 : (s : SourceSpan) → view_ty (variant.U32 s) ≡ t.Ty.u32 s
view_u32 s = search (rules, the_lemmas)

pub view_s32 : (s : SourceSpan) → view_ty (variant.S32 s) ≡ t.Ty.s32 s
view_s32 s = search (rules, the_lemmas)

pub view_u64 : (s : SourceSpan) → view_ty (variant.U64 s) ≡ t.Ty.u64 s
view_u64 s = search (rules, the_lemmas)

pub view_s64 : (s : SourceSpan) → view_ty (variant.S64 s) ≡ t.Ty.s64 s
view_s64 s = search (rules, the_lemmas)

pub view_f32 : (s : SourceSpan) → view_ty (variant.F32 s) ≡ t.Ty.f32 s
view_f32 s = search (rules, the_lemmas)

pub view_f64 : (s : SourceSpan) → view_ty (variant.F64 s) ≡ t.Ty.f64 s
view_f64 s = search (rules, the_lemmas)

pub view_char : (s : SourceSpan) → view_ty (variant.Char s) ≡ t.Ty.char s
view_char s = search (rules, the_lemmas)

pub view_bool : (s : SourceSpan) → view_ty (variant.Bool s) ≡ t.Ty.bool s
view_bool s = search (rules, the_lemmas)

pub view_string : (s : SourceSpan) → view_ty (variant.String s) ≡ t.Ty.string s
view_string s = search (rules, the_lemmas)

pub view_error_context : (s : SourceSpan) → view_ty (variant.ErrorContext s) ≡ t.Ty.error_context s
view_error_context s = search (rules, the_lemmas)

pub view_ident_ty : (id : Ident) → view_ty (variant.Ident id) ≡ t.Ty.ident (view_ident id)
view_ident_ty id = search (rules, the_lemmas)

pub view_borrow : (id : Ident) (s : SourceSpan) → view_ty (variant.Borrow id s) ≡ t.Ty.borrow (view_ident id) s
view_borrow id s = search (rules, the_lemmas)

pub view_tuple : (v : Vec «Type» Global) (s : SourceSpan) → view_ty (variant.Tuple v s) ≡ t.Ty.tuple (t.tys (map view_ty v.items)) s
view_tuple v s = search (rules, the_lemmas)

pub view_list : (b : Box «Type» Global) (s : SourceSpan) → view_ty (variant.List b s) ≡ t.Ty.list (view_ty b.value) s
view_list b s = search (rules, the_lemmas)

pub view_option : (b : Box «Type» Global) (s : SourceSpan) → view_ty (variant.Option b s) ≡ t.Ty.option (view_ty b.value) s
view_option b s = search (rules, the_lemmas)

pub view_result_none : (s : SourceSpan) → view_ty (variant.Result None None s) ≡ t.Ty.result t.no_ty t.no_ty s
view_result_none s = search (rules, the_lemmas)

pub view_result_err : (e : Box «Type» Global) (s : SourceSpan) → view_ty (variant.Result None (Some e) s) ≡ t.Ty.result t.no_ty (t.some_ty (view_ty e.value)) s
view_result_err e s = search (rules, the_lemmas)

pub view_result_ok : (o : Box «Type» Global) (s : SourceSpan) → view_ty (variant.Result (Some o) None s) ≡ t.Ty.result (t.some_ty (view_ty o.value)) t.no_ty s
view_result_ok o s = search (rules, the_lemmas)

pub view_result_both : (o e : Box «Type» Global) (s : SourceSpan) → view_ty (variant.Result (Some o) (Some e) s) ≡ t.Ty.result (t.some_ty (view_ty o.value)) (t.some_ty (view_ty e.value)) s
view_result_both o e s = search (rules, the_lemmas)

pub view_result : (o e : Option (Box «Type» Global)) (s : SourceSpan) → view_ty (variant.Result o e s) ≡ t.Ty.result (t.maybe_ty (option_map view_boxed_ty o)) (t.maybe_ty (option_map view_boxed_ty e)) s
view_result None None s = view_result_none s
view_result None (Some e) s = view_result_err e s
view_result (Some o) None s = view_result_ok o s
view_result (Some o) (Some e) s = view_result_both o e s

pub view_stream_none : (s : SourceSpan) → view_ty (variant.Stream None s) ≡ t.Ty.stream t.no_ty s
view_stream_none s = search (rules, the_lemmas)

pub view_stream_some : (b : Box «Type» Global) (s : SourceSpan) → view_ty (variant.Stream (Some b) s) ≡ t.Ty.stream (t.some_ty (view_ty b.value)) s
view_stream_some b s = search (rules, the_lemmas)

pub view_future_none : (s : SourceSpan) → view_ty (variant.Future None s) ≡ t.Ty.future t.no_ty s
view_future_none s = search (rules, the_lemmas)

pub view_future_some : (b : Box «Type» Global) (s : SourceSpan) → view_ty (variant.Future (Some b) s) ≡ t.Ty.future (t.some_ty (view_ty b.value)) s
view_future_some b s = search (rules, the_lemmas)
