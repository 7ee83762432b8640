use Rattle.std.proofs.Common.{◌≡◌, codes, refl, ap, ◌∙◌, Option, Some, None, map}
use Rattle.std.specs.Option.{option_map}
use Rattle.std.specs.declared.alloc.Global.{Global}
use Rattle.std.specs.declared.boxed.Box.{Box}
use Rattle.json.specs.Print.{escape_byte}
use Rattle.serde_json.specs.Data.{array}
use Rattle.serde_json.specs.Written.{compact_text}
use Rattle.wac_parser_lexer.specs.declared.span.SourceSpan.{SourceSpan}
use Rattle.wac_parser_tree.specs.declared.value_type.«Type».{«Type»}
use Rattle.wac_parser_tree.specs.declared.value_type.«Type».TheVariants as variant
use Rattle.wac_parser_tree.specs.Trees as t
use Rattle.wac_parser_tree.specs.Views.{view_ty, view_boxed_ty}
use Rattle.wac_parser_print.specs.Texts.{word}
use Rattle.wac_parser_print.specs.Values as values
use Rattle.wac_parser_print.specs.Values.{ty, maybe_ty}
use Rattle.wac_parser_print.proofs.Adding.{joined_start, joined_step, joined_end, gap_more}
use Rattle.wac_parser_print.proofs.TypeViews as views
use Rattle.wac_parser_print.proofs.ValueLaws.{tys_items}
use Rattle.wac_parser_json.proofs.Writing.{then, of_tree, whole_array}
use Rattle.wac_parser_json.proofs.types.+ty.Goals as goal

view_stream : (o : Option (Box «Type» Global)) (s : SourceSpan) → view_ty (variant.Stream o s) ≡ t.Ty.stream (t.maybe_ty (option_map view_boxed_ty o)) s
view_stream None s = views.view_stream_none s
view_stream (Some b) s = views.view_stream_some b s

view_future : (o : Option (Box «Type» Global)) (s : SourceSpan) → view_ty (variant.Future o s) ≡ t.Ty.future (t.maybe_ty (option_map view_boxed_ty o)) s
view_future None s = views.view_future_none s
view_future (Some b) s = views.view_future_some b s

pub ty-returns-in-U8 : goal.ty-returns-in-U8
unfolding ty escape_byte
ty-returns-in-U8 g t c = of_tree ty (ap view_ty c.in-U8.is ∙ views.view_u8 _) c.spanned.ensures

pub ty-returns-in-S8 : goal.ty-returns-in-S8
unfolding ty escape_byte
ty-returns-in-S8 g t c = of_tree ty (ap view_ty c.in-S8.is ∙ views.view_s8 _) c.spanned-in-S8.ensures

pub ty-returns-in-U16 : goal.ty-returns-in-U16
unfolding ty escape_byte
ty-returns-in-U16 g t c = of_tree ty (ap view_ty c.in-U16.is ∙ views.view_u16 _) c.spanned-in-U16.ensures

pub ty-returns-in-S16 : goal.ty-returns-in-S16
unfolding ty escape_byte
ty-returns-in-S16 g t c = of_tree ty (ap view_ty c.in-S16.is ∙ views.view_s16 _) c.spanned-in-S16.ensures

pub ty-returns-in-U32 : goal.ty-returns-in-U32
unfolding ty escape_byte
ty-returns-in-U32 g t c = of_tree ty (ap view_ty c.in-U32.is ∙ views.view_u32 _) c.spanned-in-U32.ensures

pub ty-returns-in-S32 : goal.ty-returns-in-S32
unfolding ty escape_byte
ty-returns-in-S32 g t c = of_tree ty (ap view_ty c.in-S32.is ∙ views.view_s32 _) c.spanned-in-S32.ensures

pub ty-returns-in-U64 : goal.ty-returns-in-U64
unfolding ty escape_byte
ty-returns-in-U64 g t c = of_tree ty (ap view_ty c.in-U64.is ∙ views.view_u64 _) c.spanned-in-U64.ensures

pub ty-returns-in-S64 : goal.ty-returns-in-S64
unfolding ty escape_byte
ty-returns-in-S64 g t c = of_tree ty (ap view_ty c.in-S64.is ∙ views.view_s64 _) c.spanned-in-S64.ensures

pub ty-returns-in-F32 : goal.ty-returns-in-F32
unfolding ty escape_byte
ty-returns-in-F32 g t c = of_tree ty (ap view_ty c.in-F32.is ∙ views.view_f32 _) c.spanned-in-F32.ensures

pub ty-returns-in-F64 : goal.ty-returns-in-F64
unfolding ty escape_byte
ty-returns-in-F64 g t c = of_tree ty (ap view_ty c.in-F64.is ∙ views.view_f64 _) c.spanned-in-F64.ensures

pub ty-returns-in-Char : goal.ty-returns-in-Char
unfolding ty escape_byte
ty-returns-in-Char g t c = of_tree ty (ap view_ty c.in-Char.is ∙ views.view_char _) c.spanned-in-Char.ensures

pub ty-returns-in-Bool : goal.ty-returns-in-Bool
unfolding ty escape_byte
ty-returns-in-Bool g t c = of_tree ty (ap view_ty c.in-Bool.is ∙ views.view_bool _) c.spanned-in-Bool.ensures

pub ty-returns-in-String : goal.ty-returns-in-String
unfolding ty escape_byte
ty-returns-in-String g t c = of_tree ty (ap view_ty c.in-String.is ∙ views.view_string _) c.spanned-in-String.ensures

pub ty-returns-in-ErrorContext : goal.ty-returns-in-ErrorContext
unfolding ty escape_byte
ty-returns-in-ErrorContext g t c = of_tree ty (ap view_ty c.in-ErrorContext.is ∙ views.view_error_context _) c.spanned-in-ErrorContext.ensures

pub ty-returns-in-Tuple : goal.ty-returns-in-Tuple
unfolding ty escape_byte
ty-returns-in-Tuple g t c = of_tree ty (ap view_ty c.in-Tuple.is ∙ views.view_tuple _ _) c.tuple.ensures

pub ty-returns-in-List : goal.ty-returns-in-List
unfolding ty escape_byte
ty-returns-in-List g t c = of_tree ty (ap view_ty c.in-List.is ∙ views.view_list _ _) (rw c.deref.ensures at c.one_type.ensures)

pub ty-returns-in-Option : goal.ty-returns-in-Option
unfolding ty escape_byte
ty-returns-in-Option g t c = of_tree ty (ap view_ty c.in-Option.is ∙ views.view_option _ _) (rw c.deref-in-Option.ensures at c.one_type-in-Option.ensures)

pub ty-returns-in-Result : goal.ty-returns-in-Result
unfolding ty escape_byte
ty-returns-in-Result g t c = of_tree ty (ap view_ty c.in-Result.is ∙ views.view_result _ _ _) (then c.word.ensures (then (then c.word-in-Result.ensures (then c.payload.ensures (then c.word-in-Result-2.ensures (then c.payload-in-Result.ensures (then c.word-in-Result-3.ensures (then c.span.ensures c.word-in-Result-4.ensures)))))) c.word-in-Result-5.ensures))

pub ty-returns-in-Borrow : goal.ty-returns-in-Borrow
unfolding ty escape_byte
ty-returns-in-Borrow g t c = of_tree ty (ap view_ty c.in-Borrow.is ∙ views.view_borrow _ _) c.borrow.ensures

pub ty-returns-in-Stream : goal.ty-returns-in-Stream
unfolding ty escape_byte
ty-returns-in-Stream g t c = of_tree ty (ap view_ty c.in-Stream.is ∙ view_stream _ _) c.optional_type.ensures

pub ty-returns-in-Future : goal.ty-returns-in-Future
unfolding ty escape_byte
ty-returns-in-Future g t c = of_tree ty (ap view_ty c.in-Future.is ∙ view_future _ _) c.optional_type-in-Future.ensures

pub ty-returns-in-Ident : goal.ty-returns-in-Ident
unfolding ty escape_byte
ty-returns-in-Ident g t c = of_tree ty (ap view_ty c.in-Ident.is ∙ views.view_ident_ty _) (then c.word-in-Ident.ensures (then c.ident.ensures c.word-in-Ident-2.ensures))

pub one_type-returns : goal.one_type-returns
one_type-returns g t c = then c.word.ensures (then (then c.word-2.ensures (then c.ty.ensures (then c.word-3.ensures (then c.span.ensures c.word-4.ensures)))) c.word-5.ensures)

pub payload-returns-in-Some : goal.payload-returns-in-Some
unfolding maybe_ty
payload-returns-in-Some g t c = rw c.in-Some.is (rw c.deref.ensures at c.ty.ensures)

pub payload-returns-in-None : goal.payload-returns-in-None
unfolding maybe_ty
payload-returns-in-None g t c = rw c.in-None.is c.word.ensures

pub optional_type-returns : goal.optional_type-returns
optional_type-returns g t c = then c.word.ensures (then (then c.word-2.ensures (then c.payload.ensures (then c.word-3.ensures (then c.span.ensures c.word-4.ensures)))) c.word-5.ensures)

pub tuple-returns : goal.tuple-returns
unfolding ty escape_byte
tuple-returns g t c = then c.word.ensures (then (then c.type_list.ensures (then c.word-2.ensures (then c.span.ensures c.word-3.ensures))) c.word-4.ensures)

pub type_list-loop-one-init : goal.type_list-loop-one-init
type_list-loop-one-init g t c = record { same_sink = refl; between = refl; added = joined_start view_ty (codes ",") (λ x. word (compact_text (values.ty x))) _ }

pub type_list-loop-one-preserved : goal.type_list-loop-one-preserved
type_list-loop-one-preserved g t c = record {
  same_sink = c.ty.ensures.same_sink ∙ c.word-in-loop-one.ensures.same_sink ∙ c.loop-one.invariant.same_sink;
  between = gap_more c.loop-one.one-index (codes ",");
  added = joined_step view_ty (codes ",") _ (λ x. word (compact_text (values.ty x))) c.deref-one-items.result.now c.loop-one.one-index c.one-item.result c.loop-one-test.true c.one-item.is c.loop-one.invariant.between c.loop-one.invariant.added c.word-in-loop-one.ensures.adds c.ty.ensures.adds;
}

pub type_list-returns : goal.type_list-returns
type_list-returns g t c =
    let items = joined_end view_ty (codes ",") (λ x. word (compact_text (values.ty x))) c.deref-one-items.result.now c.loop-one.one-index c.loop-one-test.false c.loop-one.invariant.added in
    rw (← c.deref-one-items.ensures.value) (of_tree array (tys_items (map view_ty c.deref-one-items.result.now)) (whole_array values.ty _ c.word.ensures c.loop-one.invariant.same_sink items c.word-2.ensures))
