use Rattle.std.proofs.Common.{◌≡◌, ℕ, List, ◌++◌, ap, sym, ◌∙◌, codes, map, refl, rules, append_assoc, Option, Some, None}
use Rattle.wac_parser_tree.specs.declared.value_type.«Type».{the_lemmas}
use Rattle.wac_parser_tree.specs.declared.value_type.«Type».TheVariants as variant
use Rattle.wac_parser_tree.specs.Trees as tree
use Rattle.wac_parser_tree.specs.Views.{view_ty}
use Rattle.wac_parser_print.specs.Texts.{Layout, Text, word, ◌>>◌, result_of}
use Rattle.wac_parser_print.specs.Results.{behind_success}
use Rattle.wac_parser_print.specs.Printing.{ty, payload}
use Rattle.wac_parser_print.specs.Printing as text
use Rattle.wac_parser_print.proofs.Adding.{and_then, of_view, equal_text, same_text, joined_start, joined_step, joined_end, gap_more}
use Rattle.wac_parser_print.proofs.FormLaws.{tys_joined}
use Rattle.wac_parser_print.proofs.TypeViews as views
use Rattle.wac_parser_print.proofs.printer.DocumentPrinter.+ty.Goals as goal

pub add_enclosed-returns : goal.add_enclosed-returns
add_enclosed-returns g t c = and_then c.word.ensures (and_then c.add_ty.ensures c.word-2.ensures)

pub add_ty-returns-in-U8 : goal.add_ty-returns-in-U8
unfolding ty
add_ty-returns-in-U8 g t c = of_view ty (ap view_ty c.in-U8.is ∙ views.view_u8 _) c.word.ensures

pub add_ty-returns-in-S8 : goal.add_ty-returns-in-S8
unfolding ty
add_ty-returns-in-S8 g t c = of_view ty (ap view_ty c.in-S8.is ∙ views.view_s8 _) c.word-in-S8.ensures

pub add_ty-returns-in-U16 : goal.add_ty-returns-in-U16
unfolding ty
add_ty-returns-in-U16 g t c = of_view ty (ap view_ty c.in-U16.is ∙ views.view_u16 _) c.word-in-U16.ensures

pub add_ty-returns-in-S16 : goal.add_ty-returns-in-S16
unfolding ty
add_ty-returns-in-S16 g t c = of_view ty (ap view_ty c.in-S16.is ∙ views.view_s16 _) c.word-in-S16.ensures

pub add_ty-returns-in-U32 : goal.add_ty-returns-in-U32
unfolding ty
add_ty-returns-in-U32 g t c = of_view ty (ap view_ty c.in-U32.is ∙ views.view_u32 _) c.word-in-U32.ensures

pub add_ty-returns-in-S32 : goal.add_ty-returns-in-S32
unfolding ty
add_ty-returns-in-S32 g t c = of_view ty (ap view_ty c.in-S32.is ∙ views.view_s32 _) c.word-in-S32.ensures

pub add_ty-returns-in-U64 : goal.add_ty-returns-in-U64
unfolding ty
add_ty-returns-in-U64 g t c = of_view ty (ap view_ty c.in-U64.is ∙ views.view_u64 _) c.word-in-U64.ensures

pub add_ty-returns-in-S64 : goal.add_ty-returns-in-S64
unfolding ty
add_ty-returns-in-S64 g t c = of_view ty (ap view_ty c.in-S64.is ∙ views.view_s64 _) c.word-in-S64.ensures

pub add_ty-returns-in-F32 : goal.add_ty-returns-in-F32
unfolding ty
add_ty-returns-in-F32 g t c = of_view ty (ap view_ty c.in-F32.is ∙ views.view_f32 _) c.word-in-F32.ensures

pub add_ty-returns-in-F64 : goal.add_ty-returns-in-F64
unfolding ty
add_ty-returns-in-F64 g t c = of_view ty (ap view_ty c.in-F64.is ∙ views.view_f64 _) c.word-in-F64.ensures

pub add_ty-returns-in-Char : goal.add_ty-returns-in-Char
unfolding ty
add_ty-returns-in-Char g t c = of_view ty (ap view_ty c.in-Char.is ∙ views.view_char _) c.word-in-Char.ensures

pub add_ty-returns-in-Bool : goal.add_ty-returns-in-Bool
unfolding ty
add_ty-returns-in-Bool g t c = of_view ty (ap view_ty c.in-Bool.is ∙ views.view_bool _) c.word-in-Bool.ensures

pub add_ty-returns-in-String : goal.add_ty-returns-in-String
unfolding ty
add_ty-returns-in-String g t c = of_view ty (ap view_ty c.in-String.is ∙ views.view_string _) c.word-in-String.ensures

pub add_ty-returns-in-Tuple : goal.add_ty-returns-in-Tuple
unfolding ty
add_ty-returns-in-Tuple g t c = of_view ty (ap view_ty c.in-Tuple.is ∙ views.view_tuple _ _) c.add_tuple.ensures

pub add_ty-returns-in-List : goal.add_ty-returns-in-List
unfolding ty
add_ty-returns-in-List g t c = of_view ty (ap view_ty c.in-List.is ∙ views.view_list _ _) (rw c.deref.ensures at c.add_enclosed.ensures)

pub add_ty-returns-in-Option : goal.add_ty-returns-in-Option
unfolding ty
add_ty-returns-in-Option g t c = of_view ty (ap view_ty c.in-Option.is ∙ views.view_option _ _) (rw c.deref-in-Option.ensures at c.add_enclosed-in-Option.ensures)

-- a result is its success, and what stands behind it
result_parts : (f : Text) (g : Option Text) (l : Layout) → (word (codes "result<") >> f >> behind_success g) l ≡ result_of (Some f) g l
unfolding ◌>>◌ word
result_parts f None l = refl
result_parts f (Some g) l = sym (ap (λ (t : List ℕ). codes "result<" ++ t) (append_assoc (f l) (codes ", " ++ g l) (codes ">")))

pub add_ty-returns-in-Result-None-default-default : goal.add_ty-returns-in-Result-None-default-default
unfolding ty payload
add_ty-returns-in-Result-None-default-default g t c =
    let h : c.args.ty.now ≡ variant.Result None c.in-Result-None-default-default.err c.in-Result-None-default-default.span = search (rules, the_lemmas) in
    of_view ty (ap view_ty h ∙ views.view_result None c.in-Result-None-default-default.err c.in-Result-None-default-default.span) c.add_without_success.ensures

pub add_ty-returns-in-Result-Some-default-default : goal.add_ty-returns-in-Result-Some-default-default
unfolding ty payload
add_ty-returns-in-Result-Some-default-default g t c =
    let h : c.args.ty.now ≡ variant.Result (Some c.in-Result-Some-default-default.ok) c.in-Result-Some-default-default.err c.in-Result-Some-default-default.span = search (rules, the_lemmas) in
    of_view ty (ap view_ty h ∙ views.view_result (Some c.in-Result-Some-default-default.ok) c.in-Result-Some-default-default.err c.in-Result-Some-default-default.span)
    (same_text _ _ (λ l. result_parts _ _ l) (and_then c.word-in-Result-Some-default-default.ensures (and_then (rw c.deref-in-Result-Some-default-default.ensures at c.add_ty.ensures) c.add_behind_success.ensures)))

pub add_without_success-returns-in-Some : goal.add_without_success-returns-in-Some
unfolding payload
add_without_success-returns-in-Some g t c = rw c.in-Some.is (rw c.deref.ensures at c.add_enclosed.ensures)

pub add_without_success-returns-in-None : goal.add_without_success-returns-in-None
unfolding payload
add_without_success-returns-in-None g t c = rw c.in-None.is c.word.ensures

pub add_behind_success-returns-in-Some : goal.add_behind_success-returns-in-Some
unfolding payload
add_behind_success-returns-in-Some g t c = rw c.in-Some.is (rw c.deref.ensures at c.add_enclosed.ensures)

pub add_behind_success-returns-in-None : goal.add_behind_success-returns-in-None
unfolding payload
add_behind_success-returns-in-None g t c = rw c.in-None.is c.word.ensures

pub add_ty-returns-in-Borrow : goal.add_ty-returns-in-Borrow
unfolding ty
add_ty-returns-in-Borrow g t c = of_view ty (ap view_ty c.in-Borrow.is ∙ views.view_borrow _ _) c.add_borrow.ensures

pub add_ty-returns-in-Stream-None-default : goal.add_ty-returns-in-Stream-None-default
unfolding ty
add_ty-returns-in-Stream-None-default g t c = let e : view_ty c.args.ty.now ≡ tree.Ty.stream tree.no_ty c.in-Stream-None-default.field-1 = search (rules, the_lemmas) in of_view ty e c.word-in-Stream-None-default.ensures

pub add_ty-returns-in-Stream-Some-default : goal.add_ty-returns-in-Stream-Some-default
unfolding ty
add_ty-returns-in-Stream-Some-default g t c = let e : view_ty c.args.ty.now ≡ tree.Ty.stream (tree.some_ty (view_ty c.in-Stream-Some-default.ty.value)) c.in-Stream-Some-default.field-1 = search (rules, the_lemmas) in of_view ty e (rw c.deref-in-Stream-Some-default.ensures at c.add_enclosed-in-Stream-Some-default.ensures)

pub add_ty-returns-in-Future-None-default : goal.add_ty-returns-in-Future-None-default
unfolding ty
add_ty-returns-in-Future-None-default g t c = let e : view_ty c.args.ty.now ≡ tree.Ty.future tree.no_ty c.in-Future-None-default.field-1 = search (rules, the_lemmas) in of_view ty e c.word-in-Future-None-default.ensures

pub add_ty-returns-in-Future-Some-default : goal.add_ty-returns-in-Future-Some-default
unfolding ty
add_ty-returns-in-Future-Some-default g t c = let e : view_ty c.args.ty.now ≡ tree.Ty.future (tree.some_ty (view_ty c.in-Future-Some-default.ty.value)) c.in-Future-Some-default.field-1 = search (rules, the_lemmas) in of_view ty e (rw c.deref-in-Future-Some-default.ensures at c.add_enclosed-in-Future-Some-default.ensures)

pub add_ty-returns-in-ErrorContext : goal.add_ty-returns-in-ErrorContext
unfolding ty
add_ty-returns-in-ErrorContext g t c = of_view ty (ap view_ty c.in-ErrorContext.is ∙ views.view_error_context _) c.word-in-ErrorContext.ensures

pub add_ty-returns-in-Ident : goal.add_ty-returns-in-Ident
unfolding ty
add_ty-returns-in-Ident g t c = of_view ty (ap view_ty c.in-Ident.is ∙ views.view_ident_ty _) c.slice.ensures

pub add_tuple-loop-ty-init : goal.add_tuple-loop-ty-init
add_tuple-loop-ty-init g t c = record { between = refl; added = joined_start view_ty (codes ", ") text.ty _ }

pub add_tuple-loop-ty-preserved : goal.add_tuple-loop-ty-preserved
add_tuple-loop-ty-preserved g t c = record {
  between = gap_more c.loop-ty.ty-index (codes ", ");
  added = joined_step view_ty (codes ", ") _ text.ty c.deref-ty-items.result.now c.loop-ty.ty-index c.ty-item.result c.loop-ty-test.true c.ty-item.is c.loop-ty.invariant.between c.loop-ty.invariant.added c.word-in-loop-ty.ensures c.add_ty.ensures;
}

pub add_tuple-returns : goal.add_tuple-returns
add_tuple-returns g t c =
    let all = joined_end view_ty (codes ", ") text.ty c.deref-ty-items.result.now c.loop-ty.ty-index c.loop-ty-test.false c.loop-ty.invariant.added in
    rw (← c.deref-ty-items.ensures.value) (and_then c.word.ensures (and_then (equal_text _ _ (sym (tys_joined (map view_ty c.deref-ty-items.result.now))) all) c.word-2.ensures))
