use Rattle.std.proofs.Common.{arith, rules}
use Rattle.std.proofs.lemmas.Grind.{common_steps}
use Rattle.wac_parser_print.specs.Values.{ty}
use Rattle.wac_parser_print.proofs.TypeViews.{view_bool, view_borrow, view_char, view_error_context, view_f32, view_f64, view_ident_ty, view_list, view_option, view_result, view_s16, view_s32, view_s64, view_s8, view_string, view_u16, view_u32, view_u64, view_u8}
use Rattle.wac_parser_print.proofs.ValueLaws.{tys_items}
use Rattle.wac_parser_print.proofs.values.types.+ty.Goals as goal

pub ty-returns-in-Result : goal.ty-returns-in-Result
unfolding ty
ty-returns-in-Result t c =
    rw (c.in-Result.is, view_result c.in-Result.ok c.in-Result.err c.in-Result.span) (c.result_type.ensures _ _ c.payload.ensures c.payload-in-Result.ensures)

pub tuple-returns : goal.tuple-returns
tuple-returns t c = rw tys_items (first_of (search rules, grind (arith, common_steps)))

pub ty-returns-in-U8 : goal.ty-returns-in-U8
unfolding ty
ty-returns-in-U8 t c = rw (c.in-U8.is, view_u8 c.in-U8.at) c.spanned.ensures

pub ty-returns-in-S8 : goal.ty-returns-in-S8
unfolding ty
ty-returns-in-S8 t c = rw (c.in-S8.is, view_s8 c.in-S8.at) c.spanned-in-S8.ensures

pub ty-returns-in-U16 : goal.ty-returns-in-U16
unfolding ty
ty-returns-in-U16 t c = rw (c.in-U16.is, view_u16 c.in-U16.at) c.spanned-in-U16.ensures

pub ty-returns-in-S16 : goal.ty-returns-in-S16
unfolding ty
ty-returns-in-S16 t c = rw (c.in-S16.is, view_s16 c.in-S16.at) c.spanned-in-S16.ensures

pub ty-returns-in-U32 : goal.ty-returns-in-U32
unfolding ty
ty-returns-in-U32 t c = rw (c.in-U32.is, view_u32 c.in-U32.at) c.spanned-in-U32.ensures

pub ty-returns-in-S32 : goal.ty-returns-in-S32
unfolding ty
ty-returns-in-S32 t c = rw (c.in-S32.is, view_s32 c.in-S32.at) c.spanned-in-S32.ensures

pub ty-returns-in-U64 : goal.ty-returns-in-U64
unfolding ty
ty-returns-in-U64 t c = rw (c.in-U64.is, view_u64 c.in-U64.at) c.spanned-in-U64.ensures

pub ty-returns-in-S64 : goal.ty-returns-in-S64
unfolding ty
ty-returns-in-S64 t c = rw (c.in-S64.is, view_s64 c.in-S64.at) c.spanned-in-S64.ensures

pub ty-returns-in-F32 : goal.ty-returns-in-F32
unfolding ty
ty-returns-in-F32 t c = rw (c.in-F32.is, view_f32 c.in-F32.at) c.spanned-in-F32.ensures

pub ty-returns-in-F64 : goal.ty-returns-in-F64
unfolding ty
ty-returns-in-F64 t c = rw (c.in-F64.is, view_f64 c.in-F64.at) c.spanned-in-F64.ensures

pub ty-returns-in-Char : goal.ty-returns-in-Char
unfolding ty
ty-returns-in-Char t c = rw (c.in-Char.is, view_char c.in-Char.at) c.spanned-in-Char.ensures

pub ty-returns-in-Bool : goal.ty-returns-in-Bool
unfolding ty
ty-returns-in-Bool t c = rw (c.in-Bool.is, view_bool c.in-Bool.at) c.spanned-in-Bool.ensures

pub ty-returns-in-String : goal.ty-returns-in-String
unfolding ty
ty-returns-in-String t c = rw (c.in-String.is, view_string c.in-String.at) c.spanned-in-String.ensures

pub ty-returns-in-ErrorContext : goal.ty-returns-in-ErrorContext
unfolding ty
ty-returns-in-ErrorContext t c = rw (c.in-ErrorContext.is, view_error_context c.in-ErrorContext.at) c.spanned-in-ErrorContext.ensures

pub ty-returns-in-List : goal.ty-returns-in-List
unfolding ty
ty-returns-in-List t c = rw (c.in-List.is, view_list c.in-List.ty c.in-List.at) (rw c.deref.ensures at c.one_type.ensures)

pub ty-returns-in-Option : goal.ty-returns-in-Option
unfolding ty
ty-returns-in-Option t c = rw (c.in-Option.is, view_option c.in-Option.ty c.in-Option.at) (rw c.deref-in-Option.ensures at c.one_type-in-Option.ensures)

pub ty-returns-in-Borrow : goal.ty-returns-in-Borrow
unfolding ty
ty-returns-in-Borrow t c = rw (c.in-Borrow.is, view_borrow c.in-Borrow.id c.in-Borrow.at) c.borrow.ensures

pub ty-returns-in-Ident : goal.ty-returns-in-Ident
unfolding ty
ty-returns-in-Ident t c = rw (c.in-Ident.is, view_ident_ty c.in-Ident.id) c.declared.ensures
