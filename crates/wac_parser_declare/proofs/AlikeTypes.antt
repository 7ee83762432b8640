-- Types, functions and declarations of types state the same whatever the spans are.
use Rattle.std.specs.Prelude.{Bool, true, false, List, [], ◌∷◌, ◌++◌, map, Option, Some, None, option_map}
use Rattle.wac_types_base.specs.declared.item.FuncKind.{FuncKind}
use Rattle.wac_types_base.specs.Entries.{Name, has_name}
use Rattle.wac_types_base.specs.Collection as s
use Rattle.wac_types_base.specs.Stated.{Stated, Kind, IsFunction, IsInstance, IsComponent, IsModule, IsValue, IsResource, IsFunctionType, IsValueType, IsInterface, IsWorld, IsModuleType, kind_of, untyped, as_type, over, leaf, own, borrow, contains_borrow, func_of}
use Rattle.wac_parser_tree.specs.Trees as t
use Rattle.wac_parser_tree.specs.Bare.{bare_ident, bare_ty, bare_tys, bare_maybe_ty, bare_named_type, bare_results, bare_func, bare_func_ref, bare_variant_case, bare_variant, bare_field, bare_record, bare_flag, bare_flags, bare_enum_case, bare_enum, bare_alias_kind, bare_alias, bare_type_decl}
use Rattle.wac_parser_tree.specs.Accessors.{ty_span}
use Rattle.wac_parser_refusals.specs.Causes.{Answer, Fault, ◌>>=◌, pure, DuplicateParameter, BorrowInResult, DuplicateVariantCase, DuplicateRecordField, DuplicateFlag, DuplicateEnumCase}
use Rattle.wac_parser_refusals.proofs.Alike.{both, neither, itself, AreSame, then_alike, next_alike, clear_alike, each_alike}
use Rattle.wac_parser_declare.specs.Scope.{Scope, has}
use Rattle.wac_parser_declare.specs.ValueTypes.{value_by, borrow_by, value, values, maybe_value, value_if}
use Rattle.wac_parser_declare.specs.Declarations.{member, param, no_borrow, result_of, function, free, func_by, func_ref, case_of, field_of, name_of, flag_of, enum_case_of, variant_of, record_of, alias_of, resource_alias_of, alias_by, alias_value, alias_type, alias_kind, type_alias, variant_decl, record_decl, flags_decl, enum_decl, type_decl}
use Rattle.wac_parser_declare.proofs.AlikeScopes.{bare_scope, named_alike}

-- ---- value types

value_by_alike : (k : Kind) (i : t.Ident) (x : Stated) → AreSame (value_by k i x) (value_by k (bare_ident i) x)
value_by_alike IsResource i x = both (own x)
value_by_alike IsValueType i x = both (untyped x)
value_by_alike IsFunction i x = neither _ _
value_by_alike IsInstance i x = neither _ _
value_by_alike IsComponent i x = neither _ _
value_by_alike IsModule i x = neither _ _
value_by_alike IsValue i x = neither _ _
value_by_alike IsFunctionType i x = neither _ _
value_by_alike IsInterface i x = neither _ _
value_by_alike IsWorld i x = neither _ _
value_by_alike IsModuleType i x = neither _ _

borrow_by_alike : (k : Kind) (i : t.Ident) (x : Stated) → AreSame (borrow_by k i x) (borrow_by k (bare_ident i) x)
borrow_by_alike IsResource i x = both (borrow x)
borrow_by_alike IsValueType i x = neither _ _
borrow_by_alike IsFunction i x = neither _ _
borrow_by_alike IsInstance i x = neither _ _
borrow_by_alike IsComponent i x = neither _ _
borrow_by_alike IsModule i x = neither _ _
borrow_by_alike IsValue i x = neither _ _
borrow_by_alike IsFunctionType i x = neither _ _
borrow_by_alike IsInterface i x = neither _ _
borrow_by_alike IsWorld i x = neither _ _
borrow_by_alike IsModuleType i x = neither _ _

-- what is made of one answer, of two
pub made_alike : {X Y : Type 0} (f : X → Y) (q r : Answer X) → AreSame q r → AreSame (q >>= λ x. pure (f x)) (r >>= λ x. pure (f x))
made_alike f q r h = then_alike (λ x. pure (f x)) (λ x. pure (f x)) h (λ x. both (f x))

mutual
  pub value_alike : (ns : Scope) (ty : t.Ty) → AreSame (value ns ty) (value (bare_scope ns) (bare_ty ty))
  value_alike ns (t.Ty.u8 z) = both _
  value_alike ns (t.Ty.s8 z) = both _
  value_alike ns (t.Ty.u16 z) = both _
  value_alike ns (t.Ty.s16 z) = both _
  value_alike ns (t.Ty.u32 z) = both _
  value_alike ns (t.Ty.s32 z) = both _
  value_alike ns (t.Ty.u64 z) = both _
  value_alike ns (t.Ty.s64 z) = both _
  value_alike ns (t.Ty.f32 z) = both _
  value_alike ns (t.Ty.f64 z) = both _
  value_alike ns (t.Ty.char z) = both _
  value_alike ns (t.Ty.bool z) = both _
  value_alike ns (t.Ty.string z) = both _
  value_alike ns (t.Ty.error_context z) = both _
  value_alike ns (t.Ty.tuple ts z) = made_alike (λ os. over s.tuple os) _ _ (values_alike ns [] ts)
  value_alike ns (t.Ty.list x z) = made_alike (λ y. over s.list (Some y ∷ [])) _ _ (value_alike ns x)
  value_alike ns (t.Ty.option x z) = made_alike (λ y. over s.option (Some y ∷ [])) _ _ (value_alike ns x)
  value_alike ns (t.Ty.result x y z) =
      then_alike _ _ (maybe_value_alike ns x) (λ o. made_alike (λ p. over s.result (o ∷ p ∷ [])) _ _ (maybe_value_alike ns y))
  value_alike ns (t.Ty.stream x z) = made_alike (λ o. over s.stream (o ∷ [])) _ _ (maybe_value_alike ns x)
  value_alike ns (t.Ty.future x z) = made_alike (λ o. over s.future (o ∷ [])) _ _ (maybe_value_alike ns x)
  value_alike ns (t.Ty.borrow i z) = then_alike _ _ (named_alike ns i) (λ x. borrow_by_alike (kind_of x) i x)
  value_alike ns (t.Ty.ident i) = then_alike _ _ (named_alike ns i) (λ x. value_by_alike (kind_of x) i x)

  values_alike : (ns : Scope) (found : List (Option Stated)) (ts : t.Tys) → AreSame (values ns found ts) (values (bare_scope ns) found (bare_tys ts))
  values_alike ns found t.Tys.no_more = both found
  values_alike ns found (t.Tys.more x xs) = then_alike _ _ (value_alike ns x) (λ v. values_alike ns (found ++ Some v ∷ []) xs)

  maybe_value_alike : (ns : Scope) (x : t.MaybeTy) → AreSame (maybe_value ns x) (maybe_value (bare_scope ns) (bare_maybe_ty x))
  maybe_value_alike ns t.MaybeTy.no_ty = both None
  maybe_value_alike ns (t.MaybeTy.some_ty x) = made_alike (λ y. Some y) _ _ (value_alike ns x)

value_if_alike : (ns : Scope) (o : Option t.Ty) → AreSame (value_if ns o) (value_if (bare_scope ns) (option_map bare_ty o))
value_if_alike ns None = both None
value_if_alike ns (Some x) = made_alike (λ y. Some y) _ _ (value_alike ns x)

-- ---- functions

member_alike : {T : Type 0} (found : List (Name × T)) (i : t.Ident) (f : Fault) (q r : Answer T) → AreSame q r → AreSame (member found i f q) (member found (bare_ident i) f r)
member_alike found i f q r h =
    then_alike _ _ h (λ v. next_alike (clear_alike (has found i.string) f f i.span _) (both (found ++ (i.string, v) ∷ [])))

no_borrow_alike : (x : t.Ty) (v : Stated) → AreSame (no_borrow x v) (no_borrow (bare_ty x) v)
no_borrow_alike x v = next_alike (clear_alike (contains_borrow v) BorrowInResult BorrowInResult (ty_span x) (ty_span (bare_ty x))) (both (Some v))

result_alike : (ns : Scope) (given : Option Stated) (r : t.ResultList) → AreSame (result_of ns given r) (result_of (bare_scope ns) given (bare_results r))
result_alike ns given t.ResultList.empty = both given
result_alike ns given (t.ResultList.scalar x) = then_alike _ _ (value_alike ns x) (λ v. no_borrow_alike x v)

pub function_alike : (kind : FuncKind) (ns : Scope) (self : List (Name × Stated)) (given : Option Stated) (ps : List t.NamedType) (r : t.ResultList) (is_async : Bool) → AreSame (function kind ns self given ps r is_async) (function kind (bare_scope ns) self given (map bare_named_type ps) (bare_results r) is_async)
function_alike kind ns self given ps r is_async =
    then_alike _ _ (each_alike {f = itself} {g = itself} bare_named_type (param kind ns) (param kind (bare_scope ns)) (λ found p. member_alike found p.id (DuplicateParameter p.id.string kind) _ _ (value_alike ns p.ty)) self ps)
    (λ params. made_alike (λ answer. func_of params answer is_async) _ _ (result_alike ns given r))

pub free_alike : (ns : Scope) (f : t.FuncType) → AreSame (free ns f) (free (bare_scope ns) (bare_func f))
free_alike ns f = function_alike FuncKind.Free ns [] None f.params f.results f.is_async

func_by_alike : (k : Kind) (i : t.Ident) (x : Stated) → AreSame (func_by k i x) (func_by k (bare_ident i) x)
func_by_alike IsFunction i x = both x
func_by_alike IsFunctionType i x = both (untyped x)
func_by_alike IsResource i x = neither _ _
func_by_alike IsValueType i x = neither _ _
func_by_alike IsInstance i x = neither _ _
func_by_alike IsComponent i x = neither _ _
func_by_alike IsModule i x = neither _ _
func_by_alike IsValue i x = neither _ _
func_by_alike IsInterface i x = neither _ _
func_by_alike IsWorld i x = neither _ _
func_by_alike IsModuleType i x = neither _ _

pub func_ref_alike : (ns : Scope) (r : t.FuncTypeRef) → AreSame (func_ref ns r) (func_ref (bare_scope ns) (bare_func_ref r))
func_ref_alike ns (t.FuncTypeRef.func f) = free_alike ns f
func_ref_alike ns (t.FuncTypeRef.ident i) = then_alike _ _ (named_alike ns i) (λ x. func_by_alike (kind_of x) i x)

-- ---- declarations

pub variant_alike : (ns : Scope) (d : t.VariantDecl) → AreSame (variant_decl ns d) (variant_decl (bare_scope ns) (bare_variant d))
variant_alike ns d = made_alike (λ xs. as_type (variant_of xs)) _ _
    (each_alike {f = itself} {g = itself} bare_variant_case (case_of d.id.string ns) (case_of d.id.string (bare_scope ns)) (λ found c. member_alike found c.id (DuplicateVariantCase c.id.string d.id.string) _ _ (value_if_alike ns c.ty)) [] d.cases)

pub record_alike : (ns : Scope) (d : t.RecordDecl) → AreSame (record_decl ns d) (record_decl (bare_scope ns) (bare_record d))
record_alike ns d = made_alike (λ xs. as_type (record_of xs)) _ _
    (each_alike {f = itself} {g = itself} bare_field (field_of d.id.string ns) (field_of d.id.string (bare_scope ns)) (λ found c. member_alike found c.id (DuplicateRecordField c.id.string d.id.string) _ _ (value_alike ns c.ty)) [] d.fields)

name_alike : (duplicate : Name → Fault) (found : List Name) (i : t.Ident) → AreSame (name_of duplicate found i) (name_of duplicate found (bare_ident i))
name_alike duplicate found i =
    next_alike (clear_alike (has_name found i.string) (duplicate i.string) (duplicate i.string) i.span _) (both (found ++ i.string ∷ []))

pub flags_alike : (d : t.FlagsDecl) → AreSame (flags_decl d) (flags_decl (bare_flags d))
flags_alike d = made_alike (λ xs. as_type (leaf (s.flags xs))) _ _
    (each_alike {f = itself} {g = itself} bare_flag (flag_of d.id.string) (flag_of d.id.string) (λ found x. name_alike (λ m. DuplicateFlag m d.id.string) found x.id) [] d.flags)

pub enum_alike : (d : t.EnumDecl) → AreSame (enum_decl d) (enum_decl (bare_enum d))
enum_alike d = made_alike (λ xs. as_type (leaf (s.enum xs))) _ _
    (each_alike {f = itself} {g = itself} bare_enum_case (enum_case_of d.id.string) (enum_case_of d.id.string) (λ found x. name_alike (λ m. DuplicateEnumCase m d.id.string) found x.id) [] d.cases)

resource_alias_alike : (at_root : Bool) (n i : t.Ident) (x : Stated) → AreSame (alias_by IsResource at_root n i x) (alias_by IsResource at_root (bare_ident n) (bare_ident i) x)
resource_alias_alike true n i x = neither _ _
resource_alias_alike false n i x = both (resource_alias_of n.string x)

alias_by_alike : (k : Kind) (at_root : Bool) (n i : t.Ident) (x : Stated) → AreSame (alias_by k at_root n i x) (alias_by k at_root (bare_ident n) (bare_ident i) x)
alias_by_alike IsResource at_root n i x = resource_alias_alike at_root n i x
alias_by_alike IsValueType at_root n i x = both _
alias_by_alike IsFunction at_root n i x = both _
alias_by_alike IsFunctionType at_root n i x = both x
alias_by_alike IsInstance at_root n i x = neither _ _
alias_by_alike IsComponent at_root n i x = neither _ _
alias_by_alike IsModule at_root n i x = neither _ _
alias_by_alike IsValue at_root n i x = neither _ _
alias_by_alike IsInterface at_root n i x = neither _ _
alias_by_alike IsWorld at_root n i x = neither _ _
alias_by_alike IsModuleType at_root n i x = neither _ _

written_alike : (ns : Scope) (x : t.Ty) → AreSame (alias_value (value ns x)) (alias_value (value (bare_scope ns) (bare_ty x)))
written_alike ns x = made_alike alias_of _ _ (value_alike ns x)

alias_type_alike : (at_root : Bool) (ns : Scope) (n : t.Ident) (x : t.Ty) → AreSame (alias_type at_root ns n x) (alias_type at_root (bare_scope ns) (bare_ident n) (bare_ty x))
alias_type_alike at_root ns n (t.Ty.ident i) = then_alike _ _ (named_alike ns i) (λ x. alias_by_alike (kind_of x) at_root n i x)
alias_type_alike at_root ns n (t.Ty.u8 z) = written_alike ns (t.Ty.u8 z)
alias_type_alike at_root ns n (t.Ty.s8 z) = written_alike ns (t.Ty.s8 z)
alias_type_alike at_root ns n (t.Ty.u16 z) = written_alike ns (t.Ty.u16 z)
alias_type_alike at_root ns n (t.Ty.s16 z) = written_alike ns (t.Ty.s16 z)
alias_type_alike at_root ns n (t.Ty.u32 z) = written_alike ns (t.Ty.u32 z)
alias_type_alike at_root ns n (t.Ty.s32 z) = written_alike ns (t.Ty.s32 z)
alias_type_alike at_root ns n (t.Ty.u64 z) = written_alike ns (t.Ty.u64 z)
alias_type_alike at_root ns n (t.Ty.s64 z) = written_alike ns (t.Ty.s64 z)
alias_type_alike at_root ns n (t.Ty.f32 z) = written_alike ns (t.Ty.f32 z)
alias_type_alike at_root ns n (t.Ty.f64 z) = written_alike ns (t.Ty.f64 z)
alias_type_alike at_root ns n (t.Ty.char z) = written_alike ns (t.Ty.char z)
alias_type_alike at_root ns n (t.Ty.bool z) = written_alike ns (t.Ty.bool z)
alias_type_alike at_root ns n (t.Ty.string z) = written_alike ns (t.Ty.string z)
alias_type_alike at_root ns n (t.Ty.error_context z) = written_alike ns (t.Ty.error_context z)
alias_type_alike at_root ns n (t.Ty.tuple xs z) = written_alike ns (t.Ty.tuple xs z)
alias_type_alike at_root ns n (t.Ty.list x z) = written_alike ns (t.Ty.list x z)
alias_type_alike at_root ns n (t.Ty.option x z) = written_alike ns (t.Ty.option x z)
alias_type_alike at_root ns n (t.Ty.result x y z) = written_alike ns (t.Ty.result x y z)
alias_type_alike at_root ns n (t.Ty.borrow i z) = written_alike ns (t.Ty.borrow i z)
alias_type_alike at_root ns n (t.Ty.stream x z) = written_alike ns (t.Ty.stream x z)
alias_type_alike at_root ns n (t.Ty.future x z) = written_alike ns (t.Ty.future x z)

alias_kind_alike : (at_root : Bool) (ns : Scope) (n : t.Ident) (k : t.TypeAliasKind) → AreSame (alias_kind at_root ns n k) (alias_kind at_root (bare_scope ns) (bare_ident n) (bare_alias_kind k))
alias_kind_alike at_root ns n (t.TypeAliasKind.func f) = made_alike as_type _ _ (free_alike ns f)
alias_kind_alike at_root ns n (t.TypeAliasKind.ty x) = alias_type_alike at_root ns n x

pub alias_alike : (at_root : Bool) (ns : Scope) (a : t.TypeAlias) → AreSame (type_alias at_root ns a) (type_alias at_root (bare_scope ns) (bare_alias a))
alias_alike at_root ns a = alias_kind_alike at_root ns a.id a.kind

pub type_decl_alike : (ns : Scope) (d : t.TypeDecl) → AreSame (type_decl ns d) (type_decl (bare_scope ns) (bare_type_decl d))
type_decl_alike ns (t.TypeDecl.variant d) = variant_alike ns d
type_decl_alike ns (t.TypeDecl.record_ d) = record_alike ns d
type_decl_alike ns (t.TypeDecl.flags d) = flags_alike d
type_decl_alike ns (t.TypeDecl.enum d) = enum_alike d
type_decl_alike ns (t.TypeDecl.alias d) = alias_alike true ns d
