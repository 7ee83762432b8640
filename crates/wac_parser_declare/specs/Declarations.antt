-- The type that a function or a declaration of a type states, or its cause.
use Rattle.std.specs.Prelude.{Bool, true, false, List, [], ◌∷◌, ◌++◌, map, Option, Some, None}
use Rattle.wac_types_base.specs.declared.item.FuncKind.{FuncKind}
use Rattle.wac_types_base.specs.Entries.{Name, has_name}
use Rattle.wac_types_base.specs.Collection as s
use Rattle.wac_types_base.specs.Stated.{Stated, Kind, IsFunction, IsFunctionType, IsResource, IsValueType}
use Rattle.wac_types_base.specs.Stated.{kind_of, desc, as_type, untyped, over, leaf, contains_borrow, func_of, names, shape_of, places_of}
use Rattle.wac_parser_tree.specs.Trees as t
use Rattle.wac_parser_tree.specs.Accessors.{ty_span}
use Rattle.wac_parser_declare.specs.Scope.{Scope, has, named}
use Rattle.wac_parser_declare.specs.ValueTypes.{value, value_if}
use Rattle.wac_parser_refusals.specs.Causes.{Answer, Fault, ◌>>=◌, ◌>>◌, pure, refuse, unless_clear, each}
use Rattle.wac_parser_refusals.specs.Causes.{NotFuncType, DuplicateParameter, BorrowInResult, DuplicateVariantCase, DuplicateRecordField, DuplicateFlag, DuplicateEnumCase, InvalidAliasType}

-- one more member, whose name is new
abbrev pub add_member : {T : Type 0} → List (Name × T) → t.Ident → Fault → T → Answer (List (Name × T))
add_member found i duplicate v = unless_clear (has found i.string) duplicate i.span >> pure (found ++ (i.string, v) ∷ [])

-- first its type, then its name
abbrev pub member : {T : Type 0} → List (Name × T) → t.Ident → Fault → Answer T → Answer (List (Name × T))
member found i duplicate ty = ty >>= add_member found i duplicate

-- ---- functions

abbrev pub param : FuncKind → Scope → List (Name × Stated) → t.NamedType → Answer (List (Name × Stated))
param kind ns found p = member found p.id (DuplicateParameter p.id.string kind) (value ns p.ty)

abbrev pub no_borrow : t.Ty → Stated → Answer (Option Stated)
no_borrow ty v = unless_clear (contains_borrow v) BorrowInResult (ty_span ty) >> pure (Some v)

abbrev pub scalar_result : Scope → t.Ty → Answer (Option Stated)
scalar_result ns ty = value ns ty >>= λ v. no_borrow ty v

abbrev pub result_of : Scope → Option Stated → t.ResultList → Answer (Option Stated)
result_of ns given t.ResultList.empty = pure given
result_of ns given (t.ResultList.scalar ty) = scalar_result ns ty

-- a function's type; `self` and a constructor's result are given
abbrev pub function : FuncKind → Scope → List (Name × Stated) → Option Stated → List t.NamedType → t.ResultList → Bool
    → Answer Stated
function kind ns self given ps results is_async =
    each (param kind ns) self ps >>= λ params. result_of ns given results >>= λ answer. pure (func_of params answer is_async)

-- of a function that belongs to no resource
abbrev pub free : Scope → t.FuncType → Answer Stated
free ns f = function FuncKind.Free ns [] None f.params f.results f.is_async

abbrev pub func_by : Kind → t.Ident → Stated → Answer Stated
func_by IsFunction i x = pure x
func_by IsFunctionType i x = pure (untyped x)
func_by k i x = refuse (NotFuncType i.string (desc x)) i.span

abbrev pub func_named : Scope → t.Ident → Answer Stated
func_named ns i = named ns i >>= λ x. func_by (kind_of x) i x

abbrev pub func_ref : Scope → t.FuncTypeRef → Answer Stated
func_ref ns (t.FuncTypeRef.func f) = free ns f
func_ref ns (t.FuncTypeRef.ident i) = func_named ns i

-- ---- declarations of types

abbrev pub case_of : Name → Scope → List (Name × Option Stated) → t.VariantCase → Answer (List (Name × Option Stated))
case_of d ns found c = member found c.id (DuplicateVariantCase c.id.string d) (value_if ns c.ty)

abbrev pub field_of : Name → Scope → List (Name × Stated) → t.Field → Answer (List (Name × Stated))
field_of d ns found f = member found f.id (DuplicateRecordField f.id.string d) (value ns f.ty)

-- one more name
abbrev pub name_of : (Name → Fault) → List Name → t.Ident → Answer (List Name)
name_of duplicate found i = unless_clear (has_name found i.string) (duplicate i.string) i.span >> pure (found ++ i.string ∷ [])

abbrev pub flag_of : Name → List Name → t.Flag → Answer (List Name)
flag_of d found x = name_of (λ m. DuplicateFlag m d) found x.id

abbrev pub enum_case_of : Name → List Name → t.EnumCase → Answer (List Name)
enum_case_of d found x = name_of (λ m. DuplicateEnumCase m d) found x.id

abbrev pub payloads : List (Name × Option Stated) → List (Option Stated)
payloads xs = map (λ x. x.1) xs

abbrev pub variant_of : List (Name × Option Stated) → Stated
variant_of xs = over (s.variant (names xs)) (payloads xs)

abbrev pub record_of : List (Name × Stated) → Stated
record_of xs = over (s.record_of (names xs)) (map (λ x. Some x.1) xs)

-- an alias of a resource has the owner of the alias that it names
abbrev pub owner_at : s.Shape → List (Option Stated) → Option Stated
owner_at (s.resource_alias n) (o ∷ owner ∷ os) = owner
owner_at sh os = None

abbrev pub owner_of : Stated → Option Stated
owner_of x = owner_at (shape_of x) (places_of x)

abbrev pub alias_of : Stated → Stated
alias_of v = as_type (over s.alias (Some v ∷ []))

abbrev pub resource_alias_of : Name → Stated → Stated
resource_alias_of n x = over (s.resource_alias n) (Some x ∷ owner_of x ∷ [])

-- an alias: of a resource a resource (not at the root), of a value an alias, of a function a copy
abbrev pub alias_by : Kind → Bool → t.Ident → t.Ident → Stated → Answer Stated
alias_by IsResource false n i x = pure (resource_alias_of n.string x)
alias_by IsValueType at_root n i x = pure (alias_of (untyped x))
alias_by IsFunction at_root n i x = pure (as_type x)
alias_by IsFunctionType at_root n i x = pure x
alias_by k at_root n i x = refuse (InvalidAliasType i.string (desc x)) i.span

abbrev pub alias_named : Bool → Scope → t.Ident → t.Ident → Answer Stated
alias_named at_root ns n i = named ns i >>= λ x. alias_by (kind_of x) at_root n i x

abbrev pub alias_value : Answer Stated → Answer Stated
alias_value v = v >>= λ x. pure (alias_of x)

abbrev pub alias_type : Bool → Scope → t.Ident → t.Ty → Answer Stated
alias_type at_root ns n (t.Ty.ident i) = alias_named at_root ns n i
alias_type at_root ns n ty = alias_value (value ns ty)

abbrev pub alias_kind : Bool → Scope → t.Ident → t.TypeAliasKind → Answer Stated
alias_kind at_root ns n (t.TypeAliasKind.func f) = free ns f >>= λ x. pure (as_type x)
alias_kind at_root ns n (t.TypeAliasKind.ty ty) = alias_type at_root ns n ty

abbrev pub type_alias : Bool → Scope → t.TypeAlias → Answer Stated
type_alias at_root ns a = alias_kind at_root ns a.id a.kind

abbrev pub variant_decl : Scope → t.VariantDecl → Answer Stated
variant_decl ns d = each (case_of d.id.string ns) [] d.cases >>= λ xs. pure (as_type (variant_of xs))

abbrev pub record_decl : Scope → t.RecordDecl → Answer Stated
record_decl ns d = each (field_of d.id.string ns) [] d.fields >>= λ xs. pure (as_type (record_of xs))

abbrev pub flags_decl : t.FlagsDecl → Answer Stated
flags_decl d = each (flag_of d.id.string) [] d.flags >>= λ xs. pure (as_type (leaf (s.flags xs)))

abbrev pub enum_decl : t.EnumDecl → Answer Stated
enum_decl d = each (enum_case_of d.id.string) [] d.cases >>= λ xs. pure (as_type (leaf (s.enum xs)))

-- the type item of a declaration at the root
abbrev pub type_decl : Scope → t.TypeDecl → Answer Stated
type_decl ns (t.TypeDecl.variant d) = variant_decl ns d
type_decl ns (t.TypeDecl.record_ d) = record_decl ns d
type_decl ns (t.TypeDecl.flags d) = flags_decl d
type_decl ns (t.TypeDecl.enum d) = enum_decl d
type_decl ns (t.TypeDecl.alias d) = type_alias true ns d
