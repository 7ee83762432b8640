-- How types are declared.
use Rattle.std.specs.Prelude.{Bool, true, false, List, [], ◌∷◌, Option, Some, None}
use Rattle.wac_parser_lexer.specs.declared.span.SourceSpan.{SourceSpan}
use Rattle.wac_parser_lexer.specs.declared.token.Token.{Token}
use Rattle.wac_parser_lexer.specs.declared.token.Token.TheVariants as k
use Rattle.wac_parser_tree.specs.Trees as t
use Rattle.wac_parser_grammar.specs.declared.error.DeclaredType.{DeclaredType}
use Rattle.wac_parser_grammar.specs.declared.error.DeclaredType.TheVariants as declared
use Rattle.wac_parser_grammar.specs.declared.error.MemberKind.{MemberKind}
use Rattle.wac_parser_grammar.specs.declared.error.MemberKind.TheVariants as member
use Rattle.wac_parser_grammar.specs.Faults.{empty_type}
use Rattle.wac_parser_grammar.specs.Ahead.{none_of}
use Rattle.wac_parser_grammar.specs.Rules.{Rule, ◌>>=◌, ◌>>◌, pure, refuse, token, choose, begin, begin_any, optional, list_of}
use Rattle.wac_parser_grammar.specs.Names.{docs, ident}
use Rattle.wac_parser_grammar.specs.ValueTypes.{type_first, func_first, value_type, named_type, func_params, func_type}

abbrev pub type_decl_first : List Token
type_decl_first = k.VariantKeyword ∷ k.RecordKeyword ∷ k.FlagsKeyword ∷ k.EnumKeyword ∷ k.TypeKeyword ∷ []

abbrev pub item_type_decl_first : List Token
item_type_decl_first = k.ResourceKeyword ∷ type_decl_first

abbrev pub method_first : List Token
method_first = k.ConstructorKeyword ∷ k.Ident ∷ []

-- values between braces
abbrev pub body : {X : Type 0} → Rule X → List Token → Bool → Rule (List X)
body p first commas = do
  token k.OpenBrace
  xs ← list_of p first k.CloseBrace commas
  token k.CloseBrace
  pure xs

-- the fault of a declaration without members is at the closing brace
abbrev pub some_member : {X : Type 0} → List X → DeclaredType → MemberKind → SourceSpan → Rule (List X)
some_member [] ty kind close = refuse (λ _. empty_type ty kind close)
some_member (x ∷ xs) ty kind close = pure (x ∷ xs)

-- one or more members between braces, with commas
abbrev pub members : {X : Type 0} → Rule X → DeclaredType → MemberKind → Rule (List X)
members p ty kind = do
  token k.OpenBrace
  xs ← list_of p (k.Ident ∷ []) k.CloseBrace true
  close ← token k.CloseBrace
  some_member xs ty kind close

unfoldable pub case_type : Rule (Option t.Ty)
case_type =
    optional k.OpenParen >>= λ found. choose found (value_type >>= λ ty. token k.CloseParen >> pure (Some ty)) (pure None)

unfoldable pub variant_case : Rule t.VariantCase
variant_case = do
  docs ← docs
  id ← ident
  ty ← case_type
  pure (record { docs = docs; id = id; ty = ty })

unfoldable pub variant_cases : Rule (List t.VariantCase)
variant_cases = members variant_case declared.Variant member.Case

unfoldable pub variant_decl : Rule t.VariantDecl
variant_decl = do
  docs ← docs
  token k.VariantKeyword
  id ← ident
  cases ← variant_cases
  pure (record { docs = docs; id = id; cases = cases })

unfoldable pub field : Rule t.Field
field = do
  docs ← docs
  named ← named_type
  pure (record { docs = docs; id = named.id; ty = named.ty })

unfoldable pub record_fields : Rule (List t.Field)
record_fields = members field declared.Record member.Field

unfoldable pub record_decl : Rule t.RecordDecl
record_decl = do
  docs ← docs
  token k.RecordKeyword
  id ← ident
  fields ← record_fields
  pure (record { docs = docs; id = id; fields = fields })

unfoldable pub flag : Rule t.Flag
flag = do
  docs ← docs
  id ← ident
  pure (record { docs = docs; id = id })

unfoldable pub flags_members : Rule (List t.Flag)
flags_members = members flag declared.Flags member.Flag

unfoldable pub flags_decl : Rule t.FlagsDecl
flags_decl = do
  docs ← docs
  token k.FlagsKeyword
  id ← ident
  flags ← flags_members
  pure (record { docs = docs; id = id; flags = flags })

unfoldable pub enum_case : Rule t.EnumCase
enum_case = do
  docs ← docs
  id ← ident
  pure (record { docs = docs; id = id })

unfoldable pub enum_cases : Rule (List t.EnumCase)
enum_cases = members enum_case declared.Enum member.Case

unfoldable pub enum_decl : Rule t.EnumDecl
enum_decl = do
  docs ← docs
  token k.EnumKeyword
  id ← ident
  cases ← enum_cases
  pure (record { docs = docs; id = id; cases = cases })

unfoldable pub type_alias_kind : Rule t.TypeAliasKind
type_alias_kind =
    begin_any func_first (func_type >>= λ f. pure (t.TypeAliasKind.func f))
    (begin_any type_first (value_type >>= λ ty. pure (t.TypeAliasKind.ty ty))
    (refuse (none_of (k.AsyncKeyword ∷ k.FuncKeyword ∷ type_first))))

unfoldable pub type_alias : Rule t.TypeAlias
type_alias = do
  docs ← docs
  token k.TypeKeyword
  id ← ident
  token k.Equals
  kind ← type_alias_kind
  token k.Semicolon
  pure (record { docs = docs; id = id; kind = kind })

-- ---- resources

unfoldable pub constructor : Rule t.Constructor
constructor = do
  docs ← docs
  span ← token k.ConstructorKeyword
  params ← func_params
  token k.Semicolon
  pure (record { docs = docs; span = span; params = params })

unfoldable pub static_mark : Rule Bool
static_mark = begin k.StaticKeyword (token k.StaticKeyword >> pure true) (pure false)

unfoldable pub method : Rule t.Method
method = do
  docs ← docs
  id ← ident
  token k.Colon
  is_static ← static_mark
  ty ← func_type
  token k.Semicolon
  pure (record { docs = docs; id = id; is_static = is_static; ty = ty })

unfoldable pub resource_method : Rule t.ResourceMethod
resource_method =
    begin k.ConstructorKeyword (constructor >>= λ m. pure (t.ResourceMethod.constructor m))
    (begin k.Ident (method >>= λ m. pure (t.ResourceMethod.method m))
    (refuse (none_of method_first)))

-- a semicolon, or methods between braces
unfoldable pub resource_methods : Rule (List t.ResourceMethod)
resource_methods =
    begin k.Semicolon (token k.Semicolon >> pure [])
    (begin k.OpenBrace (body resource_method method_first false)
    (refuse (none_of (k.Semicolon ∷ k.OpenBrace ∷ []))))

unfoldable pub resource_decl : Rule t.ResourceDecl
resource_decl = do
  docs ← docs
  token k.ResourceKeyword
  id ← ident
  methods ← resource_methods
  pure (record { docs = docs; id = id; methods = methods })

-- ---- any declaration

unfoldable pub type_decl : Rule t.TypeDecl
type_decl =
    begin k.VariantKeyword (variant_decl >>= λ d. pure (t.TypeDecl.variant d))
    (begin k.RecordKeyword (record_decl >>= λ d. pure (t.TypeDecl.record_ d))
    (begin k.FlagsKeyword (flags_decl >>= λ d. pure (t.TypeDecl.flags d))
    (begin k.EnumKeyword (enum_decl >>= λ d. pure (t.TypeDecl.enum d))
    (begin k.TypeKeyword (type_alias >>= λ d. pure (t.TypeDecl.alias d))
    (refuse (none_of type_decl_first))))))

unfoldable pub item_type_decl : Rule t.ItemTypeDecl
item_type_decl =
    begin k.ResourceKeyword (resource_decl >>= λ d. pure (t.ItemTypeDecl.resource d))
    (begin k.VariantKeyword (variant_decl >>= λ d. pure (t.ItemTypeDecl.variant d))
    (begin k.RecordKeyword (record_decl >>= λ d. pure (t.ItemTypeDecl.record_ d))
    (begin k.FlagsKeyword (flags_decl >>= λ d. pure (t.ItemTypeDecl.flags d))
    (begin k.EnumKeyword (enum_decl >>= λ d. pure (t.ItemTypeDecl.enum d))
    (begin k.TypeKeyword (type_alias >>= λ d. pure (t.ItemTypeDecl.alias d))
    (refuse (none_of item_type_decl_first)))))))
