-- The rules of declarations read just what they say.
use Rattle.std.proofs.Common.{Bool, true, false, List, [], ◌∷◌}
use Rattle.wac_parser_lexer.specs.declared.span.SourceSpan.{SourceSpan}
use Rattle.wac_parser_lexer.specs.declared.token.Token.{Token}
use Rattle.wac_parser_lexer.specs.declared.token.Token.TheVariants as k
use Rattle.wac_parser_grammar.specs.Rules.{Rule}
use Rattle.wac_parser_grammar.proofs.Exact.{Exact, Takes, Keeps, Begins, bind, pure_exact, refuse_exact, choose_exact, begin_exact, begin_any_exact, token_exact, optional_exact, bind_takes, bind_keeps, then_takes, still_keeps, pure_keeps, refuse_takes, token_takes, choose_keeps, begin_takes, begin_keeps, begin_any_takes, optional_keeps, token_begins, bind_begins, silent_begins, refuse_begins, begin_begins}
use Rattle.wac_parser_grammar.proofs.ExactLists.{list_exact, list_keeps}
use Rattle.wac_parser_grammar.specs.declared.error.DeclaredType.{DeclaredType}
use Rattle.wac_parser_grammar.specs.declared.error.DeclaredType.TheVariants as declared
use Rattle.wac_parser_grammar.specs.declared.error.MemberKind.{MemberKind}
use Rattle.wac_parser_grammar.specs.declared.error.MemberKind.TheVariants as member
use Rattle.wac_parser_grammar.specs.Names.{docs}
use Rattle.wac_parser_grammar.specs.ValueTypes.{type_first, func_first}
use Rattle.wac_parser_grammar.specs.Declarations.{type_decl_first, item_type_decl_first, method_first, body, some_member, members, case_type, variant_case, variant_cases, variant_decl, field, record_fields, record_decl, flag, flags_members, flags_decl, enum_case, enum_cases, enum_decl, type_alias_kind, type_alias, constructor, static_mark, method, resource_method, resource_methods, resource_decl, type_decl, item_type_decl}
use Rattle.wac_parser_grammar.proofs.NameLaws.{docs_exact, docs_keeps, docs_silent, ident_exact, ident_takes, ident_begins}
use Rattle.wac_parser_grammar.proofs.TypeLaws.{value_type_exact, value_type_takes, named_type_exact, named_type_takes, named_type_begins, func_params_exact, func_params_takes, func_type_exact, func_type_takes}

module _ {X : Type 0} (p : Rule X) (first : List Token) (commas : Bool) (exact : Exact p) (begins : Begins first p) (takes : Takes p) where
  pub body_exact : Exact (body p first commas)
  body_exact = bind _ _ (token_exact k.OpenBrace) (λ _. bind _ _ (list_exact p first k.CloseBrace commas exact begins takes) (λ xs. bind _ _ (token_exact k.CloseBrace) (λ _. pure_exact _)))

  pub body_takes : Takes (body p first commas)
  body_takes = bind_takes _ _ (token_takes k.OpenBrace) (λ _. bind_keeps _ _ (list_keeps p first k.CloseBrace commas exact begins takes) (λ xs. bind_keeps _ _ (still_keeps _ (token_takes k.CloseBrace)) (λ _. pure_keeps _)))

some_exact : {X : Type 0} (xs : List X) (ty : DeclaredType) (kind : MemberKind) (close : SourceSpan) → Exact (some_member xs ty kind close)
some_exact [] ty kind close = refuse_exact _
some_exact (x ∷ xs) ty kind close = pure_exact _

some_keeps : {X : Type 0} (xs : List X) (ty : DeclaredType) (kind : MemberKind) (close : SourceSpan) → Keeps (some_member xs ty kind close)
some_keeps [] ty kind close = still_keeps _ (refuse_takes _)
some_keeps (x ∷ xs) ty kind close = pure_keeps _

module _ {X : Type 0} (p : Rule X) (ty : DeclaredType) (kind : MemberKind) (exact : Exact p) (begins : Begins (k.Ident ∷ []) p) (takes : Takes p) where
  members_exact : Exact (members p ty kind)
  members_exact = bind _ _ (token_exact k.OpenBrace) (λ _. bind _ _ (list_exact p (k.Ident ∷ []) k.CloseBrace true exact begins takes) (λ xs. bind _ _ (token_exact k.CloseBrace) (λ close. some_exact xs ty kind close)))

  members_takes : Takes (members p ty kind)
  members_takes = bind_takes _ _ (token_takes k.OpenBrace) (λ _. bind_keeps _ _ (list_keeps p (k.Ident ∷ []) k.CloseBrace true exact begins takes) (λ xs. bind_keeps _ _ (still_keeps _ (token_takes k.CloseBrace)) (λ close. some_keeps xs ty kind close)))

pub case_type_exact : Exact case_type
unfolding case_type
case_type_exact = bind _ _ (optional_exact k.OpenParen) (λ v0. choose_exact v0 _ _ (bind _ _ (value_type_exact) (λ v1. bind _ _ (token_exact k.CloseParen) (λ v2. pure_exact _))) (pure_exact _))

pub case_type_keeps : Keeps case_type
unfolding case_type
case_type_keeps = bind_keeps _ _ (optional_keeps k.OpenParen) (λ v0. choose_keeps v0 _ _ (bind_keeps _ _ (still_keeps _ (value_type_takes)) (λ v1. bind_keeps _ _ (still_keeps _ (token_takes k.CloseParen)) (λ v2. pure_keeps _))) (pure_keeps _))

pub variant_case_exact : Exact variant_case
unfolding variant_case
variant_case_exact = bind _ _ (docs_exact) (λ v0. bind _ _ (ident_exact) (λ v1. bind _ _ (case_type_exact) (λ v2. pure_exact _)))

pub variant_case_takes : Takes variant_case
unfolding variant_case
variant_case_takes = then_takes _ _ (docs_keeps) (λ v0. bind_takes _ _ (ident_takes) (λ v1. bind_keeps _ _ (case_type_keeps) (λ v2. pure_keeps _)))

pub variant_case_begins : Begins (k.Ident ∷ []) variant_case
unfolding variant_case
variant_case_begins = silent_begins _ docs _ docs_silent (λ v. bind_begins _ _ _ (ident_begins))

pub variant_cases_exact : Exact variant_cases
unfolding variant_cases
variant_cases_exact = members_exact variant_case declared.Variant member.Case variant_case_exact variant_case_begins variant_case_takes

pub variant_cases_takes : Takes variant_cases
unfolding variant_cases
variant_cases_takes = members_takes variant_case declared.Variant member.Case variant_case_exact variant_case_begins variant_case_takes

pub variant_decl_exact : Exact variant_decl
unfolding variant_decl
variant_decl_exact = bind _ _ (docs_exact) (λ v0. bind _ _ (token_exact k.VariantKeyword) (λ v1. bind _ _ (ident_exact) (λ v2. bind _ _ (variant_cases_exact) (λ v3. pure_exact _))))

pub variant_decl_takes : Takes variant_decl
unfolding variant_decl
variant_decl_takes = then_takes _ _ (docs_keeps) (λ v0. bind_takes _ _ (token_takes k.VariantKeyword) (λ v1. bind_keeps _ _ (still_keeps _ (ident_takes)) (λ v2. bind_keeps _ _ (still_keeps _ (variant_cases_takes)) (λ v3. pure_keeps _))))

pub variant_decl_begins : Begins (k.VariantKeyword ∷ []) variant_decl
unfolding variant_decl
variant_decl_begins = silent_begins _ docs _ docs_silent (λ v. bind_begins _ _ _ (token_begins k.VariantKeyword _))

pub field_exact : Exact field
unfolding field
field_exact = bind _ _ (docs_exact) (λ v0. bind _ _ (named_type_exact) (λ v1. pure_exact _))

pub field_takes : Takes field
unfolding field
field_takes = then_takes _ _ (docs_keeps) (λ v0. bind_takes _ _ (named_type_takes) (λ v1. pure_keeps _))

pub field_begins : Begins (k.Ident ∷ []) field
unfolding field
field_begins = silent_begins _ docs _ docs_silent (λ v. bind_begins _ _ _ (named_type_begins))

pub record_fields_exact : Exact record_fields
unfolding record_fields
record_fields_exact = members_exact field declared.Record member.Field field_exact field_begins field_takes

pub record_fields_takes : Takes record_fields
unfolding record_fields
record_fields_takes = members_takes field declared.Record member.Field field_exact field_begins field_takes

pub record_decl_exact : Exact record_decl
unfolding record_decl
record_decl_exact = bind _ _ (docs_exact) (λ v0. bind _ _ (token_exact k.RecordKeyword) (λ v1. bind _ _ (ident_exact) (λ v2. bind _ _ (record_fields_exact) (λ v3. pure_exact _))))

pub record_decl_takes : Takes record_decl
unfolding record_decl
record_decl_takes = then_takes _ _ (docs_keeps) (λ v0. bind_takes _ _ (token_takes k.RecordKeyword) (λ v1. bind_keeps _ _ (still_keeps _ (ident_takes)) (λ v2. bind_keeps _ _ (still_keeps _ (record_fields_takes)) (λ v3. pure_keeps _))))

pub record_decl_begins : Begins (k.RecordKeyword ∷ []) record_decl
unfolding record_decl
record_decl_begins = silent_begins _ docs _ docs_silent (λ v. bind_begins _ _ _ (token_begins k.RecordKeyword _))

pub flag_exact : Exact flag
unfolding flag
flag_exact = bind _ _ (docs_exact) (λ v0. bind _ _ (ident_exact) (λ v1. pure_exact _))

pub flag_takes : Takes flag
unfolding flag
flag_takes = then_takes _ _ (docs_keeps) (λ v0. bind_takes _ _ (ident_takes) (λ v1. pure_keeps _))

pub flag_begins : Begins (k.Ident ∷ []) flag
unfolding flag
flag_begins = silent_begins _ docs _ docs_silent (λ v. bind_begins _ _ _ (ident_begins))

pub flags_members_exact : Exact flags_members
unfolding flags_members
flags_members_exact = members_exact flag declared.Flags member.Flag flag_exact flag_begins flag_takes

pub flags_members_takes : Takes flags_members
unfolding flags_members
flags_members_takes = members_takes flag declared.Flags member.Flag flag_exact flag_begins flag_takes

pub flags_decl_exact : Exact flags_decl
unfolding flags_decl
flags_decl_exact = bind _ _ (docs_exact) (λ v0. bind _ _ (token_exact k.FlagsKeyword) (λ v1. bind _ _ (ident_exact) (λ v2. bind _ _ (flags_members_exact) (λ v3. pure_exact _))))

pub flags_decl_takes : Takes flags_decl
unfolding flags_decl
flags_decl_takes = then_takes _ _ (docs_keeps) (λ v0. bind_takes _ _ (token_takes k.FlagsKeyword) (λ v1. bind_keeps _ _ (still_keeps _ (ident_takes)) (λ v2. bind_keeps _ _ (still_keeps _ (flags_members_takes)) (λ v3. pure_keeps _))))

pub flags_decl_begins : Begins (k.FlagsKeyword ∷ []) flags_decl
unfolding flags_decl
flags_decl_begins = silent_begins _ docs _ docs_silent (λ v. bind_begins _ _ _ (token_begins k.FlagsKeyword _))

pub enum_case_exact : Exact enum_case
unfolding enum_case
enum_case_exact = bind _ _ (docs_exact) (λ v0. bind _ _ (ident_exact) (λ v1. pure_exact _))

pub enum_case_takes : Takes enum_case
unfolding enum_case
enum_case_takes = then_takes _ _ (docs_keeps) (λ v0. bind_takes _ _ (ident_takes) (λ v1. pure_keeps _))

pub enum_case_begins : Begins (k.Ident ∷ []) enum_case
unfolding enum_case
enum_case_begins = silent_begins _ docs _ docs_silent (λ v. bind_begins _ _ _ (ident_begins))

pub enum_cases_exact : Exact enum_cases
unfolding enum_cases
enum_cases_exact = members_exact enum_case declared.Enum member.Case enum_case_exact enum_case_begins enum_case_takes

pub enum_cases_takes : Takes enum_cases
unfolding enum_cases
enum_cases_takes = members_takes enum_case declared.Enum member.Case enum_case_exact enum_case_begins enum_case_takes

pub enum_decl_exact : Exact enum_decl
unfolding enum_decl
enum_decl_exact = bind _ _ (docs_exact) (λ v0. bind _ _ (token_exact k.EnumKeyword) (λ v1. bind _ _ (ident_exact) (λ v2. bind _ _ (enum_cases_exact) (λ v3. pure_exact _))))

pub enum_decl_takes : Takes enum_decl
unfolding enum_decl
enum_decl_takes = then_takes _ _ (docs_keeps) (λ v0. bind_takes _ _ (token_takes k.EnumKeyword) (λ v1. bind_keeps _ _ (still_keeps _ (ident_takes)) (λ v2. bind_keeps _ _ (still_keeps _ (enum_cases_takes)) (λ v3. pure_keeps _))))

pub enum_decl_begins : Begins (k.EnumKeyword ∷ []) enum_decl
unfolding enum_decl
enum_decl_begins = silent_begins _ docs _ docs_silent (λ v. bind_begins _ _ _ (token_begins k.EnumKeyword _))

pub type_alias_kind_exact : Exact type_alias_kind
unfolding type_alias_kind
type_alias_kind_exact = begin_any_exact func_first _ _ (bind _ _ (func_type_exact) (λ v0. pure_exact _)) (begin_any_exact type_first _ _ (bind _ _ (value_type_exact) (λ v0. pure_exact _)) (refuse_exact _))

pub type_alias_kind_takes : Takes type_alias_kind
unfolding type_alias_kind
type_alias_kind_takes = begin_any_takes func_first _ _ (bind_takes _ _ (func_type_takes) (λ v0. pure_keeps _)) (begin_any_takes type_first _ _ (bind_takes _ _ (value_type_takes) (λ v0. pure_keeps _)) (refuse_takes _))

pub type_alias_exact : Exact type_alias
unfolding type_alias
type_alias_exact = bind _ _ (docs_exact) (λ v0. bind _ _ (token_exact k.TypeKeyword) (λ v1. bind _ _ (ident_exact) (λ v2. bind _ _ (token_exact k.Equals) (λ v3. bind _ _ (type_alias_kind_exact) (λ v4. bind _ _ (token_exact k.Semicolon) (λ v5. pure_exact _))))))

pub type_alias_takes : Takes type_alias
unfolding type_alias
type_alias_takes = then_takes _ _ (docs_keeps) (λ v0. bind_takes _ _ (token_takes k.TypeKeyword) (λ v1. bind_keeps _ _ (still_keeps _ (ident_takes)) (λ v2. bind_keeps _ _ (still_keeps _ (token_takes k.Equals)) (λ v3. bind_keeps _ _ (still_keeps _ (type_alias_kind_takes)) (λ v4. bind_keeps _ _ (still_keeps _ (token_takes k.Semicolon)) (λ v5. pure_keeps _))))))

pub type_alias_begins : Begins (k.TypeKeyword ∷ []) type_alias
unfolding type_alias
type_alias_begins = silent_begins _ docs _ docs_silent (λ v. bind_begins _ _ _ (token_begins k.TypeKeyword _))

pub constructor_exact : Exact constructor
unfolding constructor
constructor_exact = bind _ _ (docs_exact) (λ v0. bind _ _ (token_exact k.ConstructorKeyword) (λ v1. bind _ _ (func_params_exact) (λ v2. bind _ _ (token_exact k.Semicolon) (λ v3. pure_exact _))))

pub constructor_takes : Takes constructor
unfolding constructor
constructor_takes = then_takes _ _ (docs_keeps) (λ v0. bind_takes _ _ (token_takes k.ConstructorKeyword) (λ v1. bind_keeps _ _ (still_keeps _ (func_params_takes)) (λ v2. bind_keeps _ _ (still_keeps _ (token_takes k.Semicolon)) (λ v3. pure_keeps _))))

pub constructor_begins : Begins (k.ConstructorKeyword ∷ []) constructor
unfolding constructor
constructor_begins = silent_begins _ docs _ docs_silent (λ v. bind_begins _ _ _ (token_begins k.ConstructorKeyword _))

pub static_mark_exact : Exact static_mark
unfolding static_mark
static_mark_exact = begin_exact k.StaticKeyword _ _ (bind _ _ (token_exact k.StaticKeyword) (λ v0. pure_exact _)) (pure_exact _)

pub static_mark_keeps : Keeps static_mark
unfolding static_mark
static_mark_keeps = begin_keeps k.StaticKeyword _ _ (bind_keeps _ _ (still_keeps _ (token_takes k.StaticKeyword)) (λ v0. pure_keeps _)) (pure_keeps _)

pub method_exact : Exact method
unfolding method
method_exact = bind _ _ (docs_exact) (λ v0. bind _ _ (ident_exact) (λ v1. bind _ _ (token_exact k.Colon) (λ v2. bind _ _ (static_mark_exact) (λ v3. bind _ _ (func_type_exact) (λ v4. bind _ _ (token_exact k.Semicolon) (λ v5. pure_exact _))))))

pub method_takes : Takes method
unfolding method
method_takes = then_takes _ _ (docs_keeps) (λ v0. bind_takes _ _ (ident_takes) (λ v1. bind_keeps _ _ (still_keeps _ (token_takes k.Colon)) (λ v2. bind_keeps _ _ (static_mark_keeps) (λ v3. bind_keeps _ _ (still_keeps _ (func_type_takes)) (λ v4. bind_keeps _ _ (still_keeps _ (token_takes k.Semicolon)) (λ v5. pure_keeps _))))))

pub method_begins : Begins (k.Ident ∷ []) method
unfolding method
method_begins = silent_begins _ docs _ docs_silent (λ v. bind_begins _ _ _ (ident_begins))

pub resource_method_exact : Exact resource_method
unfolding resource_method
resource_method_exact = begin_exact k.ConstructorKeyword _ _ (bind _ _ (constructor_exact) (λ v0. pure_exact _)) (begin_exact k.Ident _ _ (bind _ _ (method_exact) (λ v0. pure_exact _)) (refuse_exact _))

pub resource_method_takes : Takes resource_method
unfolding resource_method
resource_method_takes = begin_takes k.ConstructorKeyword _ _ (bind_takes _ _ (constructor_takes) (λ v0. pure_keeps _)) (begin_takes k.Ident _ _ (bind_takes _ _ (method_takes) (λ v0. pure_keeps _)) (refuse_takes _))

pub resource_method_begins : Begins method_first resource_method
unfolding resource_method
resource_method_begins = begin_begins k.ConstructorKeyword _ _ _ (begin_begins k.Ident _ _ _ (refuse_begins _ _))

pub resource_methods_exact : Exact resource_methods
unfolding resource_methods
resource_methods_exact = begin_exact k.Semicolon _ _ (bind _ _ (token_exact k.Semicolon) (λ v0. pure_exact _)) (begin_exact k.OpenBrace _ _ (body_exact resource_method method_first false resource_method_exact resource_method_begins resource_method_takes) (refuse_exact _))

pub resource_methods_takes : Takes resource_methods
unfolding resource_methods
resource_methods_takes = begin_takes k.Semicolon _ _ (bind_takes _ _ (token_takes k.Semicolon) (λ v0. pure_keeps _)) (begin_takes k.OpenBrace _ _ (body_takes resource_method method_first false resource_method_exact resource_method_begins resource_method_takes) (refuse_takes _))

pub resource_decl_exact : Exact resource_decl
unfolding resource_decl
resource_decl_exact = bind _ _ (docs_exact) (λ v0. bind _ _ (token_exact k.ResourceKeyword) (λ v1. bind _ _ (ident_exact) (λ v2. bind _ _ (resource_methods_exact) (λ v3. pure_exact _))))

pub resource_decl_takes : Takes resource_decl
unfolding resource_decl
resource_decl_takes = then_takes _ _ (docs_keeps) (λ v0. bind_takes _ _ (token_takes k.ResourceKeyword) (λ v1. bind_keeps _ _ (still_keeps _ (ident_takes)) (λ v2. bind_keeps _ _ (still_keeps _ (resource_methods_takes)) (λ v3. pure_keeps _))))

pub resource_decl_begins : Begins (k.ResourceKeyword ∷ []) resource_decl
unfolding resource_decl
resource_decl_begins = silent_begins _ docs _ docs_silent (λ v. bind_begins _ _ _ (token_begins k.ResourceKeyword _))

pub type_decl_exact : Exact type_decl
unfolding type_decl
type_decl_exact = begin_exact k.VariantKeyword _ _ (bind _ _ (variant_decl_exact) (λ v0. pure_exact _)) (begin_exact k.RecordKeyword _ _ (bind _ _ (record_decl_exact) (λ v0. pure_exact _)) (begin_exact k.FlagsKeyword _ _ (bind _ _ (flags_decl_exact) (λ v0. pure_exact _)) (begin_exact k.EnumKeyword _ _ (bind _ _ (enum_decl_exact) (λ v0. pure_exact _)) (begin_exact k.TypeKeyword _ _ (bind _ _ (type_alias_exact) (λ v0. pure_exact _)) (refuse_exact _)))))

pub type_decl_takes : Takes type_decl
unfolding type_decl
type_decl_takes = begin_takes k.VariantKeyword _ _ (bind_takes _ _ (variant_decl_takes) (λ v0. pure_keeps _)) (begin_takes k.RecordKeyword _ _ (bind_takes _ _ (record_decl_takes) (λ v0. pure_keeps _)) (begin_takes k.FlagsKeyword _ _ (bind_takes _ _ (flags_decl_takes) (λ v0. pure_keeps _)) (begin_takes k.EnumKeyword _ _ (bind_takes _ _ (enum_decl_takes) (λ v0. pure_keeps _)) (begin_takes k.TypeKeyword _ _ (bind_takes _ _ (type_alias_takes) (λ v0. pure_keeps _)) (refuse_takes _)))))

pub type_decl_begins : Begins type_decl_first type_decl
unfolding type_decl
type_decl_begins = begin_begins k.VariantKeyword _ _ _ (begin_begins k.RecordKeyword _ _ _ (begin_begins k.FlagsKeyword _ _ _ (begin_begins k.EnumKeyword _ _ _ (begin_begins k.TypeKeyword _ _ _ (refuse_begins _ _)))))

pub item_type_decl_exact : Exact item_type_decl
unfolding item_type_decl
item_type_decl_exact = begin_exact k.ResourceKeyword _ _ (bind _ _ (resource_decl_exact) (λ v0. pure_exact _)) (begin_exact k.VariantKeyword _ _ (bind _ _ (variant_decl_exact) (λ v0. pure_exact _)) (begin_exact k.RecordKeyword _ _ (bind _ _ (record_decl_exact) (λ v0. pure_exact _)) (begin_exact k.FlagsKeyword _ _ (bind _ _ (flags_decl_exact) (λ v0. pure_exact _)) (begin_exact k.EnumKeyword _ _ (bind _ _ (enum_decl_exact) (λ v0. pure_exact _)) (begin_exact k.TypeKeyword _ _ (bind _ _ (type_alias_exact) (λ v0. pure_exact _)) (refuse_exact _))))))

pub item_type_decl_takes : Takes item_type_decl
unfolding item_type_decl
item_type_decl_takes = begin_takes k.ResourceKeyword _ _ (bind_takes _ _ (resource_decl_takes) (λ v0. pure_keeps _)) (begin_takes k.VariantKeyword _ _ (bind_takes _ _ (variant_decl_takes) (λ v0. pure_keeps _)) (begin_takes k.RecordKeyword _ _ (bind_takes _ _ (record_decl_takes) (λ v0. pure_keeps _)) (begin_takes k.FlagsKeyword _ _ (bind_takes _ _ (flags_decl_takes) (λ v0. pure_keeps _)) (begin_takes k.EnumKeyword _ _ (bind_takes _ _ (enum_decl_takes) (λ v0. pure_keeps _)) (begin_takes k.TypeKeyword _ _ (bind_takes _ _ (type_alias_takes) (λ v0. pure_keeps _)) (refuse_takes _))))))

pub item_type_decl_begins : Begins item_type_decl_first item_type_decl
unfolding item_type_decl
item_type_decl_begins = begin_begins k.ResourceKeyword _ _ _ (begin_begins k.VariantKeyword _ _ _ (begin_begins k.RecordKeyword _ _ _ (begin_begins k.FlagsKeyword _ _ _ (begin_begins k.EnumKeyword _ _ _ (begin_begins k.TypeKeyword _ _ _ (refuse_begins _ _))))))
