-- The faults of declarations stand in the source.
use Rattle.std.proofs.Common.{Bool, false, List}
use Rattle.wac_parser_lexer.specs.declared.token.Token.{Token}
use Rattle.wac_parser_lexer.specs.declared.token.Token.TheVariants as k
use Rattle.wac_parser_grammar.specs.Rules.{Rule}
use Rattle.wac_parser_grammar.proofs.Faithful.{Faithful, Any, anywhere, bind_faithful, pure_faithful, choose_faithful, none_both, refuse_faithful, token_faithful, begin_faithful, begin_any_faithful, optional_faithful}
use Rattle.wac_parser_grammar.proofs.FaithfulLists.{list_faithful}
use Rattle.wac_parser_grammar.specs.declared.error.DeclaredType.TheVariants as declared
use Rattle.wac_parser_grammar.specs.declared.error.MemberKind.TheVariants as member
use Rattle.wac_parser_grammar.specs.ValueTypes.{type_first, func_first}
use Rattle.wac_parser_grammar.specs.Declarations.{method_first, body, case_type, variant_case, variant_cases, variant_decl, field, record_fields, record_decl, flag, flags_members, flags_decl, enum_case, enum_cases, enum_decl, type_alias_kind, type_alias, constructor, static_mark, method, resource_method, resource_methods, resource_decl, type_decl, item_type_decl}
use Rattle.wac_parser_grammar.proofs.Exact.{Exact, Takes}
use Rattle.wac_parser_grammar.proofs.DeclLaws.{variant_case_exact, variant_case_begins, variant_case_takes, field_exact, field_begins, field_takes, flag_exact, flag_begins, flag_takes, enum_case_exact, enum_case_begins, enum_case_takes, resource_method_exact, resource_method_takes}
use Rattle.wac_parser_grammar.proofs.EarlierFaults.{members_faithful}
use Rattle.wac_parser_grammar.proofs.NameFaults.{docs_faithful, ident_faithful}
use Rattle.wac_parser_grammar.proofs.TypeFaults.{value_type_faithful, named_type_faithful, func_params_faithful, func_type_faithful}

module _ {X : Type 0} (p : Rule X) (first : List Token) (commas : Bool) (exact : Exact p) (takes : Takes p) (faithful : Faithful Any p) where
  pub body_faithful : Faithful Any (body p first commas)
  body_faithful = bind_faithful _ _ (token_faithful k.OpenBrace) (λ _. bind_faithful _ _ (list_faithful p first k.CloseBrace commas exact takes faithful) (λ xs. bind_faithful _ _ (token_faithful k.CloseBrace) (λ _. pure_faithful _)))

pub case_type_faithful : Faithful Any case_type
unfolding case_type
case_type_faithful = bind_faithful _ _ (optional_faithful k.OpenParen) (λ v0. choose_faithful v0 _ _ (bind_faithful _ _ (value_type_faithful) (λ v1. bind_faithful _ _ (token_faithful k.CloseParen) (λ v2. pure_faithful _))) (pure_faithful _))

pub variant_case_faithful : Faithful Any variant_case
unfolding variant_case
variant_case_faithful = bind_faithful _ _ (docs_faithful) (λ v0. bind_faithful _ _ (ident_faithful) (λ v1. bind_faithful _ _ (case_type_faithful) (λ v2. pure_faithful _)))

pub variant_cases_faithful : Faithful Any variant_cases
unfolding variant_cases
variant_cases_faithful = members_faithful variant_case declared.Variant member.Case variant_case_exact variant_case_begins variant_case_takes variant_case_faithful

pub variant_decl_faithful : Faithful Any variant_decl
unfolding variant_decl
variant_decl_faithful = bind_faithful _ _ (docs_faithful) (λ v0. bind_faithful _ _ (token_faithful k.VariantKeyword) (λ v1. bind_faithful _ _ (ident_faithful) (λ v2. bind_faithful _ _ (variant_cases_faithful) (λ v3. pure_faithful _))))

pub field_faithful : Faithful Any field
unfolding field
field_faithful = bind_faithful _ _ (docs_faithful) (λ v0. bind_faithful _ _ (named_type_faithful) (λ v1. pure_faithful _))

pub record_fields_faithful : Faithful Any record_fields
unfolding record_fields
record_fields_faithful = members_faithful field declared.Record member.Field field_exact field_begins field_takes field_faithful

pub record_decl_faithful : Faithful Any record_decl
unfolding record_decl
record_decl_faithful = bind_faithful _ _ (docs_faithful) (λ v0. bind_faithful _ _ (token_faithful k.RecordKeyword) (λ v1. bind_faithful _ _ (ident_faithful) (λ v2. bind_faithful _ _ (record_fields_faithful) (λ v3. pure_faithful _))))

pub flag_faithful : Faithful Any flag
unfolding flag
flag_faithful = bind_faithful _ _ (docs_faithful) (λ v0. bind_faithful _ _ (ident_faithful) (λ v1. pure_faithful _))

pub flags_members_faithful : Faithful Any flags_members
unfolding flags_members
flags_members_faithful = members_faithful flag declared.Flags member.Flag flag_exact flag_begins flag_takes flag_faithful

pub flags_decl_faithful : Faithful Any flags_decl
unfolding flags_decl
flags_decl_faithful = bind_faithful _ _ (docs_faithful) (λ v0. bind_faithful _ _ (token_faithful k.FlagsKeyword) (λ v1. bind_faithful _ _ (ident_faithful) (λ v2. bind_faithful _ _ (flags_members_faithful) (λ v3. pure_faithful _))))

pub enum_case_faithful : Faithful Any enum_case
unfolding enum_case
enum_case_faithful = bind_faithful _ _ (docs_faithful) (λ v0. bind_faithful _ _ (ident_faithful) (λ v1. pure_faithful _))

pub enum_cases_faithful : Faithful Any enum_cases
unfolding enum_cases
enum_cases_faithful = members_faithful enum_case declared.Enum member.Case enum_case_exact enum_case_begins enum_case_takes enum_case_faithful

pub enum_decl_faithful : Faithful Any enum_decl
unfolding enum_decl
enum_decl_faithful = bind_faithful _ _ (docs_faithful) (λ v0. bind_faithful _ _ (token_faithful k.EnumKeyword) (λ v1. bind_faithful _ _ (ident_faithful) (λ v2. bind_faithful _ _ (enum_cases_faithful) (λ v3. pure_faithful _))))

pub type_alias_kind_faithful : Faithful Any type_alias_kind
unfolding type_alias_kind
type_alias_kind_faithful = begin_any_faithful func_first _ _ (bind_faithful _ _ (func_type_faithful) (λ v0. pure_faithful _)) (begin_any_faithful type_first _ _ (bind_faithful _ _ (anywhere (value_type_faithful)) (λ v0. pure_faithful _)) (refuse_faithful _ (λ s h. none_both _ _ _ h.0.1 h.1)))

pub type_alias_faithful : Faithful Any type_alias
unfolding type_alias
type_alias_faithful = bind_faithful _ _ (docs_faithful) (λ v0. bind_faithful _ _ (token_faithful k.TypeKeyword) (λ v1. bind_faithful _ _ (ident_faithful) (λ v2. bind_faithful _ _ (token_faithful k.Equals) (λ v3. bind_faithful _ _ (type_alias_kind_faithful) (λ v4. bind_faithful _ _ (token_faithful k.Semicolon) (λ v5. pure_faithful _))))))

pub constructor_faithful : Faithful Any constructor
unfolding constructor
constructor_faithful = bind_faithful _ _ (docs_faithful) (λ v0. bind_faithful _ _ (token_faithful k.ConstructorKeyword) (λ v1. bind_faithful _ _ (func_params_faithful) (λ v2. bind_faithful _ _ (token_faithful k.Semicolon) (λ v3. pure_faithful _))))

pub static_mark_faithful : Faithful Any static_mark
unfolding static_mark
static_mark_faithful = begin_faithful k.StaticKeyword _ _ (bind_faithful _ _ (token_faithful k.StaticKeyword) (λ v0. pure_faithful _)) (pure_faithful _)

pub method_faithful : Faithful Any method
unfolding method
method_faithful = bind_faithful _ _ (docs_faithful) (λ v0. bind_faithful _ _ (ident_faithful) (λ v1. bind_faithful _ _ (token_faithful k.Colon) (λ v2. bind_faithful _ _ (static_mark_faithful) (λ v3. bind_faithful _ _ (func_type_faithful) (λ v4. bind_faithful _ _ (token_faithful k.Semicolon) (λ v5. pure_faithful _))))))

pub resource_method_faithful : Faithful Any resource_method
unfolding resource_method
resource_method_faithful = begin_faithful k.ConstructorKeyword _ _ (bind_faithful _ _ (constructor_faithful) (λ v0. pure_faithful _)) (begin_faithful k.Ident _ _ (bind_faithful _ _ (anywhere (method_faithful)) (λ v0. pure_faithful _)) (refuse_faithful _ (λ s h. none_both _ _ _ h.0.1 h.1)))

pub resource_methods_faithful : Faithful Any resource_methods
unfolding resource_methods
resource_methods_faithful = begin_faithful k.Semicolon _ _ (bind_faithful _ _ (token_faithful k.Semicolon) (λ v0. pure_faithful _)) (begin_faithful k.OpenBrace _ _ (anywhere (body_faithful resource_method method_first false resource_method_exact resource_method_takes resource_method_faithful)) (refuse_faithful _ (λ s h. none_both _ _ _ h.0.1 h.1)))

pub resource_decl_faithful : Faithful Any resource_decl
unfolding resource_decl
resource_decl_faithful = bind_faithful _ _ (docs_faithful) (λ v0. bind_faithful _ _ (token_faithful k.ResourceKeyword) (λ v1. bind_faithful _ _ (ident_faithful) (λ v2. bind_faithful _ _ (resource_methods_faithful) (λ v3. pure_faithful _))))

pub type_decl_faithful : Faithful Any type_decl
unfolding type_decl
type_decl_faithful = begin_faithful k.VariantKeyword _ _ (bind_faithful _ _ (variant_decl_faithful) (λ v0. pure_faithful _)) (begin_faithful k.RecordKeyword _ _ (bind_faithful _ _ (anywhere (record_decl_faithful)) (λ v0. pure_faithful _)) (begin_faithful k.FlagsKeyword _ _ (bind_faithful _ _ (anywhere (flags_decl_faithful)) (λ v0. pure_faithful _)) (begin_faithful k.EnumKeyword _ _ (bind_faithful _ _ (anywhere (enum_decl_faithful)) (λ v0. pure_faithful _)) (begin_faithful k.TypeKeyword _ _ (bind_faithful _ _ (anywhere (type_alias_faithful)) (λ v0. pure_faithful _)) (refuse_faithful _ (λ s h. none_both _ _ _ h.0.0.0.0.1 (none_both _ _ _ h.0.0.0.1 (none_both _ _ _ h.0.0.1 (none_both _ _ _ h.0.1 h.1)))))))))

pub item_type_decl_faithful : Faithful Any item_type_decl
unfolding item_type_decl
item_type_decl_faithful = begin_faithful k.ResourceKeyword _ _ (bind_faithful _ _ (resource_decl_faithful) (λ v0. pure_faithful _)) (begin_faithful k.VariantKeyword _ _ (bind_faithful _ _ (anywhere (variant_decl_faithful)) (λ v0. pure_faithful _)) (begin_faithful k.RecordKeyword _ _ (bind_faithful _ _ (anywhere (record_decl_faithful)) (λ v0. pure_faithful _)) (begin_faithful k.FlagsKeyword _ _ (bind_faithful _ _ (anywhere (flags_decl_faithful)) (λ v0. pure_faithful _)) (begin_faithful k.EnumKeyword _ _ (bind_faithful _ _ (anywhere (enum_decl_faithful)) (λ v0. pure_faithful _)) (begin_faithful k.TypeKeyword _ _ (bind_faithful _ _ (anywhere (type_alias_faithful)) (λ v0. pure_faithful _)) (refuse_faithful _ (λ s h. none_both _ _ _ h.0.0.0.0.0.1 (none_both _ _ _ h.0.0.0.0.1 (none_both _ _ _ h.0.0.0.1 (none_both _ _ _ h.0.0.1 (none_both _ _ _ h.0.1 h.1)))))))))))
