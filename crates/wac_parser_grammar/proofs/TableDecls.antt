-- The rules of declarations accept only their plain forms.
use Rattle.std.proofs.Common.{◌≡◌, inl, inr, true, false, List, [], ◌∷◌}
use Rattle.wac_parser_lexer.specs.declared.token.Token.{Token}
use Rattle.wac_parser_lexer.specs.declared.token.Token.TheVariants as k
use Rattle.wac_parser_lexer.specs.Items.{Input}
use Rattle.wac_parser_tree.specs.Trees as t
use Rattle.wac_parser_lexer.specs.declared.span.SourceSpan.{SourceSpan}
use Rattle.wac_parser_grammar.specs.declared.error.DeclaredType.{DeclaredType}
use Rattle.wac_parser_grammar.specs.declared.error.MemberKind.{MemberKind}
use Rattle.wac_parser_grammar.specs.Rules.{Rule}
use Rattle.wac_parser_grammar.specs.ValueTypes as v
use Rattle.wac_parser_grammar.specs.Declarations as d
use Rattle.wac_parser_grammar.specs.Forms.{Part, Row, OneOrMore, Separated, Braces, Marked}
use Rattle.wac_parser_grammar.specs.FormsOfDeclarations.{Constructor, Method, ResourceMethod, Methods, ResourceDecl, Case, VariantCase, VariantDecl, Field, RecordDecl, Flag, FlagsDecl, EnumCase, EnumDecl, TypeAliasKind, TypeAlias, TypeDecl, ItemTypeDecl}
use Rattle.wac_parser_grammar.proofs.Exact.{Begins}
use Rattle.wac_parser_grammar.proofs.DeclLaws.{variant_case_begins, field_begins, flag_begins, enum_case_begins}
use Rattle.wac_parser_grammar.proofs.TableLaws.{Within, refuse_within, made, begin_within, begin_any_within, word_within, mark_within, marked, optional_within, list_within, row_within}
use Rattle.wac_parser_grammar.proofs.TableTypes.{docs_within, ident_within, value_type_within, named_type_within, func_params_within, func_type_within}

module _ {X : Type 0} (p : Rule X) (F : X → Part) (w : Within p F) where
  pub row_body_within : (first : List Token) → Within (d.body p first false) (λ xs. Braces (Row F xs))
  row_body_within first = record { within = λ s x r h. rw (h.3.3.3.0, h.3.3.3.1) (h.1, (h.0, h.2), (h.3.1, (row_within p F w first k.CloseBrace).within h.1 h.3.0 h.3.1 h.3.2, (h.3.3.0, h.3.3.2))) }

  pub list_body_within : (first : List Token) → Begins first p → Within (d.body p first true) (λ xs. Braces (Separated F xs))
  list_body_within first begins = record { within = λ s x r h. rw (h.3.3.3.0, h.3.3.3.1) (h.1, (h.0, h.2), (h.3.1, (list_within p F w first k.CloseBrace begins).within h.1 h.3.0 h.3.1 h.3.2, (h.3.3.0, h.3.3.2))) }

  some_by : (ty : DeclaredType) (kind : MemberKind) (close : SourceSpan) (xs : List X) (a b : Input) → Separated F xs a b → (ys : List X) (m r : Input) → (d.some_member xs ty kind close).Is ys m r → OneOrMore F ys a b × (r ≡ m)
  some_by ty kind close [] a b have ys m r h = absurd h
  some_by ty kind close (x ∷ xs) a b have ys m r h = (rw h.0 have, h.1)

  pub members_within : Begins (k.Ident ∷ []) p → (ty : DeclaredType) (kind : MemberKind) → Within (d.members p ty kind) (λ xs. Braces (OneOrMore F xs))
  members_within begins ty kind = record {
    within = λ s x r h.
        let all = (list_within p F w (k.Ident ∷ []) k.CloseBrace begins).within h.1 h.3.0 h.3.1 h.3.2 in
        let some = some_by ty kind h.3.3.0 h.3.0 h.1 h.3.1 all x h.3.3.1 r h.3.3.3 in
        rw some.1 (h.1, (h.0, h.2), (h.3.1, some.0, (h.3.3.0, h.3.3.2)));
  }

pub case_type_within : Within d.case_type Case
unfolding d.case_type
case_type_within = record {
  within = λ s x r h. let mark = (optional_within k.OpenParen).within s h.0 h.1 h.2 in
      elim h.3 [
        | inl w ↦ (let a = w.1 in rw (a.3.3.0, a.3.3.1) (h.1, marked k.OpenParen h.0 true s h.1 w.0 mark, (a.1, value_type_within.within h.1 a.0 a.1 a.2, (a.3.0, a.3.2))))
        | inr w ↦ rw (w.1.0, w.1.1) (marked k.OpenParen h.0 false s h.1 w.0 mark)
      ];
}

pub variant_case_within : Within d.variant_case VariantCase
unfolding d.variant_case
variant_case_within = record { within = λ s x r h. rw (h.3.3.3.0, h.3.3.3.1) (h.1, docs_within.within s h.0 h.1 h.2, (h.3.1, ident_within.within h.1 h.3.0 h.3.1 h.3.2, case_type_within.within h.3.1 h.3.3.0 h.3.3.1 h.3.3.2)) }

pub variant_cases_within : Within d.variant_cases (λ xs. Braces (OneOrMore VariantCase xs))
unfolding d.variant_cases
variant_cases_within = members_within d.variant_case VariantCase variant_case_within variant_case_begins _ _

pub variant_decl_within : Within d.variant_decl VariantDecl
unfolding d.variant_decl
variant_decl_within = record { within = λ s x r h. rw (h.3.3.3.3.0, h.3.3.3.3.1) (h.1, docs_within.within s h.0 h.1 h.2, (h.3.1, (h.3.0, h.3.2), (h.3.3.1, ident_within.within h.3.1 h.3.3.0 h.3.3.1 h.3.3.2, variant_cases_within.within h.3.3.1 h.3.3.3.0 h.3.3.3.1 h.3.3.3.2))) }

pub field_within : Within d.field Field
unfolding d.field
field_within = record {
  within = λ s x r h. rw (h.3.3.0, h.3.3.1) (h.1, docs_within.within s h.0 h.1 h.2, named_type_within.within h.1 h.3.0 h.3.1 h.3.2);
}

pub record_fields_within : Within d.record_fields (λ xs. Braces (OneOrMore Field xs))
unfolding d.record_fields
record_fields_within = members_within d.field Field field_within field_begins _ _

pub record_decl_within : Within d.record_decl RecordDecl
unfolding d.record_decl
record_decl_within = record { within = λ s x r h. rw (h.3.3.3.3.0, h.3.3.3.3.1) (h.1, docs_within.within s h.0 h.1 h.2, (h.3.1, (h.3.0, h.3.2), (h.3.3.1, ident_within.within h.3.1 h.3.3.0 h.3.3.1 h.3.3.2, record_fields_within.within h.3.3.1 h.3.3.3.0 h.3.3.3.1 h.3.3.3.2))) }

pub flag_within : Within d.flag Flag
unfolding d.flag
flag_within = record { within = λ s x r h. rw (h.3.3.0, h.3.3.1) (h.1, docs_within.within s h.0 h.1 h.2, ident_within.within h.1 h.3.0 h.3.1 h.3.2) }

pub flags_members_within : Within d.flags_members (λ xs. Braces (OneOrMore Flag xs))
unfolding d.flags_members
flags_members_within = members_within d.flag Flag flag_within flag_begins _ _

pub flags_decl_within : Within d.flags_decl FlagsDecl
unfolding d.flags_decl
flags_decl_within = record { within = λ s x r h. rw (h.3.3.3.3.0, h.3.3.3.3.1) (h.1, docs_within.within s h.0 h.1 h.2, (h.3.1, (h.3.0, h.3.2), (h.3.3.1, ident_within.within h.3.1 h.3.3.0 h.3.3.1 h.3.3.2, flags_members_within.within h.3.3.1 h.3.3.3.0 h.3.3.3.1 h.3.3.3.2))) }

pub enum_case_within : Within d.enum_case EnumCase
unfolding d.enum_case
enum_case_within = record { within = λ s x r h. rw (h.3.3.0, h.3.3.1) (h.1, docs_within.within s h.0 h.1 h.2, ident_within.within h.1 h.3.0 h.3.1 h.3.2) }

pub enum_cases_within : Within d.enum_cases (λ xs. Braces (OneOrMore EnumCase xs))
unfolding d.enum_cases
enum_cases_within = members_within d.enum_case EnumCase enum_case_within enum_case_begins _ _

pub enum_decl_within : Within d.enum_decl EnumDecl
unfolding d.enum_decl
enum_decl_within = record { within = λ s x r h. rw (h.3.3.3.3.0, h.3.3.3.3.1) (h.1, docs_within.within s h.0 h.1 h.2, (h.3.1, (h.3.0, h.3.2), (h.3.3.1, ident_within.within h.3.1 h.3.3.0 h.3.3.1 h.3.3.2, enum_cases_within.within h.3.3.1 h.3.3.3.0 h.3.3.3.1 h.3.3.3.2))) }

pub type_alias_kind_within : Within d.type_alias_kind TypeAliasKind
unfolding d.type_alias_kind
type_alias_kind_within =
    begin_any_within v.func_first _ _ TypeAliasKind (made v.func_type t.TypeAliasKind.func TypeAliasKind (record { within = func_type_within.within }))
    (begin_any_within v.type_first _ _ TypeAliasKind (made v.value_type t.TypeAliasKind.ty TypeAliasKind (record { within = value_type_within.within }))
    (refuse_within _ TypeAliasKind))

pub type_alias_within : Within d.type_alias TypeAlias
unfolding d.type_alias
type_alias_within = record { within = λ s x r h. rw (h.3.3.3.3.3.3.0, h.3.3.3.3.3.3.1) (h.1, docs_within.within s h.0 h.1 h.2, (h.3.1, (h.3.0, h.3.2), (h.3.3.1, ident_within.within h.3.1 h.3.3.0 h.3.3.1 h.3.3.2, (h.3.3.3.1, (h.3.3.3.0, h.3.3.3.2), (h.3.3.3.3.1, type_alias_kind_within.within h.3.3.3.1 h.3.3.3.3.0 h.3.3.3.3.1 h.3.3.3.3.2, (h.3.3.3.3.3.0, h.3.3.3.3.3.2)))))) }

pub constructor_within : Within d.constructor Constructor
unfolding d.constructor
constructor_within = record { within = λ s x r h. rw (h.3.3.3.3.0, h.3.3.3.3.1) (h.1, docs_within.within s h.0 h.1 h.2, (h.3.1, h.3.2, (h.3.3.1, func_params_within.within h.3.1 h.3.3.0 h.3.3.1 h.3.3.2, (h.3.3.3.0, h.3.3.3.2)))) }

pub static_mark_within : Within d.static_mark (Marked k.StaticKeyword)
unfolding d.static_mark
static_mark_within = mark_within k.StaticKeyword

pub method_within : Within d.method Method
unfolding d.method
method_within = record { within = λ s x r h. rw (h.3.3.3.3.3.3.0, h.3.3.3.3.3.3.1) (h.1, docs_within.within s h.0 h.1 h.2, (h.3.1, ident_within.within h.1 h.3.0 h.3.1 h.3.2, (h.3.3.1, (h.3.3.0, h.3.3.2), (h.3.3.3.1, static_mark_within.within h.3.3.1 h.3.3.3.0 h.3.3.3.1 h.3.3.3.2, (h.3.3.3.3.1, func_type_within.within h.3.3.3.1 h.3.3.3.3.0 h.3.3.3.3.1 h.3.3.3.3.2, (h.3.3.3.3.3.0, h.3.3.3.3.3.2)))))) }

pub resource_method_within : Within d.resource_method ResourceMethod
unfolding d.resource_method
resource_method_within =
    begin_within k.ConstructorKeyword _ _ ResourceMethod (made d.constructor t.ResourceMethod.constructor ResourceMethod (record { within = constructor_within.within }))
    (begin_within k.Ident _ _ ResourceMethod (made d.method t.ResourceMethod.method ResourceMethod (record { within = method_within.within }))
    (refuse_within _ ResourceMethod))

pub resource_methods_within : Within d.resource_methods Methods
unfolding d.resource_methods
resource_methods_within =
    begin_within k.Semicolon _ _ Methods (word_within k.Semicolon [] Methods (λ s r w. inl w))
    (begin_within k.OpenBrace _ _ Methods (record { within = λ s x r h. inr ((row_body_within d.resource_method ResourceMethod resource_method_within d.method_first).within s x r h) }) (refuse_within _ Methods))

pub resource_decl_within : Within d.resource_decl ResourceDecl
unfolding d.resource_decl
resource_decl_within = record { within = λ s x r h. rw (h.3.3.3.3.0, h.3.3.3.3.1) (h.1, docs_within.within s h.0 h.1 h.2, (h.3.1, (h.3.0, h.3.2), (h.3.3.1, ident_within.within h.3.1 h.3.3.0 h.3.3.1 h.3.3.2, resource_methods_within.within h.3.3.1 h.3.3.3.0 h.3.3.3.1 h.3.3.3.2))) }

pub type_decl_within : Within d.type_decl TypeDecl
unfolding d.type_decl
type_decl_within =
    begin_within k.VariantKeyword _ _ TypeDecl (made d.variant_decl t.TypeDecl.variant TypeDecl (record { within = variant_decl_within.within }))
    (begin_within k.RecordKeyword _ _ TypeDecl (made d.record_decl t.TypeDecl.record_ TypeDecl (record { within = record_decl_within.within }))
    (begin_within k.FlagsKeyword _ _ TypeDecl (made d.flags_decl t.TypeDecl.flags TypeDecl (record { within = flags_decl_within.within }))
    (begin_within k.EnumKeyword _ _ TypeDecl (made d.enum_decl t.TypeDecl.enum TypeDecl (record { within = enum_decl_within.within }))
    (begin_within k.TypeKeyword _ _ TypeDecl (made d.type_alias t.TypeDecl.alias TypeDecl (record { within = type_alias_within.within }))
    (refuse_within _ TypeDecl)))))

pub item_type_decl_within : Within d.item_type_decl ItemTypeDecl
unfolding d.item_type_decl
item_type_decl_within =
    begin_within k.ResourceKeyword _ _ ItemTypeDecl (made d.resource_decl t.ItemTypeDecl.resource ItemTypeDecl (record { within = resource_decl_within.within }))
    (begin_within k.VariantKeyword _ _ ItemTypeDecl (made d.variant_decl t.ItemTypeDecl.variant ItemTypeDecl (record { within = variant_decl_within.within }))
    (begin_within k.RecordKeyword _ _ ItemTypeDecl (made d.record_decl t.ItemTypeDecl.record_ ItemTypeDecl (record { within = record_decl_within.within }))
    (begin_within k.FlagsKeyword _ _ ItemTypeDecl (made d.flags_decl t.ItemTypeDecl.flags ItemTypeDecl (record { within = flags_decl_within.within }))
    (begin_within k.EnumKeyword _ _ ItemTypeDecl (made d.enum_decl t.ItemTypeDecl.enum ItemTypeDecl (record { within = enum_decl_within.within }))
    (begin_within k.TypeKeyword _ _ ItemTypeDecl (made d.type_alias t.ItemTypeDecl.alias ItemTypeDecl (record { within = type_alias_within.within }))
    (refuse_within _ ItemTypeDecl))))))
