-- What has the plain form of a declaration of a type is taken by the rule.
use Rattle.std.proofs.Common.{◌≡◌, ◌⊎◌, inl, inr, Bool, true, false, List, [], ◌∷◌, Option, Some, None, refl, subst, sym, cond}
use Rattle.std.proofs.lemmas.Bool.{false_from_ne_true}
use Rattle.wac_parser_lexer.specs.declared.token.Token.TheVariants as k
use Rattle.wac_parser_lexer.specs.Items.{Input}
use Rattle.wac_parser_tree.specs.Trees as t
use Rattle.wac_parser_grammar.specs.declared.error.DeclaredType.{DeclaredType}
use Rattle.wac_parser_grammar.specs.declared.error.MemberKind.{MemberKind}
use Rattle.wac_parser_grammar.specs.Ahead.{same_token, is_token, next_token, sees, sees_any}
use Rattle.wac_parser_grammar.specs.Rules.{Rule}
use Rattle.wac_parser_grammar.specs.Names as n
use Rattle.wac_parser_grammar.specs.ValueTypes as v
use Rattle.wac_parser_grammar.specs.Declarations as d
use Rattle.wac_parser_grammar.specs.Forms.{Part, At, Braces, OneOrMore}
use Rattle.wac_parser_grammar.specs.FormsOfDeclarations.{Case, VariantCase, VariantDecl, Field, RecordDecl, Flag, FlagsDecl, EnumCase, EnumDecl, TypeAliasKind, TypeAlias}
use Rattle.wac_parser_grammar.specs.FormDepths.{Ends, Always, AllFit, PayloadFits, CaseFits, FieldFits, KindFits, FuncEnds}
use Rattle.wac_parser_grammar.proofs.Exact.{Begins}
use Rattle.wac_parser_grammar.proofs.TypeLaws.{value_type_begins}
use Rattle.wac_parser_grammar.proofs.DeclLaws.{variant_case_begins, field_begins, flag_begins, enum_case_begins}
use Rattle.wac_parser_grammar.proofs.TableLaws.{apart}
use Rattle.wac_parser_grammar.proofs.TableBack.{sees_at, any_at, ends_at, optional_here, optional_past, ident_back, value_type_back}
use Rattle.wac_parser_grammar.proofs.TableBackFuncs.{list_taken, named_type_back, func_type_back, func_begun}

module _ {X : Type 0} (p : Rule X) (F : X → Part) (Fits : X → Type 0) (Stops : Input → Type 0)
    (back : (s : Input) (x : X) (r : Input) → Fits x → F x s r → Stops r → p.Is x s r) (begins : Begins (k.Ident ∷ []) p)
    (at_comma : (span : t.Span) (s m : Input) → At k.Comma span s m → Stops s) (at_end : (span : t.Span) (s m : Input) → At k.CloseBrace span s m → Stops s) where
  pub members_back : (ty : DeclaredType) (kind : MemberKind) (s : Input) (xs : List X) (r : Input) → AllFit Fits xs → Braces (OneOrMore F xs) s r → (d.members p ty kind).Is xs s r
  unfolding same_token
  members_back ty kind s [] r fits h = absurd h.2.1
  members_back ty kind s (x ∷ xs) r fits h = (
    h.1.0,
    h.0,
    h.1.1,
    (
      x ∷ xs,
      h.2.0,
      list_taken p F Fits Stops (k.Ident ∷ []) k.CloseBrace back begins at_comma at_end refl refl (x ∷ xs) h.0 h.2.0 r h.2.2.0 fits h.2.1 h.2.2.1,
      (h.2.2.0, r, h.2.2.1, (refl, refl)),
    ),
  )

case_back : (s : Input) (o : Option t.Ty) (r : Input) → PayloadFits o → Case o s r → Ends k.OpenParen r → d.case_type.Is o s r
unfolding d.case_type same_token
case_back s None r fits h e = let P : Input → Type 0 = λ (i : Input). Ends k.OpenParen i in (false, s, optional_past k.OpenParen s (subst P h e), inr (refl, (refl, h)))
case_back s (Some ty) r fits h e = (
  true,
  h.0,
  optional_here k.OpenParen h.1.0 s h.0 h.1.1,
  inl (
    refl,
    (ty, h.2.0, value_type_back h.0 ty h.2.0 fits h.2.1 (ends_at k.CloseParen k.OpenAngle h.2.2.0 h.2.0 r refl h.2.2.1), (h.2.2.0, r, h.2.2.1, (refl, refl))),
  ),
)

pub variant_case_back : (s : Input) (x : t.VariantCase) (r : Input) → CaseFits x → VariantCase x s r → Ends k.OpenParen r → d.variant_case.Is x s r
unfolding d.variant_case n.docs
variant_case_back s x r fits h e =
    (x.docs, h.0, h.1, (x.id, h.2.0, ident_back h.0 x.id h.2.0 h.2.1, (x.ty, r, case_back h.2.0 x.ty r fits h.2.2 e, (refl, refl))))

pub field_back : (s : Input) (x : t.Field) (r : Input) → FieldFits x → Field x s r → Ends k.OpenAngle r → d.field.Is x s r
unfolding d.field n.docs
field_back s x r fits h e =
    (x.docs, h.0, h.1, (record { id = x.id; ty = x.ty }, r, named_type_back h.0 (record { id = x.id; ty = x.ty }) r fits h.2 e, (refl, refl)))

pub flag_back : (s : Input) (x : t.Flag) (r : Input) → Unit {0} → Flag x s r → Unit {0} → d.flag.Is x s r
unfolding d.flag n.docs
flag_back s x r fits h e = (x.docs, h.0, h.1, (x.id, r, ident_back h.0 x.id r h.2, (refl, refl)))

pub enum_case_back : (s : Input) (x : t.EnumCase) (r : Input) → Unit {0} → EnumCase x s r → Unit {0} → d.enum_case.Is x s r
unfolding d.enum_case n.docs
enum_case_back s x r fits h e = (x.docs, h.0, h.1, (x.id, r, ident_back h.0 x.id r h.2, (refl, refl)))

pub variant_decl_back : (s : Input) (x : t.VariantDecl) (r : Input) → AllFit CaseFits x.cases → VariantDecl x s r → d.variant_decl.Is x s r
unfolding d.variant_decl d.variant_cases n.docs same_token
variant_decl_back s x r fits h =
    let all = members_back d.variant_case VariantCase CaseFits (Ends k.OpenParen) variant_case_back variant_case_begins (λ span s m at. ends_at k.Comma k.OpenParen span s m refl at) (λ span s m at. ends_at k.CloseBrace k.OpenParen span s m refl at) _ _ h.2.2.0 x.cases r fits h.2.2.2 in
    (x.docs, h.0, h.1, (h.2.1.0, h.2.0, h.2.1.1, (x.id, h.2.2.0, ident_back h.2.0 x.id h.2.2.0 h.2.2.1, (x.cases, r, all, (refl, refl)))))

pub record_decl_back : (s : Input) (x : t.RecordDecl) (r : Input) → AllFit FieldFits x.fields → RecordDecl x s r → d.record_decl.Is x s r
unfolding d.record_decl d.record_fields n.docs same_token
record_decl_back s x r fits h =
    let all = members_back d.field Field FieldFits (Ends k.OpenAngle) field_back field_begins (λ span s m at. ends_at k.Comma k.OpenAngle span s m refl at) (λ span s m at. ends_at k.CloseBrace k.OpenAngle span s m refl at) _ _ h.2.2.0 x.fields r fits h.2.2.2 in
    (x.docs, h.0, h.1, (h.2.1.0, h.2.0, h.2.1.1, (x.id, h.2.2.0, ident_back h.2.0 x.id h.2.2.0 h.2.2.1, (x.fields, r, all, (refl, refl)))))

pub flags_decl_back : (s : Input) (x : t.FlagsDecl) (r : Input) → AllFit Always x.flags → FlagsDecl x s r → d.flags_decl.Is x s r
unfolding d.flags_decl d.flags_members n.docs same_token
flags_decl_back s x r fits h =
    let all = members_back d.flag Flag Always Always flag_back flag_begins (λ span s m at. tt) (λ span s m at. tt) _ _ h.2.2.0 x.flags r fits h.2.2.2 in
    (x.docs, h.0, h.1, (h.2.1.0, h.2.0, h.2.1.1, (x.id, h.2.2.0, ident_back h.2.0 x.id h.2.2.0 h.2.2.1, (x.flags, r, all, (refl, refl)))))

pub enum_decl_back : (s : Input) (x : t.EnumDecl) (r : Input) → AllFit Always x.cases → EnumDecl x s r → d.enum_decl.Is x s r
unfolding d.enum_decl d.enum_cases n.docs same_token
enum_decl_back s x r fits h =
    let all = members_back d.enum_case EnumCase Always Always enum_case_back enum_case_begins (λ span s m at. tt) (λ span s m at. tt) _ _ h.2.2.0 x.cases r fits h.2.2.2 in
    (x.docs, h.0, h.1, (h.2.1.0, h.2.0, h.2.1.1, (x.id, h.2.2.0, ident_back h.2.0 x.id h.2.2.0 h.2.2.1, (x.cases, r, all, (refl, refl)))))

any_two : (b c : Bool) → cond b true (cond c true false) ≡ true → (b ≡ true) ⊎ (c ≡ true)
any_two true c e = inl refl
any_two false true e = inr refl
any_two false false e = cc

no_func : (s : Input) → sees_any v.type_first s ≡ true → sees_any v.func_first s ≡ true → ⊥
unfolding sees_any sees same_token
no_func s e f = elim (any_two (is_token k.AsyncKeyword (next_token s)) (is_token k.FuncKeyword (next_token s)) f) [
  | inl w ↦ apart k.AsyncKeyword v.type_first s refl w e
  | inr w ↦ apart k.FuncKeyword v.type_first s refl w e
]

pub type_alias_kind_back : (s : Input) (x : t.TypeAliasKind) (r : Input) → KindFits x → TypeAliasKind x s r → FuncEnds r → d.type_alias_kind.Is x s r
unfolding d.type_alias_kind
type_alias_kind_back s (t.TypeAliasKind.func x) r fits h e =
    (true, s, (sym (func_begun x.is_async s h.0 h.2.0 h.2.1.0 h.1 h.2.1.1), refl), inl (refl, (x, r, func_type_back s x r fits h e, (refl, refl))))
type_alias_kind_back s (t.TypeAliasKind.ty ty) r fits h e =
    let is = value_type_back s ty r fits h e.0 in
    let begun = value_type_begins.begins s ty r is in
    (false, s, (sym (false_from_ne_true (sees_any v.func_first s) (no_func s begun)), refl), inr (refl, (true, s, (sym begun, refl), inl (refl, (ty, r, is, (refl, refl))))))

pub type_alias_back : (s : Input) (x : t.TypeAlias) (r : Input) → KindFits x.kind → TypeAlias x s r → d.type_alias.Is x s r
unfolding d.type_alias n.docs same_token
type_alias_back s x r fits h =
    let i = h.2.2.2.2 in
    let at = i.2.1 in
    let ends : FuncEnds i.0 = (ends_at k.Semicolon k.OpenAngle i.2.0 i.0 r refl at, sees_at k.Semicolon k.Arrow i.2.0 i.0 r at, any_at k.Semicolon v.type_first i.2.0 i.0 r at) in (
      x.docs,
      h.0,
      h.1,
      (
        h.2.1.0,
        h.2.0,
        h.2.1.1,
        (
          x.id,
          h.2.2.0,
          ident_back h.2.0 x.id h.2.2.0 h.2.2.1,
          (
            h.2.2.2.1.0,
            h.2.2.2.0,
            h.2.2.2.1.1,
            (x.kind, i.0, type_alias_kind_back h.2.2.2.0 x.kind i.0 fits i.1 ends, (i.2.0, r, at, (refl, refl))),
          ),
        ),
      ),
    )
