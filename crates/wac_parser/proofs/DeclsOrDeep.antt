-- What has the plain form of a declaration is read, or refused as nested too deep.
use Rattle.std.proofs.Common.{◌≡◌, inl, inr, Bool, true, false, List, [], ◌∷◌, Option, Some, None, refl, subst}
use Rattle.wac_parser_lexer.specs.declared.token.Token.{Token}
use Rattle.wac_parser_lexer.specs.declared.token.Token.TheVariants as k
use Rattle.wac_parser_lexer.specs.Items.{Input}
use Rattle.wac_parser_tree.specs.Trees as t
use Rattle.wac_parser_grammar.specs.declared.error.DeclaredType.{DeclaredType}
use Rattle.wac_parser_grammar.specs.declared.error.MemberKind.{MemberKind}
use Rattle.wac_parser_grammar.specs.Ahead.{same_token, is_any, sees_any}
use Rattle.wac_parser_grammar.specs.Rules.{Rule}
use Rattle.wac_parser_grammar.specs.ValueTypes as v
use Rattle.wac_parser_grammar.specs.Declarations as d
use Rattle.wac_parser_grammar.specs.Forms.{Part, At, Marked, Row, OneOrMore, Braces, Docs, Ident, FuncType}
use Rattle.wac_parser_grammar.specs.FormsOfDeclarations.{Case, VariantCase, VariantDecl, Field, RecordDecl, FlagsDecl, EnumDecl, TypeAliasKind, TypeAlias, Constructor, Method, ResourceMethod, Bodiless, Methods, ResourceDecl, TypeDecl, ItemTypeDecl}
use Rattle.wac_parser_grammar.specs.FormDepths.{Ends, Always, FuncEnds}
use Rattle.wac_parser_grammar.proofs.Exact.{Exact, Takes}
use Rattle.wac_parser_grammar.proofs.DeclLaws.{variant_case_exact, variant_case_takes, field_exact, field_takes, flags_decl_exact, enum_decl_exact, resource_method_exact, resource_method_takes}
use Rattle.wac_parser_grammar.proofs.TableBack.{ends_at}
use Rattle.wac_parser_grammar.proofs.TableBackFuncs.{func_begun}
use Rattle.wac_parser_grammar.proofs.TableBackDecls.{flags_decl_back, enum_decl_back}
use Rattle.wac_parser_grammar.proofs.TableBackChoices.{other, no_two, func_ends, all_always}
use Rattle.wac_parser.proofs.OrDeep.{Meets, met, taken, go, at, as_one, next, behind_docs, seeing_any, opened, closed, come, pass, past, any_here, any_past, docs_met, ident_met}
use Rattle.wac_parser.proofs.OrDeepLists.{list_met, row_met}
use Rattle.wac_parser.proofs.TypesOrDeep.{ty_begun, comma_ends, value_type_met}
use Rattle.wac_parser.proofs.FuncsOrDeep.{named_type_met, params_met, func_type_met}

-- ---- braces

module _ {X : Type 0} (p : Rule X) (F : X → Part) (Stops : Input → Type 0) (first : List Token)
    (meets : (s : Input) (x : X) (r : Input) → F x s r → Stops r → Meets p s x r) (begins : (s : Input) (x : X) (r : Input) → F x s r → sees_any first s ≡ true)
    (exact : Exact p) (takes : Takes p) (apart_end : is_any first (Some k.CloseBrace) ≡ false) where
  pub row_body_met : ((i : Input) → Stops i) → (s : Input) (xs : List X) (r : Input) → Braces (Row F xs) s r → Meets (d.body p first false) s xs r
  row_body_met stop s xs r h =
      go _ (at h.1.1) (go _ (row_met p F Stops first k.CloseBrace meets begins exact takes apart_end stop xs h.0 h.2.0 r h.2.2.0 h.2.1 h.2.2.1) (go _ (at h.2.2.1) (met refl)))

module _ {X : Type 0} (p : Rule X) (F : X → Part) (Stops : Input → Type 0)
    (meets : (s : Input) (x : X) (r : Input) → F x s r → Stops r → Meets p s x r) (begins : (s : Input) (x : X) (r : Input) → F x s r → sees_any (k.Ident ∷ []) s ≡ true)
    (exact : Exact p) (takes : Takes p)
    (at_comma : (span : t.Span) (s m : Input) → At k.Comma span s m → Stops s) (at_end : (span : t.Span) (s m : Input) → At k.CloseBrace span s m → Stops s) where
  members_met : (ty : DeclaredType) (kind : MemberKind) (s : Input) (xs : List X) (r : Input) → Braces (OneOrMore F xs) s r → Meets (d.members p ty kind) s xs r
  unfolding same_token
  members_met ty kind s [] r h = absurd h.2.1
  members_met ty kind s (x ∷ xs) r h =
      let all = list_met p F Stops (k.Ident ∷ []) k.CloseBrace meets begins exact takes refl at_comma at_end refl (x ∷ xs) h.0 h.2.0 r h.2.2.0 h.2.1 h.2.2.1 in
      go _ (at h.1.1) (go _ all (go _ (at h.2.2.1) (met refl)))

-- ---- declarations of types

case_met : (s : Input) (o : Option t.Ty) (r : Input) → Case o s r → Ends k.OpenParen r → Meets d.case_type s o r
unfolding d.case_type same_token
case_met s None r h e = let P : Input → Type 0 = λ (i : Input). Meets d.case_type i None r in subst P h (closed k.OpenParen _ e (met refl))
case_met s (Some ty) r h e =
    opened _ h.1.1 (go _ (value_type_met h.0 ty h.2.0 h.2.1 (ends_at k.CloseParen k.OpenAngle h.2.2.0 h.2.0 r refl h.2.2.1)) (go _ (at h.2.2.1) (met refl)))

variant_case_met : (s : Input) (x : t.VariantCase) (r : Input) → VariantCase x s r → Ends k.OpenParen r → Meets d.variant_case s x r
unfolding d.variant_case
variant_case_met s x r h e = go _ (docs_met h.1) (go _ (ident_met h.2.1) (go _ (case_met h.2.0 x.ty r h.2.2 e) (met refl)))

-- where an identifier stands behind doc comments
ident_begun : (id : t.Ident) (docs : List t.DocComment) (s m r : Input) → Docs docs s m → Ident id m r → sees_any (k.Ident ∷ []) s ≡ true
unfolding same_token
ident_begun id docs s m r d h = seeing_any (k.Ident ∷ []) (behind_docs d.1 h.0)

pub variant_decl_met : (s : Input) (x : t.VariantDecl) (r : Input) → VariantDecl x s r → Meets d.variant_decl s x r
unfolding d.variant_decl d.variant_cases same_token
variant_decl_met s x r h =
    let i = h.2.2 in
    let all = members_met d.variant_case VariantCase (Ends k.OpenParen) variant_case_met (λ s x r h. ident_begun x.id x.docs s h.0 h.2.0 h.1 h.2.1) variant_case_exact variant_case_takes
    (λ span s m at. ends_at k.Comma k.OpenParen span s m refl at) (λ span s m at. ends_at k.CloseBrace k.OpenParen span s m refl at) _ _ i.0 x.cases r i.2 in
    go _ (docs_met h.1) (go _ (at h.2.1.1) (go _ (ident_met i.1) (go _ all (met refl))))

field_met : (s : Input) (x : t.Field) (r : Input) → Field x s r → Ends k.OpenAngle r → Meets d.field s x r
unfolding d.field
field_met s x r h e = go _ (docs_met h.1) (go _ (named_type_met h.0 (record { id = x.id; ty = x.ty }) r h.2 e) (met refl))

pub record_decl_met : (s : Input) (x : t.RecordDecl) (r : Input) → RecordDecl x s r → Meets d.record_decl s x r
unfolding d.record_decl d.record_fields same_token
record_decl_met s x r h =
    let i = h.2.2 in
    let all = members_met d.field Field (Ends k.OpenAngle) field_met (λ s x r h. ident_begun x.id x.docs s h.0 h.2.0 h.1 h.2.1) field_exact field_takes
    comma_ends (λ span s m at. ends_at k.CloseBrace k.OpenAngle span s m refl at) _ _ i.0 x.fields r i.2 in
    go _ (docs_met h.1) (go _ (at h.2.1.1) (go _ (ident_met i.1) (go _ all (met refl))))

pub flags_decl_met : (s : Input) (x : t.FlagsDecl) (r : Input) → FlagsDecl x s r → Meets d.flags_decl s x r
flags_decl_met s x r h = taken flags_decl_exact (flags_decl_back s x r (all_always x.flags) h)

pub enum_decl_met : (s : Input) (x : t.EnumDecl) (r : Input) → EnumDecl x s r → Meets d.enum_decl s x r
enum_decl_met s x r h = taken enum_decl_exact (enum_decl_back s x r (all_always x.cases) h)

type_alias_kind_met : (s : Input) (x : t.TypeAliasKind) (r : Input) → TypeAliasKind x s r → FuncEnds r → Meets d.type_alias_kind s x r
unfolding d.type_alias_kind same_token
type_alias_kind_met s (t.TypeAliasKind.func x) r h e = any_here _ _ (func_begun x.is_async s h.0 h.2.0 h.2.1.0 h.1 h.2.1.1) (as_one t.TypeAliasKind.func (func_type_met s x r h e))
type_alias_kind_met s (t.TypeAliasKind.ty ty) r h e =
    let begun = ty_begun s ty r h in
    let no_func = no_two k.AsyncKeyword k.FuncKeyword s (other k.AsyncKeyword v.type_first s refl begun) (other k.FuncKeyword v.type_first s refl begun) in
    any_past _ _ no_func (any_here _ _ begun (as_one t.TypeAliasKind.ty (value_type_met s ty r h e.0)))

pub type_alias_met : (s : Input) (x : t.TypeAlias) (r : Input) → TypeAlias x s r → Meets d.type_alias s x r
unfolding d.type_alias
type_alias_met s x r h =
    let i = h.2.2.2 in
    let kind = i.2 in
    let end = kind.2 in
    go _ (docs_met h.1) (go _ (at h.2.1.1) (go _ (ident_met h.2.2.1) (go _ (at i.1.1)
    (go _ (type_alias_kind_met i.0 x.kind kind.0 kind.1 (func_ends end.0 kind.0 r end.1)) (go _ (at end.1) (met refl))))))

-- ---- resources

constructor_met : (s : Input) (x : t.Constructor) (r : Input) → Constructor x s r → Meets d.constructor s x r
unfolding d.constructor
constructor_met s x r h =
    let i = h.2.2 in
    go _ (docs_met h.1) (go _ (at h.2.1) (go _ (params_met h.2.0 x.params i.0 i.1) (go _ (at i.2.1) (met refl))))

static_met : (b : Bool) (x : t.FuncType) (s m r : Input) → Marked k.StaticKeyword b s m → FuncType x m r → Meets d.static_mark s b m
unfolding d.static_mark same_token
static_met true x s m r h f = come _ (next h.1) (go _ (at h.1) (met refl))
static_met false x s m r h f =
    let begun = func_begun x.is_async m f.0 f.2.0 f.2.1.0 f.1 f.2.1.1 in
    let P : Input → Type 0 = λ (i : Input). Meets d.static_mark i false m in
    subst P h (past k.StaticKeyword _ (other k.StaticKeyword v.func_first m refl begun) (met refl))

method_met : (s : Input) (x : t.Method) (r : Input) → Method x s r → Meets d.method s x r
unfolding d.method
method_met s x r h =
    let colon = h.2.2 in
    let i = colon.2 in
    let f = i.2 in
    let end = f.2 in
    go _ (docs_met h.1) (go _ (ident_met h.2.1) (go _ (at colon.1.1) (go _ (static_met x.is_static x.ty colon.0 i.0 f.0 i.1 f.1)
    (go _ (func_type_met i.0 x.ty f.0 f.1 (func_ends end.0 f.0 r end.1)) (go _ (at end.1) (met refl))))))

resource_method_met : (s : Input) (x : t.ResourceMethod) (r : Input) → ResourceMethod x s r → Unit {0} → Meets d.resource_method s x r
unfolding d.resource_method same_token
resource_method_met s (t.ResourceMethod.constructor x) r h e = come _ (behind_docs h.1.1 h.2.1) (as_one t.ResourceMethod.constructor (constructor_met s x r h))
resource_method_met s (t.ResourceMethod.method x) r h e =
    let nx = behind_docs h.1.1 h.2.1.0 in
    pass _ _ nx refl (come _ nx (as_one t.ResourceMethod.method (method_met s x r h)))

method_begun : (s : Input) (x : t.ResourceMethod) (r : Input) → ResourceMethod x s r → sees_any d.method_first s ≡ true
unfolding same_token
method_begun s (t.ResourceMethod.constructor x) r h = seeing_any d.method_first (behind_docs h.1.1 h.2.1)
method_begun s (t.ResourceMethod.method x) r h = seeing_any d.method_first (behind_docs h.1.1 h.2.1.0)

bodiless_met : (s : Input) (xs : List t.ResourceMethod) (r : Input) → Bodiless xs s r → Meets d.resource_methods s xs r
unfolding d.resource_methods
bodiless_met s [] r h = come _ (next h.1) (go _ (at h.1) (met refl))
bodiless_met s (x ∷ xs) r h = absurd h

methods_met : (s : Input) (xs : List t.ResourceMethod) (r : Input) → Methods xs s r → Meets d.resource_methods s xs r
unfolding d.resource_methods same_token
methods_met s xs r h = elim h [
  | inl w ↦ bodiless_met s xs r w
  | inr w ↦
      (let nx = next w.1.1 in
      pass _ _ nx refl (come _ nx (row_body_met d.resource_method ResourceMethod Always d.method_first resource_method_met method_begun resource_method_exact resource_method_takes refl
      (λ i. tt) s xs r w)))
]

pub resource_decl_met : (s : Input) (x : t.ResourceDecl) (r : Input) → ResourceDecl x s r → Meets d.resource_decl s x r
unfolding d.resource_decl
resource_decl_met s x r h = let i = h.2.2 in go _ (docs_met h.1) (go _ (at h.2.1.1) (go _ (ident_met i.1) (go _ (methods_met i.0 x.methods r i.2) (met refl))))

-- ---- any declaration

pub type_decl_met : (s : Input) (x : t.TypeDecl) (r : Input) → TypeDecl x s r → Meets d.type_decl s x r
unfolding d.type_decl same_token
type_decl_met s (t.TypeDecl.variant x) r h = let nx = behind_docs h.1.1 h.2.1.1 in come _ nx (as_one t.TypeDecl.variant (variant_decl_met s x r h))
type_decl_met s (t.TypeDecl.record_ x) r h = let nx = behind_docs h.1.1 h.2.1.1 in pass _ _ nx refl (come _ nx (as_one t.TypeDecl.record_ (record_decl_met s x r h)))
type_decl_met s (t.TypeDecl.flags x) r h =
    let nx = behind_docs h.1.1 h.2.1.1 in pass _ _ nx refl (pass _ _ nx refl (come _ nx (as_one t.TypeDecl.flags (flags_decl_met s x r h))))
type_decl_met s (t.TypeDecl.enum x) r h =
    let nx = behind_docs h.1.1 h.2.1.1 in pass _ _ nx refl (pass _ _ nx refl (pass _ _ nx refl (come _ nx (as_one t.TypeDecl.enum (enum_decl_met s x r h)))))
type_decl_met s (t.TypeDecl.alias x) r h =
    let nx = behind_docs h.1.1 h.2.1.1 in
    pass _ _ nx refl (pass _ _ nx refl (pass _ _ nx refl (pass _ _ nx refl (come _ nx (as_one t.TypeDecl.alias (type_alias_met s x r h))))))

pub type_decl_begun : (s : Input) (x : t.TypeDecl) (r : Input) → TypeDecl x s r → sees_any d.type_decl_first s ≡ true
unfolding same_token
type_decl_begun s (t.TypeDecl.variant x) r h = seeing_any d.type_decl_first (behind_docs h.1.1 h.2.1.1)
type_decl_begun s (t.TypeDecl.record_ x) r h = seeing_any d.type_decl_first (behind_docs h.1.1 h.2.1.1)
type_decl_begun s (t.TypeDecl.flags x) r h = seeing_any d.type_decl_first (behind_docs h.1.1 h.2.1.1)
type_decl_begun s (t.TypeDecl.enum x) r h = seeing_any d.type_decl_first (behind_docs h.1.1 h.2.1.1)
type_decl_begun s (t.TypeDecl.alias x) r h = seeing_any d.type_decl_first (behind_docs h.1.1 h.2.1.1)

pub item_type_decl_met : (s : Input) (x : t.ItemTypeDecl) (r : Input) → ItemTypeDecl x s r → Meets d.item_type_decl s x r
unfolding d.item_type_decl same_token
item_type_decl_met s (t.ItemTypeDecl.resource x) r h = let nx = behind_docs h.1.1 h.2.1.1 in come _ nx (as_one t.ItemTypeDecl.resource (resource_decl_met s x r h))
item_type_decl_met s (t.ItemTypeDecl.variant x) r h = let nx = behind_docs h.1.1 h.2.1.1 in pass _ _ nx refl (come _ nx (as_one t.ItemTypeDecl.variant (variant_decl_met s x r h)))
item_type_decl_met s (t.ItemTypeDecl.record_ x) r h =
    let nx = behind_docs h.1.1 h.2.1.1 in pass _ _ nx refl (pass _ _ nx refl (come _ nx (as_one t.ItemTypeDecl.record_ (record_decl_met s x r h))))
item_type_decl_met s (t.ItemTypeDecl.flags x) r h =
    let nx = behind_docs h.1.1 h.2.1.1 in pass _ _ nx refl (pass _ _ nx refl (pass _ _ nx refl (come _ nx (as_one t.ItemTypeDecl.flags (flags_decl_met s x r h)))))
item_type_decl_met s (t.ItemTypeDecl.enum x) r h =
    let nx = behind_docs h.1.1 h.2.1.1 in
    pass _ _ nx refl (pass _ _ nx refl (pass _ _ nx refl (pass _ _ nx refl (come _ nx (as_one t.ItemTypeDecl.enum (enum_decl_met s x r h))))))
item_type_decl_met s (t.ItemTypeDecl.alias x) r h =
    let nx = behind_docs h.1.1 h.2.1.1 in
    pass _ _ nx refl (pass _ _ nx refl (pass _ _ nx refl (pass _ _ nx refl (pass _ _ nx refl (come _ nx (as_one t.ItemTypeDecl.alias (type_alias_met s x r h)))))))

pub item_type_decl_begun : (s : Input) (x : t.ItemTypeDecl) (r : Input) → ItemTypeDecl x s r → sees_any d.item_type_decl_first s ≡ true
unfolding same_token
item_type_decl_begun s (t.ItemTypeDecl.resource x) r h = seeing_any d.item_type_decl_first (behind_docs h.1.1 h.2.1.1)
item_type_decl_begun s (t.ItemTypeDecl.variant x) r h = seeing_any d.item_type_decl_first (behind_docs h.1.1 h.2.1.1)
item_type_decl_begun s (t.ItemTypeDecl.record_ x) r h = seeing_any d.item_type_decl_first (behind_docs h.1.1 h.2.1.1)
item_type_decl_begun s (t.ItemTypeDecl.flags x) r h = seeing_any d.item_type_decl_first (behind_docs h.1.1 h.2.1.1)
item_type_decl_begun s (t.ItemTypeDecl.enum x) r h = seeing_any d.item_type_decl_first (behind_docs h.1.1 h.2.1.1)
item_type_decl_begun s (t.ItemTypeDecl.alias x) r h = seeing_any d.item_type_decl_first (behind_docs h.1.1 h.2.1.1)
