-- What has the plain form of a resource is taken by the rule.
use Rattle.std.proofs.Common.{◌≡◌, inl, inr, Bool, true, false, List, [], ◌∷◌, Some, refl, ap, subst, sym, ◌∙◌}
use Rattle.std.proofs.lemmas.Bool.{false_from_ne_true}
use Rattle.wac_parser_lexer.specs.declared.token.Token.{Token}
use Rattle.wac_parser_lexer.specs.declared.token.Token.TheVariants as k
use Rattle.wac_parser_lexer.specs.Items.{Input}
use Rattle.wac_parser_tree.specs.Trees as t
use Rattle.wac_parser_grammar.specs.Ahead.{same_token, is_any, sees}
use Rattle.wac_parser_grammar.specs.Rules.{Rule, choose, comma, pure, behind, IsListOf}
use Rattle.wac_parser_grammar.specs.Names as n
use Rattle.wac_parser_grammar.specs.ValueTypes as v
use Rattle.wac_parser_grammar.specs.Declarations as d
use Rattle.wac_parser_grammar.specs.Forms.{Part, At, Marked, Row, FuncType}
use Rattle.wac_parser_grammar.specs.FormsOfDeclarations.{Constructor, Method, ResourceMethod, Bodiless, Methods, ResourceDecl}
use Rattle.wac_parser_grammar.specs.FormDepths.{AllFit, NamedFits, FuncFits, MethodFits, FuncEnds}
use Rattle.wac_parser_grammar.proofs.Exact.{Begins}
use Rattle.wac_parser_grammar.proofs.DeclLaws.{resource_method_begins}
use Rattle.wac_parser_grammar.proofs.TableLaws.{apart}
use Rattle.wac_parser_grammar.proofs.TableBack.{seen, sees_at, any_at, ends_at, ident_back}
use Rattle.wac_parser_grammar.proofs.TableBackFuncs.{params_back, func_type_back, func_begun}

none_by : (b : Bool) (m : Input) → (choose b (pure tt) (choose false comma (pure tt))).Is tt m m
none_by true m = inl (refl, (refl, refl))
none_by false m = inr (refl, inr (refl, (refl, refl)))

pub behind_none : (until : Token) (m : Input) → (behind until false).Is tt m m
unfolding behind
behind_none until m = (sees until m, m, (refl, refl), none_by (sees until m) m)

module _ {X : Type 0} (p : Rule X) (F : X → Part) (Fits : X → Type 0) (first : List Token) (until : Token)
    (back : (s : Input) (x : X) (r : Input) → Fits x → F x s r → p.Is x s r) (begins : Begins first p) (apart_end : is_any first (Some until) ≡ false) where
  pub row_taken : (xs : List X) (s r e : Input) (span : t.Span) → AllFit Fits xs → Row F xs s r → At until span r e → IsListOf p.Is until false xs s r
  row_taken [] s r e span fits h at = let P : Input → Type 0 = λ (i : Input). sees until i ≡ true in (subst P h (seen until span r e at), h)
  row_taken (x ∷ xs) s r e span fits h at =
      let is = back s x h.0 fits.0 h.1 in
      (false_from_ne_true (sees until s) (λ f. apart until first s apart_end f (begins.begins s x h.0 is)), h.0, is, h.0, behind_none until h.0, row_taken xs h.0 r e span fits.1 h.2 at)

pub constructor_back : (s : Input) (x : t.Constructor) (r : Input) → AllFit NamedFits x.params → Constructor x s r → d.constructor.Is x s r
unfolding d.constructor n.docs
constructor_back s x r fits h =
    (x.docs, h.0, h.1, (x.span, h.2.0, h.2.1, (x.params, h.2.2.0, params_back h.2.0 x.params h.2.2.0 fits h.2.2.1, (h.2.2.2.0, r, h.2.2.2.1, (refl, refl)))))

static_back : (b : Bool) (x : t.FuncType) (s m r : Input) → Marked k.StaticKeyword b s m → FuncType x m r → d.static_mark.Is b s m
unfolding d.static_mark same_token
static_back true x s m r h f = (true, s, (sym (seen k.StaticKeyword h.0 s m h.1), refl), inl (refl, (h.0, m, h.1, (refl, refl))))
static_back false x s m r h f =
    let begun = func_begun x.is_async m f.0 f.2.0 f.2.1.0 f.1 f.2.1.1 in
    let unseen = false_from_ne_true (sees k.StaticKeyword m) (λ g. apart k.StaticKeyword v.func_first m refl g begun) in
    (false, s, (sym (ap (sees k.StaticKeyword) (sym h) ∙ unseen), refl), inr (refl, (refl, h)))

pub method_back : (s : Input) (x : t.Method) (r : Input) → FuncFits x.ty → Method x s r → d.method.Is x s r
unfolding d.method n.docs same_token
method_back s x r fits h =
    let i = h.2.2.2 in
    let f = i.2 in
    let end = f.2 in
    let ends : FuncEnds f.0 = (ends_at k.Semicolon k.OpenAngle end.0 f.0 r refl end.1, sees_at k.Semicolon k.Arrow end.0 f.0 r end.1, any_at k.Semicolon v.type_first end.0 f.0 r end.1) in (
      x.docs,
      h.0,
      h.1,
      (
        x.id,
        h.2.0,
        ident_back h.0 x.id h.2.0 h.2.1,
        (
          h.2.2.1.0,
          h.2.2.0,
          h.2.2.1.1,
          (x.is_static, i.0, static_back x.is_static x.ty h.2.2.0 i.0 f.0 i.1 f.1, (x.ty, f.0, func_type_back i.0 x.ty f.0 fits f.1 ends, (end.0, r, end.1, (refl, refl)))),
        ),
      ),
    )

pub resource_method_back : (s : Input) (x : t.ResourceMethod) (r : Input) → MethodFits x → ResourceMethod x s r → d.resource_method.Is x s r
unfolding d.resource_method same_token
resource_method_back s (t.ResourceMethod.constructor x) r fits h =
    (true, s, (sym (ap (sees k.ConstructorKeyword) (sym h.1.1) ∙ seen k.ConstructorKeyword x.span h.0 h.2.0 h.2.1), refl), inl (refl, (x, r, constructor_back s x r fits h, (refl, refl))))
resource_method_back s (t.ResourceMethod.method x) r fits h = (
  false,
  s,
  (sym (ap (sees k.ConstructorKeyword) (sym h.1.1) ∙ sees_at k.Ident k.ConstructorKeyword x.id.span h.0 h.2.0 h.2.1.0), refl),
  inr (
    refl,
    (true, s, (sym (ap (sees k.Ident) (sym h.1.1) ∙ seen k.Ident x.id.span h.0 h.2.0 h.2.1.0), refl), inl (refl, (x, r, method_back s x r fits h, (refl, refl)))),
  ),
)

bodiless_back : (s : Input) (xs : List t.ResourceMethod) (r : Input) → Bodiless xs s r → d.resource_methods.Is xs s r
unfolding d.resource_methods
bodiless_back s [] r h = (true, s, (sym (seen k.Semicolon h.0 s r h.1), refl), inl (refl, (h.0, r, h.1, (refl, refl))))
bodiless_back s (x ∷ xs) r h = absurd h

methods_back : (s : Input) (xs : List t.ResourceMethod) (r : Input) → AllFit MethodFits xs → Methods xs s r → d.resource_methods.Is xs s r
unfolding d.resource_methods same_token
methods_back s xs r fits h = elim h [
  | inl w ↦ bodiless_back s xs r w
  | inr w ↦
      (let all = row_taken d.resource_method ResourceMethod MethodFits d.method_first k.CloseBrace resource_method_back resource_method_begins refl xs w.0 w.2.0 r w.2.2.0 fits w.2.1 w.2.2.1 in (
        false,
        s,
        (sym (sees_at k.OpenBrace k.Semicolon w.1.0 s w.0 w.1.1), refl),
        inr (
          refl,
          (true, s, (sym (seen k.OpenBrace w.1.0 s w.0 w.1.1), refl), inl (refl, (w.1.0, w.0, w.1.1, (xs, w.2.0, all, (w.2.2.0, r, w.2.2.1, (refl, refl)))))),
        ),
      ))
]

pub resource_decl_back : (s : Input) (x : t.ResourceDecl) (r : Input) → AllFit MethodFits x.methods → ResourceDecl x s r → d.resource_decl.Is x s r
unfolding d.resource_decl n.docs
resource_decl_back s x r fits h =
    (x.docs, h.0, h.1, (h.2.1.0, h.2.0, h.2.1.1, (x.id, h.2.2.0, ident_back h.2.0 x.id h.2.2.0 h.2.2.1, (x.methods, r, methods_back h.2.2.0 x.methods r fits h.2.2.2, (refl, refl)))))
