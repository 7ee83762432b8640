-- What has the plain form of a type of a function is taken by the rule.
use Rattle.std.proofs.Common.{◌≡◌, inl, inr, Bool, true, false, List, [], ◌∷◌, Some, refl, ap, subst, sym, ◌∙◌}
use Rattle.std.proofs.lemmas.Bool.{false_from_ne_true}
use Rattle.wac_parser_lexer.specs.declared.token.Token.{Token}
use Rattle.wac_parser_lexer.specs.declared.token.Token.TheVariants as k
use Rattle.wac_parser_lexer.specs.Items.{Input}
use Rattle.wac_parser_tree.specs.Trees as t
use Rattle.wac_parser_grammar.specs.Ahead.{same_token, is_any, sees, sees_any}
use Rattle.wac_parser_grammar.specs.Rules.{Rule, optional, behind, IsListOf}
use Rattle.wac_parser_grammar.specs.ValueTypes as v
use Rattle.wac_parser_grammar.specs.Forms.{Part, At, Marked, Further, Separated, NamedType, Results, Parameters, FuncType, FuncTypeRef}
use Rattle.wac_parser_grammar.specs.FormDepths.{Ends, AllFit, NamedFits, ResultsFit, FuncFits, RefFits, FuncEnds}
use Rattle.wac_parser_grammar.proofs.Exact.{Begins}
use Rattle.wac_parser_grammar.proofs.TypeLaws.{value_type_begins, named_type_begins}
use Rattle.wac_parser_grammar.proofs.TableLaws.{apart}
use Rattle.wac_parser_grammar.proofs.TableBack.{seen, any_at, ends_at, optional_here, optional_past, behind_end, behind_comma, ident_back, value_type_back}

-- ---- lists

module _ {X : Type 0} (p : Rule X) (F : X → Part) (Fits : X → Type 0) (Stops : Input → Type 0) (first : List Token) (until : Token)
    (back : (s : Input) (x : X) (r : Input) → Fits x → F x s r → Stops r → p.Is x s r) (begins : Begins first p)
    (at_comma : (span : t.Span) (s m : Input) → At k.Comma span s m → Stops s) (at_end : (span : t.Span) (s m : Input) → At until span s m → Stops s)
    (apart_end : is_any first (Some until) ≡ false) (apart_comma : same_token k.Comma until ≡ false) where
  further_stops : (xs : List X) (m r e : Input) (span : t.Span) → Further F xs m r → At until span r e → Stops m
  further_stops [] m r e span h at = elim h [ inl w ↦ at_comma w.0 m r w.1 | inr w ↦ subst Stops w (at_end span r e at) ]
  further_stops (x ∷ xs) m r e span h at = at_comma h.1.0 m h.0 h.1.1

  further_taken : (xs : List X) (m r e : Input) (span : t.Span) → AllFit Fits xs → Further F xs m r → At until span r e → (a : Input) × (behind until true).Is tt m a × IsListOf p.Is until true xs a r
  further_taken [] m r e span fits h at = elim h [
    | inl w ↦ (r, behind_comma until w.0 m r apart_comma w.1, (seen until span r e at, refl))
    | inr w ↦ (let P : Input → Type 0 = λ (i : Input). (a : Input) × (behind until true).Is tt i a × IsListOf p.Is until true [] a r in
        subst P w (r, behind_end until span r e at, (seen until span r e at, refl)))
  ]
  further_taken (x ∷ xs) m r e span fits h at =
      let is = back h.0 x h.2.0 fits.0 h.2.1 (further_stops xs h.2.0 r e span h.2.2 at) in
      let rest = further_taken xs h.2.0 r e span fits.1 h.2.2 at in (
        h.0,
        behind_comma until h.1.0 m h.0 apart_comma h.1.1,
        (false_from_ne_true (sees until h.0) (λ f. apart until first h.0 apart_end f (begins.begins h.0 x h.2.0 is)), h.2.0, is, rest.0, rest.1, rest.2),
      )

  pub list_taken : (xs : List X) (s r e : Input) (span : t.Span) → AllFit Fits xs → Separated F xs s r → At until span r e → IsListOf p.Is until true xs s r
  list_taken [] s r e span fits h at = let P : Input → Type 0 = λ (i : Input). sees until i ≡ true in (subst P h (seen until span r e at), h)
  list_taken (x ∷ xs) s r e span fits h at =
      let is = back s x h.0 fits.0 h.1 (further_stops xs h.0 r e span h.2 at) in
      let rest = further_taken xs h.0 r e span fits.1 h.2 at in
      (false_from_ne_true (sees until s) (λ f. apart until first s apart_end f (begins.begins s x h.0 is)), h.0, is, rest.0, rest.1, rest.2)

-- ---- functions

pub named_type_back : (s : Input) (x : t.NamedType) (r : Input) → NamedFits x → NamedType x s r → Ends k.OpenAngle r → v.named_type.Is x s r
unfolding v.named_type
named_type_back s x r fits h e =
    (x.id, h.0, ident_back s x.id h.0 h.1, (h.2.1.0, h.2.0, h.2.1.1, (x.ty, r, value_type_back h.2.0 x.ty r fits h.2.2 e, (refl, refl))))

pub params_back : (s : Input) (xs : List t.NamedType) (r : Input) → AllFit NamedFits xs → Parameters xs s r → v.func_params.Is xs s r
unfolding v.func_params same_token
params_back s xs r fits h =
    let all = list_taken v.named_type NamedType NamedFits (Ends k.OpenAngle) (k.Ident ∷ []) k.CloseParen named_type_back named_type_begins
    (λ span s m at. ends_at k.Comma k.OpenAngle span s m refl at) (λ span s m at. ends_at k.CloseParen k.OpenAngle span s m refl at) refl refl
    xs h.0 h.2.0 r h.2.2.0 fits h.2.1 h.2.2.1 in
    (h.1.0, h.0, h.1.1, (xs, h.2.0, all, (h.2.2.0, r, h.2.2.1, (refl, refl))))

results_back : (s : Input) (x : t.ResultList) (r : Input) → ResultsFit x → Results x s r → FuncEnds r → v.func_results.Is x s r
unfolding v.func_results v.result_list
results_back s t.ResultList.empty r fits h e = elim h [
  | inl w ↦ (true, r, optional_here k.Arrow w.0 s r w.1, inl (refl, (false, r, (sym e.2, refl), inr (refl, (refl, refl)))))
  | inr w ↦ (let P : Input → Type 0 = λ (i : Input). Ends k.Arrow i in (false, s, optional_past k.Arrow s (subst P w (e.0.0, e.1)), inr (refl, (refl, w))))
]
results_back s (t.ResultList.scalar ty) r fits h e =
    let is = value_type_back h.0 ty r fits h.2 e.0 in
    (true, h.0, optional_here k.Arrow h.1.0 s h.0 h.1.1, inl (refl, (true, h.0, (sym (value_type_begins.begins h.0 ty r is), refl), inl (refl, (ty, r, is, (refl, refl))))))

pub mark_back : (k l : Token) (b : Bool) (s m e : Input) (span : t.Span) → same_token l k ≡ false → Marked k b s m → At l span m e → (optional k).Is b s m
mark_back k l true s m e span f h at = optional_here k h.0 s m h.1
mark_back k l false s m e span f h at = let P : Input → Type 0 = λ (i : Input). (optional k).Is false i m in subst P h (optional_past k m (ends_at l k span m e f at))

pub func_type_back : (s : Input) (x : t.FuncType) (r : Input) → FuncFits x → FuncType x s r → FuncEnds r → v.func_type.Is x s r
unfolding v.func_type same_token
func_type_back s x r fits h e = (
  x.is_async,
  h.0,
  mark_back k.AsyncKeyword k.FuncKeyword x.is_async s h.0 h.2.0 h.2.1.0 refl h.1 h.2.1.1,
  (h.2.1.0, h.2.0, h.2.1.1, (x.params, h.2.2.0, params_back h.2.0 x.params h.2.2.0 fits.0 h.2.2.1, (x.results, r, results_back h.2.2.0 x.results r fits.1 h.2.2.2 e, (refl, refl)))),
)

pub func_begun : (b : Bool) (s m e : Input) (span : t.Span) → Marked k.AsyncKeyword b s m → At k.FuncKeyword span m e → sees_any v.func_first s ≡ true
unfolding same_token
func_begun true s m e span h at = any_at k.AsyncKeyword v.func_first h.0 s m h.1
func_begun false s m e span h at = ap (sees_any v.func_first) (sym h) ∙ any_at k.FuncKeyword v.func_first span m e at

pub func_type_ref_back : (s : Input) (x : t.FuncTypeRef) (r : Input) → RefFits x → FuncTypeRef x s r → FuncEnds r → v.func_type_ref.Is x s r
unfolding v.func_type_ref same_token
func_type_ref_back s (t.FuncTypeRef.func x) r fits h e =
    (true, s, (sym (func_begun x.is_async s h.0 h.2.0 h.2.1.0 h.1 h.2.1.1), refl), inl (refl, (x, r, func_type_back s x r fits h e, (refl, refl))))
func_type_ref_back s (t.FuncTypeRef.ident id) r fits h e = (
  false,
  s,
  (sym (any_at k.Ident v.func_first id.span s r h.0), refl),
  inr (
    refl,
    (true, s, (sym (seen k.Ident id.span s r h.0), refl), inl (refl, (id, r, ident_back s id r h, (refl, refl)))),
  ),
)
