-- What has the plain form of a type of a function is read, or refused as nested too deep.
use Rattle.std.proofs.Common.{inl, inr, List, [], ◌∷◌, refl, subst}
use Rattle.wac_parser_lexer.specs.declared.token.Token.TheVariants as k
use Rattle.wac_parser_lexer.specs.Items.{Input}
use Rattle.wac_parser_tree.specs.Trees as t
use Rattle.wac_parser_grammar.specs.Ahead.{same_token}
use Rattle.wac_parser_grammar.specs.ValueTypes as v
use Rattle.wac_parser_grammar.specs.Forms.{NamedType, Results, Parameters, FuncType, FuncTypeRef}
use Rattle.wac_parser_grammar.specs.FormDepths.{Ends, FuncEnds}
use Rattle.wac_parser_grammar.proofs.Exact.{optional_exact}
use Rattle.wac_parser_grammar.proofs.TypeLaws.{named_type_exact, named_type_takes}
use Rattle.wac_parser_grammar.proofs.TableBack.{any_at, ends_at}
use Rattle.wac_parser_grammar.proofs.TableBackFuncs.{mark_back, func_begun}
use Rattle.wac_parser.proofs.OrDeep.{Meets, met, taken, go, at, as_one, next, opened, closed, come, any_here, any_past, pass_any, ident_met}
use Rattle.wac_parser.proofs.OrDeepLists.{list_met}
use Rattle.wac_parser.proofs.TypesOrDeep.{ty_begun, comma_ends, value_type_met}

pub named_type_met : (s : Input) (x : t.NamedType) (r : Input) → NamedType x s r → Ends k.OpenAngle r → Meets v.named_type s x r
unfolding v.named_type
named_type_met s x r h e = go _ (ident_met h.1) (go _ (at h.2.1.1) (go _ (value_type_met h.2.0 x.ty r h.2.2 e) (met refl)))

pub params_met : (s : Input) (xs : List t.NamedType) (r : Input) → Parameters xs s r → Meets v.func_params s xs r
unfolding v.func_params same_token
params_met s xs r h =
    let all = list_met v.named_type NamedType (Ends k.OpenAngle) (k.Ident ∷ []) k.CloseParen named_type_met (λ s x r h. any_at k.Ident (k.Ident ∷ []) x.id.span s h.0 h.1.0)
    named_type_exact named_type_takes refl comma_ends (λ span s m at. ends_at k.CloseParen k.OpenAngle span s m refl at) refl
    xs h.0 h.2.0 r h.2.2.0 h.2.1 h.2.2.1 in
    go _ (at h.1.1) (go _ all (go _ (at h.2.2.1) (met refl)))

results_met : (s : Input) (x : t.ResultList) (r : Input) → Results x s r → FuncEnds r → Meets v.func_results s x r
unfolding v.func_results v.result_list
results_met s t.ResultList.empty r h e = elim h [
  | inl w ↦ opened _ w.1 (any_past _ _ e.2 (met refl))
  | inr w ↦ (let P : Input → Type 0 = λ (i : Input). Meets v.func_results i t.ResultList.empty r in subst P w (closed k.Arrow _ (e.0.0, e.1) (met refl)))
]
results_met s (t.ResultList.scalar ty) r h e = opened _ h.1.1 (any_here _ _ (ty_begun h.0 ty r h.2) (as_one t.ResultList.scalar (value_type_met h.0 ty r h.2 e.0)))

pub func_type_met : (s : Input) (x : t.FuncType) (r : Input) → FuncType x s r → FuncEnds r → Meets v.func_type s x r
unfolding v.func_type same_token
func_type_met s x r h e =
    let f = h.2.1 in
    go _ (taken (optional_exact k.AsyncKeyword) (mark_back k.AsyncKeyword k.FuncKeyword x.is_async s h.0 h.2.0 f.0 refl h.1 f.1))
    (go _ (at f.1) (go _ (params_met h.2.0 x.params h.2.2.0 h.2.2.1) (go _ (results_met h.2.2.0 x.results r h.2.2.2 e) (met refl))))

pub func_type_ref_met : (s : Input) (x : t.FuncTypeRef) (r : Input) → FuncTypeRef x s r → FuncEnds r → Meets v.func_type_ref s x r
unfolding v.func_type_ref same_token
func_type_ref_met s (t.FuncTypeRef.func x) r h e = any_here _ _ (func_begun x.is_async s h.0 h.2.0 h.2.1.0 h.1 h.2.1.1) (as_one t.FuncTypeRef.func (func_type_met s x r h e))
func_type_ref_met s (t.FuncTypeRef.ident id) r h e = let nx = next h.0 in pass_any _ _ nx refl (come _ nx (as_one t.FuncTypeRef.ident (ident_met h)))
