use Rattle.std.specs.Prelude.{⊤}
use Rattle.std.proofs.Common.{List, map, Option, Ok, ap, subst, ◌∙◌}
use Rattle.wac_types_base.specs.Entries.{Name, with_values}
use Rattle.wac_types_base.specs.Stated.{Stated, func_of}
use Rattle.wac_parser_tree.specs.Views.{view_named_type, view_result_list}
use Rattle.wac_parser_refusals.specs.Causes.{Answer, each, ◌>>=◌}
use Rattle.wac_parser_refusals.specs.Outcomes.{IsHeld}
use Rattle.wac_parser_refusals.proofs.Outcomes.{after_refused, memory_outcome, refused_outcome, then_refused}
use Rattle.wac_parser_declare.specs.Declarations.{param, result_of, function}
use Rattle.wac_parser_declare.specs.Holding.{AreNamedValues, IsFunc, IsValueIf, scope_of, self_params, stated_if, stated_value}
use Rattle.wac_parser_declare.proofs.Members.{function_held, refused_over, result_kept, result_refused, self_given}
use Rattle.wac_types_base.proofs.Adding.{Grows-trans}
use Rattle.wac_parser_declare.proofs.Known.{same_trans}
use Rattle.wac_parser_declare.proofs.Fresh.{func_newer}
use Rattle.wac_parser_declare.proofs.functions.function.Goals as goal

pub returns-in_err-found-clause-outcome : goal.returns-in_err-found-clause-outcome
returns-in_err-found-clause-outcome g c =
    let old = g.T.GrowingTypes.collection c.args.types.now in
    let s = c.args.signature in
    memory_outcome (IsFunc old)
    (function s.kind (scope_of old c.args.names.now) (self_params (stated_if old s.receiver)) (stated_if old s.given) (map view_named_type c.args.params.now.items) (view_result_list c.args.results.now) s.is_async) _
    c.from_residual.ensures.1

pub returns-in_err-add_params-clause-outcome : goal.returns-in_err-add_params-clause-outcome
returns-in_err-add_params-clause-outcome g c =
    let old = g.T.GrowingTypes.collection c.args.types.now in
    let ns = scope_of old c.args.names.now in
    let s = c.args.signature in
    let ps = map view_named_type c.args.params.now.items in
    let start = ap (with_values (stated_value old)) c.in_ok-found.ensures ∙ self_given old s.receiver in
    refused_outcome (IsFunc (g.T.GrowingTypes.collection c.add_params.new.types))
    (function s.kind ns (self_params (stated_if old s.receiver)) (stated_if old s.given) ps (view_result_list c.args.results.now) s.is_async) _ _ c.from_residual-in_err-add_params.ensures.1
    (then_refused (λ (xs : List (Name × Stated)). result_of ns (stated_if old s.given) (view_result_list c.args.results.now) >>= λ a. Ok (func_of xs a s.is_async))
    (each (param s.kind ns) (self_params (stated_if old s.receiver)) ps) _
    (refused_over (λ (xs : List (Name × Stated)). each (param s.kind ns) xs ps) (with_values (stated_value old) c.in_ok-found.found) (self_params (stated_if old s.receiver)) _ start c.in_err-add_params.ensures.outcome))

pub returns-in_err-result-clause-outcome : goal.returns-in_err-result-clause-outcome
returns-in_err-result-clause-outcome g c =
    let old = g.T.GrowingTypes.collection c.args.types.now in
    let mid = g.T.GrowingTypes.collection c.add_params.new.types in
    let ns = scope_of old c.args.names.now in
    let s = c.args.signature in
    let ps = map view_named_type c.args.params.now.items in
    let rs = view_result_list c.args.results.now in
    let start = ap (with_values (stated_value old)) c.in_ok-found.ensures ∙ self_given old s.receiver in
    let q = each (param s.kind ns) (self_params (stated_if old s.receiver)) ps in
    let held : IsHeld (λ (xs : List (Name × Stated)) (u : ⊤). AreNamedValues mid xs c.add_params.new.found) q tt =
    subst (λ (xs : List (Name × Stated)). IsHeld (λ (ys : List (Name × Stated)) (u : ⊤). AreNamedValues mid ys c.add_params.new.found) (each (param s.kind ns) xs ps) tt) start c.in_ok-add_params.ensures.outcome in
    let refused = result_refused old mid c.in_ok-add_params.ensures.grows c.args.names.now c.requires.names s.given c.requires.given rs _ c.in_err-result.ensures.outcome in
    refused_outcome (IsFunc (g.T.GrowingTypes.collection c.result_type.new.types))
    (function s.kind ns (self_params (stated_if old s.receiver)) (stated_if old s.given) ps rs s.is_async) _ _ c.from_residual-in_err-result.ensures.1
    (after_refused (λ (xs : List (Name × Stated)). result_of ns (stated_if old s.given) rs >>= λ a. Ok (func_of xs a s.is_async))
    (λ (xs : List (Name × Stated)) (u : ⊤). AreNamedValues mid xs c.add_params.new.found) q tt _ held
    (λ xs h. then_refused (λ (a : Option Stated). Ok (func_of xs a s.is_async)) (result_of ns (stated_if old s.given) rs) _ refused))

pub returns-in_err-id-clause-outcome : goal.returns-in_err-id-clause-outcome
returns-in_err-id-clause-outcome g c =
    let old = g.T.GrowingTypes.collection c.args.types.now in
    let s = c.args.signature in
    memory_outcome (IsFunc (g.T.GrowingTypes.collection c.add_func_type.new.self))
    (function s.kind (scope_of old c.args.names.now) (self_params (stated_if old s.receiver)) (stated_if old s.given) (map view_named_type c.args.params.now.items) (view_result_list c.args.results.now) s.is_async) _
    c.from_residual-in_err-id.ensures.1

pub returns-clause-outcome : goal.returns-clause-outcome
returns-clause-outcome g c =
    let old = g.T.GrowingTypes.collection c.args.types.now in
    let mid = g.T.GrowingTypes.collection c.add_params.new.types in
    let far = g.T.GrowingTypes.collection c.result_type.new.types in
    let new = g.T.GrowingTypes.collection c.add_func_type.new.self in
    let ns = scope_of old c.args.names.now in
    let s = c.args.signature in
    let ps = map view_named_type c.args.params.now.items in
    let rs = view_result_list c.args.results.now in
    let start = ap (with_values (stated_value old)) c.in_ok-found.ensures ∙ self_given old s.receiver in
    let q = each (param s.kind ns) (self_params (stated_if old s.receiver)) ps in
    let held : IsHeld (λ (xs : List (Name × Stated)) (u : ⊤). AreNamedValues mid xs c.add_params.new.found) q tt =
    subst (λ (xs : List (Name × Stated)). IsHeld (λ (ys : List (Name × Stated)) (u : ⊤). AreNamedValues mid ys c.add_params.new.found) (each (param s.kind ns) xs ps) tt) start c.in_ok-add_params.ensures.outcome in
    let answered = result_kept old mid c.in_ok-add_params.ensures.grows c.args.names.now c.requires.names s.given c.requires.given rs (λ (a : Answer (Option Stated)). IsHeld (IsValueIf far) a c.in_ok-result.result) c.in_ok-result.ensures.outcome in
    function_held mid far new c.in_ok-result.ensures.grows c.in_ok-id.ensures.grows c.in_ok-id.id c.add_params.new.found c.in_ok-result.result s.is_async q (result_of ns (stated_if old s.given) rs) tt held answered c.in_ok-id.ensures.node

pub returns-clause-fresh : goal.returns-clause-fresh
returns-clause-fresh g c =
    func_newer (g.T.GrowingTypes.collection c.args.types.now) (g.T.GrowingTypes.collection c.add_params.new.types) c.in_ok-id.id c.in_ok-add_params.ensures.grows
    (func_newer (g.T.GrowingTypes.collection c.add_params.new.types) (g.T.GrowingTypes.collection c.result_type.new.types) c.in_ok-id.id c.in_ok-result.ensures.grows c.in_ok-id.ensures.fresh)

pub returns-in_err-result-clause-grows : goal.returns-in_err-result-clause-grows
returns-in_err-result-clause-grows g c = Grows-trans _ _ _ c.in_ok-add_params.ensures.grows c.in_err-result.ensures.grows

pub returns-in_err-id-clause-grows : goal.returns-in_err-id-clause-grows
returns-in_err-id-clause-grows g c =
    Grows-trans _ _ _ c.in_ok-add_params.ensures.grows (Grows-trans _ _ _ c.in_ok-result.ensures.grows c.in_err-id.ensures.grows)

pub returns-clause-grows : goal.returns-clause-grows
returns-clause-grows g c =
    Grows-trans _ _ _ c.in_ok-add_params.ensures.grows (Grows-trans _ _ _ c.in_ok-result.ensures.grows c.in_ok-id.ensures.grows)

pub returns-in_err-result-clause-packages : goal.returns-in_err-result-clause-packages
returns-in_err-result-clause-packages g c = same_trans _ _ _ c.in_ok-add_params.ensures.packages c.in_err-result.ensures.packages

pub returns-in_err-id-clause-packages : goal.returns-in_err-id-clause-packages
returns-in_err-id-clause-packages g c =
    same_trans _ _ _ c.in_ok-add_params.ensures.packages (same_trans _ _ _ c.in_ok-result.ensures.packages c.in_err-id.ensures.packages)

pub returns-clause-packages : goal.returns-clause-packages
returns-clause-packages g c =
    same_trans _ _ _ c.in_ok-add_params.ensures.packages (same_trans _ _ _ c.in_ok-result.ensures.packages c.in_ok-id.ensures.packages)
