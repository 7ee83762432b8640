use Rattle.std.specs.Prelude.{⊤}
use Rattle.std.proofs.Common.{◌≡◌, List, map, get_or, drop, ◌+◌, Ok, ap, refl, subst, sym, ◌∙◌, arith}
use Rattle.wac_types_base.specs.Entries.{Name, with_values}
use Rattle.wac_types_base.specs.Stated.{Stated}
use Rattle.wac_types_base.proofs.Adding.{Grows-trans}
use Rattle.wac_parser_tree.specs.declared.value_type.NamedType.{NamedType}
use Rattle.wac_parser_tree.specs.Views.{view_named_type}
use Rattle.wac_parser_refusals.specs.Causes.{Answer, each}
use Rattle.wac_parser_refusals.specs.Outcomes.{IsHeld}
use Rattle.wac_parser_refusals.proofs.Outcomes.{refused_outcome}
use Rattle.wac_parser_declare.specs.Scope.{Scope}
use Rattle.wac_parser_declare.specs.Declarations.{param}
use Rattle.wac_parser_declare.specs.Holding.{AreNamedValues, scope_of, stated_value}
use Rattle.wac_parser_declare.proofs.Kept.{scope-kept}
use Rattle.wac_parser_declare.proofs.Known.{same_trans}
use Rattle.wac_parser_declare.proofs.Loops.{each_next, each_refused_whole, each_ends}
use Rattle.wac_parser_declare.proofs.Members.{refused_over}
use Rattle.wac_parser_declare.proofs.functions.add_params.Goals as goal

pub returns-in_err-add_param-clause-outcome : goal.returns-in_err-add_param-clause-outcome
returns-in_err-add_param-clause-outcome g c =
    let old = g.T.GrowingTypes.collection c.args.types.now in
    let mid = g.T.GrowingTypes.collection c.loop-param.types in
    let new = g.T.GrowingTypes.collection c.add_param.new.types in
    let ns = scope_of old c.args.names.now in
    let found = with_values (stated_value mid) c.loop-param.found in
    let items = c.deref-param-items.result.now in
    refused_outcome (λ (xs : List (Name × Stated)) (u : ⊤). AreNamedValues new xs c.add_param.new.found)
    (each (param c.args.kind ns) (with_values (stated_value old) c.args.found.now) (map view_named_type c.args.params.now.items)) _ _ c.from_residual.ensures.1
    (each_refused_whole (param c.args.kind ns) view_named_type items c.loop-param.param-index
    (each (param c.args.kind ns) (with_values (stated_value old) c.args.found.now) (map view_named_type c.args.params.now.items)) found c.param-item.result _ c.loop-param.invariant.rest c.loop-param-test.true c.param-item.is
    (refused_over (λ (m : Scope). param c.args.kind m found (view_named_type c.param-item.result)) (scope_of mid c.args.names.now) ns _ (scope-kept old mid c.loop-param.invariant.grows c.args.names.now c.requires.names) c.in_err-add_param.ensures.outcome))

pub loop-param-preserved : goal.loop-param-preserved
loop-param-preserved g c =
    let old = g.T.GrowingTypes.collection c.args.types.now in
    let mid = g.T.GrowingTypes.collection c.loop-param.types in
    let new = g.T.GrowingTypes.collection c.add_param.new.types in
    let ns = scope_of old c.args.names.now in
    let found = with_values (stated_value mid) c.loop-param.found in
    let items = c.deref-param-items.result.now in
    let here : IsHeld (λ (xs : List (Name × Stated)) (u : ⊤). AreNamedValues new xs c.add_param.new.found) (param c.args.kind ns found (view_named_type (get_or items c.loop-param.param-index c.param-item.result))) tt =
    subst (λ (x : NamedType). IsHeld (λ (xs : List (Name × Stated)) (u : ⊤). AreNamedValues new xs c.add_param.new.found) (param c.args.kind ns found (view_named_type x)) tt) c.param-item.is
    (subst (λ (m : Scope). IsHeld (λ (xs : List (Name × Stated)) (u : ⊤). AreNamedValues new xs c.add_param.new.found) (param c.args.kind m found (view_named_type c.param-item.result)) tt)
    (scope-kept old mid c.loop-param.invariant.grows c.args.names.now c.requires.names) c.in_ok-add_param.ensures.outcome) in
    let n = each_next (param c.args.kind ns) view_named_type items c.loop-param.param-index (λ (xs : List (Name × Stated)) (u : ⊤). AreNamedValues new xs c.add_param.new.found) found c.param-item.result tt c.loop-param-test.true here in
    record {
      grows = Grows-trans _ _ _ c.loop-param.invariant.grows c.in_ok-add_param.ensures.grows;
      packages = same_trans _ _ _ c.loop-param.invariant.packages c.in_ok-add_param.ensures.packages;
      stand = c.in_ok-add_param.ensures.found;
      rest = c.loop-param.invariant.rest ∙ n.2 ∙ ap (λ (xs : List (Name × Stated)). each (param c.args.kind ns) xs (map view_named_type (drop (c.loop-param.param-index + 1) items))) (sym n.1.same);
    }

pub returns-clause-outcome : goal.returns-clause-outcome
returns-clause-outcome g c =
    let old = g.T.GrowingTypes.collection c.args.types.now in
    let last = g.T.GrowingTypes.collection c.loop-param.types in
    let ns = scope_of old c.args.names.now in
    let found = with_values (stated_value last) c.loop-param.found in
    let items = c.deref-param-items.result.now in
    let all : each (param c.args.kind ns) (with_values (stated_value old) c.args.found.now) (map view_named_type c.args.params.now.items) ≡ Ok found =
    c.loop-param.invariant.rest ∙ each_ends (param c.args.kind ns) view_named_type items c.loop-param.param-index found (omega (arith, c.loop-param-test.false)) in
    subst (λ (q : Answer (List (Name × Stated))). IsHeld (λ (xs : List (Name × Stated)) (u : ⊤). AreNamedValues last xs c.loop-param.found) q tt) (sym all)
    (record { stand = c.loop-param.invariant.stand; same = refl })
