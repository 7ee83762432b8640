use Rattle.std.specs.Prelude.{⊤}
use Rattle.std.proofs.Common.{◌≡◌, List, [], map, get_or, drop, ◌+◌, Option, Ok, ap, refl, subst, sym, ◌∙◌, arith}
use Rattle.wac_types_base.specs.Entries.{Name, with_values}
use Rattle.wac_types_base.specs.Stated.{Stated}
use Rattle.wac_types_base.proofs.Adding.{Grows-trans}
use Rattle.wac_parser_tree.specs.declared.declaration.VariantCase.{VariantCase}
use Rattle.wac_parser_tree.specs.Views.{view_variant_case}
use Rattle.wac_parser_refusals.specs.Causes.{Answer, each}
use Rattle.wac_parser_refusals.specs.Outcomes.{IsHeld}
use Rattle.wac_parser_refusals.proofs.Outcomes.{refused_outcome}
use Rattle.wac_parser_declare.specs.Scope.{Scope}
use Rattle.wac_parser_declare.specs.Declarations.{case_of}
use Rattle.wac_parser_declare.specs.Holding.{AreCases, scope_of, stated_if}
use Rattle.wac_parser_declare.proofs.Kept.{scope-kept}
use Rattle.wac_parser_declare.proofs.Known.{same_trans}
use Rattle.wac_parser_declare.proofs.Loops.{each_next, each_refused_whole, each_ends}
use Rattle.wac_parser_declare.proofs.Members.{refused_over}
use Rattle.wac_parser_declare.proofs.type_decls.cases.Goals as goal

pub returns-in_err-add_case-clause-outcome : goal.returns-in_err-add_case-clause-outcome
returns-in_err-add_case-clause-outcome g c =
    let old = g.T.GrowingTypes.collection c.args.types.now in
    let mid = g.T.GrowingTypes.collection c.loop-case.types in
    let new = g.T.GrowingTypes.collection c.add_case.new.types in
    let ns = scope_of old c.args.names.now in
    let name = c.args.decl.now.id.string.now in
    let found = with_values (stated_if mid) c.loop-case.found in
    let items = c.deref-case-items.result.now in
    refused_outcome (AreCases new)
    (each (case_of name ns) [] (map view_variant_case c.args.decl.now.cases.items)) _ _ c.from_residual.ensures.1
    (each_refused_whole (case_of name ns) view_variant_case items c.loop-case.case-index
    (each (case_of name ns) [] (map view_variant_case c.args.decl.now.cases.items)) found c.case-item.result _ c.loop-case.invariant.rest c.loop-case-test.true c.case-item.is
    (refused_over (λ (m : Scope). case_of name m found (view_variant_case c.case-item.result)) (scope_of mid c.args.names.now) ns _ (scope-kept old mid c.loop-case.invariant.grows c.args.names.now c.requires) c.in_err-add_case.ensures.outcome))

pub loop-case-preserved : goal.loop-case-preserved
loop-case-preserved g c =
    let old = g.T.GrowingTypes.collection c.args.types.now in
    let mid = g.T.GrowingTypes.collection c.loop-case.types in
    let new = g.T.GrowingTypes.collection c.add_case.new.types in
    let ns = scope_of old c.args.names.now in
    let name = c.args.decl.now.id.string.now in
    let found = with_values (stated_if mid) c.loop-case.found in
    let items = c.deref-case-items.result.now in
    let here : IsHeld (λ (xs : List (Name × Option Stated)) (u : ⊤). AreCases new xs c.add_case.new.found) (case_of name ns found (view_variant_case (get_or items c.loop-case.case-index c.case-item.result))) tt =
    subst (λ (x : VariantCase). IsHeld (λ (xs : List (Name × Option Stated)) (u : ⊤). AreCases new xs c.add_case.new.found) (case_of name ns found (view_variant_case x)) tt) c.case-item.is
    (subst (λ (m : Scope). IsHeld (λ (xs : List (Name × Option Stated)) (u : ⊤). AreCases new xs c.add_case.new.found) (case_of name m found (view_variant_case c.case-item.result)) tt)
    (scope-kept old mid c.loop-case.invariant.grows c.args.names.now c.requires) c.in_ok-add_case.ensures.outcome) in
    let n = each_next (case_of name ns) view_variant_case items c.loop-case.case-index (λ (xs : List (Name × Option Stated)) (u : ⊤). AreCases new xs c.add_case.new.found) found c.case-item.result tt c.loop-case-test.true here in
    record {
      grows = Grows-trans _ _ _ c.loop-case.invariant.grows c.in_ok-add_case.ensures.grows;
      packages = same_trans _ _ _ c.loop-case.invariant.packages c.in_ok-add_case.ensures.packages;
      stand = c.in_ok-add_case.ensures.found;
      rest = c.loop-case.invariant.rest ∙ n.2 ∙ ap (λ (xs : List (Name × Option Stated)). each (case_of name ns) xs (map view_variant_case (drop (c.loop-case.case-index + 1) items))) (sym n.1.same);
    }

pub returns-clause-outcome : goal.returns-clause-outcome
returns-clause-outcome g c =
    let old = g.T.GrowingTypes.collection c.args.types.now in
    let last = g.T.GrowingTypes.collection c.loop-case.types in
    let ns = scope_of old c.args.names.now in
    let name = c.args.decl.now.id.string.now in
    let found = with_values (stated_if last) c.loop-case.found in
    let items = c.deref-case-items.result.now in
    let all : each (case_of name ns) [] (map view_variant_case c.args.decl.now.cases.items) ≡ Ok found =
    c.loop-case.invariant.rest ∙ each_ends (case_of name ns) view_variant_case items c.loop-case.case-index found (omega (arith, c.loop-case-test.false)) in
    subst (λ (q : Answer (List (Name × Option Stated))). IsHeld (AreCases last) q c.loop-case.found) (sym all)
    (record { stand = c.loop-case.invariant.stand; same = refl })
