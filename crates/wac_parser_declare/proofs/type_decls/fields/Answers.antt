use Rattle.std.specs.Prelude.{⊤}
use Rattle.std.proofs.Common.{◌≡◌, List, [], map, get_or, drop, ◌+◌, Ok, ap, refl, subst, sym, ◌∙◌, arith}
use Rattle.wac_types_base.specs.Entries.{Name, with_values}
use Rattle.wac_types_base.specs.Stated.{Stated}
use Rattle.wac_types_base.proofs.Adding.{Grows-trans}
use Rattle.wac_parser_tree.specs.declared.declaration.Field.{Field}
use Rattle.wac_parser_tree.specs.Views.{view_field}
use Rattle.wac_parser_refusals.specs.Causes.{Answer, each}
use Rattle.wac_parser_refusals.specs.Outcomes.{IsHeld}
use Rattle.wac_parser_refusals.proofs.Outcomes.{refused_outcome}
use Rattle.wac_parser_declare.specs.Scope.{Scope}
use Rattle.wac_parser_declare.specs.Declarations.{field_of}
use Rattle.wac_parser_declare.specs.Holding.{AreNamedValues, scope_of, stated_value}
use Rattle.wac_parser_declare.proofs.Kept.{scope-kept}
use Rattle.wac_parser_declare.proofs.Known.{same_trans}
use Rattle.wac_parser_declare.proofs.Loops.{each_next, each_refused_whole, each_ends}
use Rattle.wac_parser_declare.proofs.Members.{refused_over}
use Rattle.wac_parser_declare.proofs.type_decls.fields.Goals as goal

pub returns-in_err-add_field-clause-outcome : goal.returns-in_err-add_field-clause-outcome
returns-in_err-add_field-clause-outcome g c =
    let old = g.T.GrowingTypes.collection c.args.types.now in
    let mid = g.T.GrowingTypes.collection c.loop-field.types in
    let new = g.T.GrowingTypes.collection c.add_field.new.types in
    let ns = scope_of old c.args.names.now in
    let name = c.args.decl.now.id.string.now in
    let found = with_values (stated_value mid) c.loop-field.found in
    let items = c.deref-field-items.result.now in
    refused_outcome (AreNamedValues new)
    (each (field_of name ns) [] (map view_field c.args.decl.now.fields.items)) _ _ c.from_residual.ensures.1
    (each_refused_whole (field_of name ns) view_field items c.loop-field.field-index
    (each (field_of name ns) [] (map view_field c.args.decl.now.fields.items)) found c.field-item.result _ c.loop-field.invariant.rest c.loop-field-test.true c.field-item.is
    (refused_over (λ (m : Scope). field_of name m found (view_field c.field-item.result)) (scope_of mid c.args.names.now) ns _ (scope-kept old mid c.loop-field.invariant.grows c.args.names.now c.requires) c.in_err-add_field.ensures.outcome))

pub loop-field-preserved : goal.loop-field-preserved
loop-field-preserved g c =
    let old = g.T.GrowingTypes.collection c.args.types.now in
    let mid = g.T.GrowingTypes.collection c.loop-field.types in
    let new = g.T.GrowingTypes.collection c.add_field.new.types in
    let ns = scope_of old c.args.names.now in
    let name = c.args.decl.now.id.string.now in
    let found = with_values (stated_value mid) c.loop-field.found in
    let items = c.deref-field-items.result.now in
    let here : IsHeld (λ (xs : List (Name × Stated)) (u : ⊤). AreNamedValues new xs c.add_field.new.found) (field_of name ns found (view_field (get_or items c.loop-field.field-index c.field-item.result))) tt =
    subst (λ (x : Field). IsHeld (λ (xs : List (Name × Stated)) (u : ⊤). AreNamedValues new xs c.add_field.new.found) (field_of name ns found (view_field x)) tt) c.field-item.is
    (subst (λ (m : Scope). IsHeld (λ (xs : List (Name × Stated)) (u : ⊤). AreNamedValues new xs c.add_field.new.found) (field_of name m found (view_field c.field-item.result)) tt)
    (scope-kept old mid c.loop-field.invariant.grows c.args.names.now c.requires) c.in_ok-add_field.ensures.outcome) in
    let n = each_next (field_of name ns) view_field items c.loop-field.field-index (λ (xs : List (Name × Stated)) (u : ⊤). AreNamedValues new xs c.add_field.new.found) found c.field-item.result tt c.loop-field-test.true here in
    record {
      grows = Grows-trans _ _ _ c.loop-field.invariant.grows c.in_ok-add_field.ensures.grows;
      packages = same_trans _ _ _ c.loop-field.invariant.packages c.in_ok-add_field.ensures.packages;
      stand = c.in_ok-add_field.ensures.found;
      rest = c.loop-field.invariant.rest ∙ n.2 ∙ ap (λ (xs : List (Name × Stated)). each (field_of name ns) xs (map view_field (drop (c.loop-field.field-index + 1) items))) (sym n.1.same);
    }

pub returns-clause-outcome : goal.returns-clause-outcome
returns-clause-outcome g c =
    let old = g.T.GrowingTypes.collection c.args.types.now in
    let last = g.T.GrowingTypes.collection c.loop-field.types in
    let ns = scope_of old c.args.names.now in
    let name = c.args.decl.now.id.string.now in
    let found = with_values (stated_value last) c.loop-field.found in
    let items = c.deref-field-items.result.now in
    let all : each (field_of name ns) [] (map view_field c.args.decl.now.fields.items) ≡ Ok found =
    c.loop-field.invariant.rest ∙ each_ends (field_of name ns) view_field items c.loop-field.field-index found (omega (arith, c.loop-field-test.false)) in
    subst (λ (q : Answer (List (Name × Stated))). IsHeld (AreNamedValues last) q c.loop-field.found) (sym all)
    (record { stand = c.loop-field.invariant.stand; same = refl })
