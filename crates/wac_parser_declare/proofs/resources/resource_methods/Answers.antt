use Rattle.std.specs.Prelude.{⊤}
use Rattle.std.proofs.Common.{◌≡◌, map, get_or, drop, ◌+◌, Ok, ap, refl, subst, sym, ◌∙◌, arith}
use Rattle.wac_types_base.specs.declared.item.ItemKind.{ItemKind}
use Rattle.wac_types_base.specs.declared.item.«Type».{«Type» as TypeKind}
use Rattle.wac_types_base.specs.Stated.{Stated}
use Rattle.wac_types_base.proofs.Adding.{Grows-trans}
use Rattle.wac_types_base.proofs.Stating.{stated_kept}
use Rattle.wac_parser_tree.specs.declared.declaration.ResourceMethod.{ResourceMethod}
use Rattle.wac_parser_tree.specs.Views.{view_resource_method}
use Rattle.wac_parser_refusals.specs.Causes.{Answer, each}
use Rattle.wac_parser_refusals.specs.Outcomes.{IsHeld}
use Rattle.wac_parser_refusals.proofs.Outcomes.{refused_outcome}
use Rattle.wac_parser_declare.specs.Aliases.{stated_resource}
use Rattle.wac_parser_declare.specs.Bodies as stated
use Rattle.wac_parser_declare.specs.Bodies.{resource_method}
use Rattle.wac_parser_declare.specs.Held.{stated_body}
use Rattle.wac_parser_declare.specs.InBodies.{IsBody}
use Rattle.wac_parser_declare.proofs.Known.{same_trans}
use Rattle.wac_parser_declare.proofs.Loops.{each_next, each_refused_whole, each_ends}
use Rattle.wac_parser_declare.proofs.Members.{refused_over}
use Rattle.wac_parser_declare.proofs.resources.resource_methods.Goals as goal

pub loop-method-preserved : goal.loop-method-preserved
loop-method-preserved g c =
    let old = g.T.GrowingTypes.collection c.args.types.now in
    let mid = g.T.GrowingTypes.collection c.loop-method.types in
    let new = g.T.GrowingTypes.collection c.resource_method.new.types in
    let n = c.args.owner.name.now in
    let x = stated_resource old c.args.owner.id in
    let k : stated.Body → ⊤ → Type 0 = λ y u. IsBody new y c.resource_method.new.body in
    let found = stated_body mid c.loop-method.body in
    let items = c.deref-method-items.result.now in
    let here : IsHeld k (resource_method n x found (view_resource_method (get_or items c.loop-method.method-index c.method-item.result))) tt =
    subst (λ (m : ResourceMethod). IsHeld k (resource_method n x found (view_resource_method m)) tt) c.method-item.is
    (subst (λ (y : Stated). IsHeld k (resource_method n y found (view_resource_method c.method-item.result)) tt)
    (stated_kept old mid c.loop-method.invariant.grows (ItemKind.Ty (TypeKind.Resource c.args.owner.id)) c.requires.owner) c.in_ok-resource_method.ensures.outcome) in
    let next = each_next (resource_method n x) view_resource_method items c.loop-method.method-index k found c.method-item.result tt c.loop-method-test.true here in
    record {
      grows = Grows-trans _ _ _ c.loop-method.invariant.grows c.in_ok-resource_method.ensures.grows;
      packages = same_trans _ _ _ c.loop-method.invariant.packages c.in_ok-resource_method.ensures.packages;
      body = c.in_ok-resource_method.ensures.body;
      rest = c.loop-method.invariant.rest ∙ next.2 ∙ ap (λ (y : stated.Body). each (resource_method n x) y (map view_resource_method (drop (c.loop-method.method-index + 1) items))) (sym next.1);
    }

pub returns-in_err-resource_method-clause-outcome : goal.returns-in_err-resource_method-clause-outcome
returns-in_err-resource_method-clause-outcome g c =
    let old = g.T.GrowingTypes.collection c.args.types.now in
    let mid = g.T.GrowingTypes.collection c.loop-method.types in
    let new = g.T.GrowingTypes.collection c.resource_method.new.types in
    let n = c.args.owner.name.now in
    let x = stated_resource old c.args.owner.id in
    let found = stated_body mid c.loop-method.body in
    let items = c.deref-method-items.result.now in
    let all = each (resource_method n x) (stated_body old c.args.body.now) (map view_resource_method c.args.methods.now.items) in
    refused_outcome (λ (y : stated.Body) (u : ⊤). IsBody new y c.resource_method.new.body) all _ _ c.from_residual.ensures.1
    (each_refused_whole (resource_method n x) view_resource_method items c.loop-method.method-index all found c.method-item.result _ c.loop-method.invariant.rest c.loop-method-test.true c.method-item.is
    (refused_over (λ (y : Stated). resource_method n y found (view_resource_method c.method-item.result)) (stated_resource mid c.args.owner.id) x _
    (stated_kept old mid c.loop-method.invariant.grows (ItemKind.Ty (TypeKind.Resource c.args.owner.id)) c.requires.owner) c.in_err-resource_method.ensures.outcome))

pub returns-clause-outcome : goal.returns-clause-outcome
returns-clause-outcome g c =
    let old = g.T.GrowingTypes.collection c.args.types.now in
    let last = g.T.GrowingTypes.collection c.loop-method.types in
    let f = resource_method c.args.owner.name.now (stated_resource old c.args.owner.id) in
    let found = stated_body last c.loop-method.body in
    let all : each f (stated_body old c.args.body.now) (map view_resource_method c.args.methods.now.items) ≡ Ok found =
    c.loop-method.invariant.rest ∙ each_ends f view_resource_method c.deref-method-items.result.now c.loop-method.method-index found (omega (arith, c.loop-method-test.false)) in
    subst (λ (q : Answer stated.Body). IsHeld (λ (y : stated.Body) (u : ⊤). IsBody last y c.loop-method.body) q tt) (sym all) refl
