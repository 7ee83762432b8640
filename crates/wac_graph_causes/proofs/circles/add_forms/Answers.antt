use Rattle.std.specs.Prelude.{IfSome}
use Rattle.std.specs.List.{flat_map}
use Rattle.std.proofs.Common.{ap, subst}
use Rattle.wac_types_base.specs.Collection.{Stands}
use Rattle.wac_types_base.proofs.Adding.{Grows-refl, Grows-trans}
use Rattle.wac_types_base.proofs.Looked.{among-get}
use Rattle.wac_types_base.proofs.Loops.{get-place, take-all}
use Rattle.wac_composition.specs.Circles.{written_whole}
use Rattle.wac_graph_causes.specs.Circling.{forms_in}
use Rattle.wac_graph_causes.proofs.CircleLaws.{copy_kept, forms_more}
use Rattle.wac_graph_causes.proofs.LateLaws.{adds_as, adds_nothing, adds_then}
use Rattle.wac_graph_causes.proofs.circles.add_forms.Goals as goal

pub loop-definition-init : goal.loop-definition-init
loop-definition-init c =
    let d = c.args.types.now in
    let g = Grows-refl d c.see_acyclic.ensures in
    record { grows = g; adds = adds_nothing d d g c.args.all.now.items }

pub add_form-requires : goal.add_form-requires
add_form-requires c =
    let xs = c.args.definitions.now in
    let i = c.loop-definition.definition-index in
    let x = c.definition-item.result in
    let at = get-place xs i x c.loop-definition-test.true c.definition-item.is in
    copy_kept c.args.types.now c.loop-definition.types c.loop-definition.invariant.grows x.copy (c.requires x (among-get xs i x at))

pub loop-definition-preserved : goal.loop-definition-preserved
loop-definition-preserved c =
    let old = c.args.types.now in
    let mid = c.loop-definition.types in
    let new = c.add_form.new.types in
    let xs = c.args.definitions.now in
    let i = c.loop-definition.definition-index in
    let x = c.definition-item.result in
    let g = c.loop-definition.invariant.grows in
    let at = get-place xs i x c.loop-definition-test.true c.definition-item.is in
    record {
      grows = Grows-trans old mid new g c.in_ok-add_form.ensures.grows;
      adds = adds_as old new c.args.all.now.items c.add_form.new.all.items _ _
          (forms_more old mid g xs i x at (λ k e. subst (λ o. IfSome o (Stands old)) e (c.requires x (among-get xs i x at))))
          (adds_then old mid new c.args.all.now.items c.loop-definition.all.items c.add_form.new.all.items _ _ c.loop-definition.invariant.adds c.in_ok-add_form.ensures.adds);
    }

pub returns-clause-adds : goal.returns-clause-adds
returns-clause-adds c =
    let old = c.args.types.now in
    adds_as old c.loop-definition.types c.args.all.now.items c.loop-definition.all.items _ _
    (ap (λ l. flat_map written_whole (forms_in old l)) (take-all c.args.definitions.now c.loop-definition.definition-index c.loop-definition-test.false)) c.loop-definition.invariant.adds
