use Rattle.std.specs.List.{flat_map}
use Rattle.std.proofs.Common.{ap, arith}
use Rattle.wac_types_base.proofs.Adding.{Grows-refl, Grows-trans}
use Rattle.wac_types_base.proofs.Loops.{take-all}
use Rattle.wac_types_written.specs.Forms.{stated_items}
use Rattle.wac_composition.specs.Circles.{written_inside}
use Rattle.wac_graph_causes.proofs.CircleLaws.{items_more}
use Rattle.wac_graph_causes.proofs.LateLaws.{adds_as, adds_nothing, adds_then}
use Rattle.wac_graph_causes.proofs.circles.add_all_inside.Goals as goal

pub entry-requires : goal.entry-requires
entry-requires c = omega (arith, c.loop-at-test.true, c.len-at-end.ensures.len)

pub loop-at-init : goal.loop-at-init
loop-at-init c =
    let d = c.args.types.now in
    let g = Grows-refl d c.see_acyclic.ensures in
    record { grows = g; adds = adds_nothing d d g c.args.all.now.items }

pub loop-at-preserved : goal.loop-at-preserved
loop-at-preserved c =
    let old = c.args.types.now in
    let mid = c.loop-at.types in
    let new = c.add_inside.new.types in
    let g = c.loop-at.invariant.grows in
    record {
      grows = Grows-trans old mid new g c.in_ok-add_inside.ensures.grows;
      adds = adds_as old new c.args.all.now.items c.add_inside.new.all.items _ _
          (items_more old mid g c.args.items.now c.requires c.loop-at.at c.entry.result.0.now c.entry.result.1.now c.entry.ensures)
          (adds_then old mid new c.args.all.now.items c.loop-at.all.items c.add_inside.new.all.items _ _ c.loop-at.invariant.adds c.in_ok-add_inside.ensures.adds);
    }

pub returns-clause-adds : goal.returns-clause-adds
returns-clause-adds c =
    let old = c.args.types.now in
    adds_as old c.loop-at.types c.args.all.now.items c.loop-at.all.items _ _
    (ap (λ l. flat_map written_inside (stated_items old l)) (take-all c.args.items.now c.loop-at.at (omega (arith, c.loop-at-test.false, c.len-at-end.ensures.len)))) c.loop-at.invariant.adds
