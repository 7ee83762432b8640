use Rattle.std.proofs.Common.{◌+◌, List, ◌++◌, ap, sym, subst, arith, take}
use Rattle.std.proofs.lemmas.Result.{on_ok_weaker}
use Rattle.wac_types_base.specs.declared.item.ItemKind.{ItemKind}
use Rattle.wac_types_base.specs.Entries.{Name}
use Rattle.wac_types_base.specs.Stated.{stated_of}
use Rattle.wac_types_base.proofs.Loops.{take-all}
use Rattle.wac_composition.specs.Circles.{used_inside}
use Rattle.wac_types_parts.specs.Parts.{exports_of, uses_of}
use Rattle.wac_graph_causes.specs.Orders.{AddsUsed, interfaces_used, used_in_items}
use Rattle.wac_graph_causes.proofs.CircleLaws.{flat_more}
use Rattle.wac_graph_causes.proofs.Orders.{adds_as, adds_both, adds_none}
use Rattle.wac_graph_causes.proofs.UsedInside.{item_uses, nothing_used}
use Rattle.wac_graph_causes.proofs.order.+needs.Goals.{add_needs_of_exports-in-Some+in_ok-add_needs, add_needs_of_exports-in_default}
use Rattle.wac_graph_causes.proofs.order.+needs.Goals as goal

pub add_needs-returns : goal.add_needs-returns
add_needs-returns t c =
    let s = c.args.sources in
    let d = s.types.now in
    let id = c.in-Some.id in
    let old = c.args.names.now.items in
    on_ok_weaker c.add_needs_of_exports.result
    (λ f. adds_as s _ (used_inside (stated_of d c.args.kind)) old c.add_needs_of_exports.new.names.items (sym (item_uses d c.see_acyclic.ensures c.args.kind id c.in-Some.ensures.kind c.in-Some.ensures.stands))
    (adds_both s (interfaces_used d (uses_of d id)) (used_in_items d (exports_of d id)) old c.add_uses.new.names.items c.add_needs_of_exports.new.names.items c.in_ok-add_uses.ensures f))
    c.add_needs_of_exports.ensures

pub add_needs-returns-in_default : goal.add_needs-returns-in_default
add_needs-returns-in_default t c =
    let s = c.args.sources in
    let old = c.args.names.now.items in
    adds_as s _ _ old old (sym (nothing_used s.types.now c.see_acyclic.ensures c.args.kind c.in_default.ensures.none)) (adds_none s old)

pub add_needs_of_exports-loop-at-init : goal.add_needs_of_exports-loop-at-init
add_needs_of_exports-loop-at-init t c = adds_none c.args.sources c.args.names.now.items

pub add_needs_of_exports-loop-at-preserved : goal.add_needs_of_exports-loop-at-preserved
add_needs_of_exports-loop-at-preserved t c =
    let s = c.args.sources in
    let d = s.types.now in
    let es = exports_of d c.args.id in
    let i = c.loop-at.at in
    let old = c.args.names.now.items in
    let so = used_in_items d (take i es) in
    elim c.match-export_at.branch [
      | add_needs_of_exports-in-Some+in_ok-add_needs w ↦
          let more = used_inside (stated_of d w.in-Some.item.kind) in
          let same = flat_more (λ (x : Name × ItemKind). used_inside (stated_of d x.1)) es i _ w.in-Some.ensures.entry in
          subst (λ (l : List Name). AddsUsed s (used_in_items d (take (i + 1) es)) old l) (sym (ap (λ p. p.items) w.names-is))
          (adds_as s (so ++ more) _ old w.add_needs.new.names.items same (adds_both s so more old c.loop-at.names.items w.add_needs.new.names.items c.loop-at.invariant w.in_ok-add_needs.ensures))
      | add_needs_of_exports-in_default w ↦ absurd (omega (arith, c.loop-at-test.true, c.export_count-at-end.ensures.len, w.in_default.ensures.none))
    ]

pub add_needs_of_exports-returns : goal.add_needs_of_exports-returns
add_needs_of_exports-returns t c =
    let s = c.args.sources in
    let es = exports_of s.types.now c.args.id in
    adds_as s _ _ c.args.names.now.items c.loop-at.names.items (ap (used_in_items s.types.now) (take-all es c.loop-at.at (omega (arith, c.loop-at-test.false, c.export_count-at-end.ensures.len)))) c.loop-at.invariant
