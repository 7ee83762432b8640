use Rattle.std.proofs.Common.{◌+◌, List, ℕ, [], ◌∷◌, ap, sym, subst, arith, take}
use Rattle.std.proofs.lemmas.List.{append-nil}
use Rattle.std.proofs.lemmas.Result.{on_ok_weaker}
use Rattle.wac_types_base.specs.declared.item.ItemKind.{ItemKind}
use Rattle.wac_types_base.specs.Entries.{Name, values_of}
use Rattle.wac_types_base.proofs.Loops.{take-all, map-one_more}
use Rattle.wac_types_parts.specs.Parts.{exports_of}
use Rattle.wac_graph_scopes.specs.UsePlaces.{AddsUses, nothing}
use Rattle.wac_graph_scopes.proofs.UsePlaceLaws.{adds_interface, adds_nothing, adds_uses}
use Rattle.wac_graph_scopes.proofs.order.+needs.Goals.{add_needs_of_exports-in-Some+in_ok-add_needs, add_needs_of_exports-in_default}
use Rattle.wac_graph_scopes.proofs.order.+needs.Goals as goal

pub add_needs-returns : goal.add_needs-returns
add_needs-returns t c =
    on_ok_weaker c.add_needs_of_exports.result
    (λ f. adds_interface c.args.types.now c.args.found.now c.args.kind c.in-Some.id c.args.needs.now.items c.add_uses.new.needs.items c.add_needs_of_exports.new.needs.items c.in-Some.ensures.kind c.in-Some.ensures.stands c.in_ok-add_uses.ensures f)
    c.add_needs_of_exports.ensures

pub add_needs-returns-in_default : goal.add_needs-returns-in_default
add_needs-returns-in_default t c = adds_nothing c.args.types.now c.args.found.now c.args.kind c.args.needs.now.items c.in_default.ensures.none

pub add_needs_of_exports-loop-at-init : goal.add_needs_of_exports-loop-at-init
add_needs_of_exports-loop-at-init t c = ([], nothing, sym (append-nil c.args.needs.now.items))

pub add_needs_of_exports-loop-at-preserved : goal.add_needs_of_exports-loop-at-preserved
add_needs_of_exports-loop-at-preserved t c =
    let d = c.args.types.now in
    let es = exports_of d c.args.id in
    let i = c.loop-at.at in
    let old = c.args.needs.now.items in
    elim c.match-export_at.branch [
      | add_needs_of_exports-in-Some+in_ok-add_needs w ↦
          let k = w.in-Some.item.kind in
          let same = map-one_more (λ (x : Name × ItemKind). x.1) es i (w.in-Some.item.name.now, k) w.in-Some.ensures.entry in
          subst (λ (l : List ℕ). AddsUses d c.args.found.now (values_of (take (i + 1) es)) old l) (sym (ap (λ p. p.items) w.needs-is))
          (subst (λ ks. AddsUses d c.args.found.now ks old w.add_needs.new.needs.items) (sym same)
          (adds_uses d c.args.found.now (values_of (take i es)) (k ∷ []) old c.loop-at.needs.items w.add_needs.new.needs.items c.loop-at.invariant w.in_ok-add_needs.ensures))
      | add_needs_of_exports-in_default w ↦ absurd (omega (arith, c.loop-at-test.true, c.export_count-at-end.ensures.len, w.in_default.ensures.none))
    ]

pub add_needs_of_exports-returns : goal.add_needs_of_exports-returns
add_needs_of_exports-returns t c =
    let d = c.args.types.now in
    let es = exports_of d c.args.id in
    subst (λ l. AddsUses d c.args.found.now (values_of l) c.args.needs.now.items c.loop-at.needs.items)
    (take-all es c.loop-at.at (omega (arith, c.loop-at-test.false, c.export_count-at-end.ensures.len))) c.loop-at.invariant
