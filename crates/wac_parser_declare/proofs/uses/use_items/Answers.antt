use Rattle.std.specs.Prelude.{⊤}
use Rattle.std.proofs.Common.{◌≡◌, map, get_or, drop, ◌+◌, Ok, Err, ap, refl, subst, sym, ◌∙◌, arith}
use Rattle.wac_parser_tree.specs.Views.{view_use_item}
use Rattle.wac_parser_refusals.specs.Causes.{Answer, each}
use Rattle.wac_parser_refusals.specs.Outcomes.{IsHeld, IsRefusal}
use Rattle.wac_parser_refusals.proofs.Outcomes.{refused_outcome}
use Rattle.wac_parser_declare.specs.Bodies as stated
use Rattle.wac_parser_declare.specs.Bodies.{use_one}
use Rattle.wac_parser_declare.specs.Held.{holder_of, stated_body}
use Rattle.wac_parser_declare.specs.InBodies.{IsBody}
use Rattle.wac_parser_declare.specs.InUses.{stated_interface}
use Rattle.wac_parser_declare.proofs.InUses.{untyped_interface, use_goes, use_stops}
use Rattle.wac_parser_declare.proofs.Loops.{each_next, each_stops, each_ends}
use Rattle.wac_parser_declare.proofs.Standing.{typed_interface}
use Rattle.wac_parser_declare.proofs.uses.use_items.Goals as goal

pub loop-item-preserved : goal.loop-item-preserved
loop-item-preserved c =
    let d = c.args.types.now in
    let h = holder_of c.args.holder in
    let path = c.args.from.path.now in
    let from = stated_interface d c.args.from.interface in
    let f = use_one h path from in
    let k : stated.Body → ⊤ → Type 0 = λ y u. IsBody d y c.add_use.new.body in
    let found = stated_body d c.loop-item.body in
    let items = c.deref-item-items.result.now in
    let typed = untyped_interface d c.see_acyclic.ensures c.args.from.interface (typed_interface d c.args.from.interface c.requires.interface) in
    let next = each_next f view_use_item items c.loop-item.item-index k found _ tt c.loop-item-test.true
    (use_goes d h path from found (view_use_item (get_or c.deref-item-items.result.now c.loop-item.item-index _)) k c.in_ok-ty.ty (Ok tt) c.in_ok-ty.ensures.outcome (c.in_ok-add_use.ensures.outcome d from typed)) in
    record {
      body = c.in_ok-add_use.ensures.stands d c.loop-item.invariant.body c.requires.interface c.in_ok-ty.ensures.stands;
      rest = c.loop-item.invariant.rest ∙ next.2 ∙ ap (λ (y : stated.Body). each f y (map view_use_item (drop (c.loop-item.item-index + 1) items))) (sym next.1);
    }

pub returns-in_err-ty-clause-outcome : goal.returns-in_err-ty-clause-outcome
returns-in_err-ty-clause-outcome c =
    let d = c.args.types.now in
    let f = use_one (holder_of c.args.holder) c.args.from.path.now (stated_interface d c.args.from.interface) in
    let all = each f (stated_body d c.args.body.now) (map view_use_item c.args.items.now.items) in
    let found = stated_body d c.loop-item.body in
    refused_outcome (λ (y : stated.Body) (u : ⊤). IsBody d y c.loop-item.body) all _ _ c.from_residual.ensures.1
    (subst (λ (q : Answer stated.Body). IsRefusal q c.in_err-ty.field-0.0) (sym c.loop-item.invariant.rest)
    (each_stops f view_use_item c.deref-item-items.result.now c.loop-item.item-index found _ c.in_err-ty.field-0.0 c.loop-item-test.true
    (use_stops d (holder_of c.args.holder) c.args.from.path.now (stated_interface d c.args.from.interface) found (view_use_item (get_or c.deref-item-items.result.now c.loop-item.item-index _)) c.in_err-ty.field-0.0 c.in_err-ty.ensures.outcome)))

pub returns-in_err-add_use-clause-outcome : goal.returns-in_err-add_use-clause-outcome
returns-in_err-add_use-clause-outcome c =
    let d = c.args.types.now in
    let h = holder_of c.args.holder in
    let path = c.args.from.path.now in
    let from = stated_interface d c.args.from.interface in
    let f = use_one h path from in
    let all = each f (stated_body d c.args.body.now) (map view_use_item c.args.items.now.items) in
    let found = stated_body d c.loop-item.body in
    let k : stated.Body → ⊤ → Type 0 = λ y u. IsBody d y c.add_use.new.body in
    let typed = untyped_interface d c.see_acyclic.ensures c.args.from.interface (typed_interface d c.args.from.interface c.requires.interface) in
    refused_outcome k all _ _ c.from_residual-in_err-add_use.ensures.1
    (subst (λ (q : Answer stated.Body). IsRefusal q c.in_err-add_use.field-0.0) (sym c.loop-item.invariant.rest)
    (each_stops f view_use_item c.deref-item-items.result.now c.loop-item.item-index found _ c.in_err-add_use.field-0.0 c.loop-item-test.true
    (use_goes d h path from found (view_use_item (get_or c.deref-item-items.result.now c.loop-item.item-index _)) k c.in_ok-ty.ty (Err c.in_err-add_use.field-0.0) c.in_ok-ty.ensures.outcome (c.in_err-add_use.ensures.outcome d from typed))))

pub returns-clause-outcome : goal.returns-clause-outcome
returns-clause-outcome c =
    let d = c.args.types.now in
    let f = use_one (holder_of c.args.holder) c.args.from.path.now (stated_interface d c.args.from.interface) in
    let found = stated_body d c.loop-item.body in
    let all : each f (stated_body d c.args.body.now) (map view_use_item c.args.items.now.items) ≡ Ok found =
    c.loop-item.invariant.rest ∙ each_ends f view_use_item c.deref-item-items.result.now c.loop-item.item-index found (omega (arith, c.loop-item-test.false)) in
    subst (λ (q : Answer stated.Body). IsHeld (λ (y : stated.Body) (u : ⊤). IsBody d y c.loop-item.body) q tt) (sym all) refl
