use Rattle.std.proofs.Common.{◌≡◌, ◌++◌, ◌∙◌, Some, ap, arith, refl, subst, sym, take}
use Rattle.wac_types_base.specs.declared.item.ItemKind.{ItemKind}
use Rattle.wac_types_base.specs.declared.defined.Interface.{Interface}
use Rattle.wac_types_base.specs.Stated.{stated_of}
use Rattle.wac_types_base.proofs.Looked.{among-get}
use Rattle.wac_types_base.proofs.Standing.{interface_found}
use Rattle.wac_types_written.specs.Forms.{through}
use Rattle.wac_types_written.specs.Walked.{Walks, below_items, below_uses}
use Rattle.wac_types_written.specs.Written.{dependencies}
use Rattle.wac_types_written.proofs.Ids.{interface_exports_stand, interface_uses_stand}
use Rattle.wac_types_written.proofs.Stepping.{item_size, items_next, parts_depend, parts_size, use_size, uses_next, with_interface, without_interface}
use Rattle.wac_types_written.proofs.Walking.{walks_marked, walks_same, walks_then, walks_walked}
use Rattle.wac_types_written.proofs.uses.+used.Goals as goal

some_same : {A : Type 0} {x y : A} → Some x ≡ Some y → x ≡ y
some_same e = cc e

pub add_dependencies-add_uses-requires : goal.add_dependencies-add_uses-requires
add_dependencies-add_uses-requires t c =
    let i = c.interface.ensures in
    let s = parts_size c.args.types.now i.acyclic c.args.id c.interface.result.now i.entry i.own in
    (omega (arith, s, c.decreases), (interface_uses_stand c.args.types.now i.acyclic c.args.id c.interface.result.now i.entry i.own, c.requires.walk))

pub add_dependencies-add_items-requires : goal.add_dependencies-add_items-requires
add_dependencies-add_items-requires t c =
    let i = c.interface-2.ensures in
    let s = parts_size c.args.types.now i.acyclic c.args.id c.interface-2.result.now i.entry i.own in
    (omega (arith, s, c.decreases), (interface_exports_stand c.args.types.now i.acyclic c.args.id c.interface-2.result.now i.entry i.own, c.in_ok-add_uses.ensures.is))

pub add_dependencies-returns : goal.add_dependencies-returns
add_dependencies-returns t c =
    let types = c.args.types.now in
    let i = c.interface-2.ensures in
    let same : c.interface.result.now ≡ c.interface-2.result.now = some_same (sym c.interface.ensures.entry ∙ i.entry) in
    subst (λ l. Walks types l c.args.walk.now c.add_items.new.walk) (ap (λ (x : Interface). below_uses types x.uses ++ below_items types c.interface-2.result.now.exports) same ∙ sym (parts_depend types i.acyclic c.args.id c.interface-2.result.now i.entry i.own))
    (walks_then types (below_uses types c.interface.result.now.uses) (below_items types c.interface-2.result.now.exports) c.args.walk.now c.add_uses.new.walk c.add_items.new.walk c.in_ok-add_uses.ensures c.in_ok-add_items.ensures)

pub add_item-add_dependencies-requires : goal.add_item-add_dependencies-requires
add_item-add_dependencies-requires t c =
    let i = with_interface c.args.types.now c.see_acyclic.ensures c.args.item c.in-Some.id (sym c.in-Some.ensures) c.requires.stands in
    (omega (arith, i.size, c.decreases), (i.stands, c.requires.walk))

pub add_item-returns-in_ok-add_dependencies-in-Some : goal.add_item-returns-in_ok-add_dependencies-in-Some
add_item-returns-in_ok-add_dependencies-in-Some t c =
    let i = with_interface c.args.types.now c.see_acyclic.ensures c.args.item c.in-Some.id (sym c.in-Some.ensures) c.requires.stands in
    subst (λ l. Walks c.args.types.now l c.args.walk.now c.add_dependencies.new.walk) (sym i.depend) c.in_ok-add_dependencies-in-Some.ensures

pub add_item-returns-in-None : goal.add_item-returns-in-None
add_item-returns-in-None t c = walks_same c.args.types.now (dependencies (stated_of c.args.types.now c.args.item)) c.args.walk.now (without_interface c.args.types.now c.see_acyclic.ensures c.args.item (sym c.in-None.ensures) c.requires.stands) c.requires.walk

pub add_items-add_item-requires : goal.add_items-add_item-requires
add_items-add_item-requires t c =
    let s = item_size c.args.types.now c.see_acyclic.ensures c.args.items.now c.loop-at.at c.entry.result.0.now c.entry.result.1.now c.entry.ensures c.requires.stand in
    (omega (arith, s, c.decreases), (c.requires.stand (c.entry.result.0.now, c.entry.result.1.now) (among-get c.args.items.now c.loop-at.at (c.entry.result.0.now, c.entry.result.1.now) c.entry.ensures), c.loop-at.invariant.is))

pub add_items-loop-at-preserved : goal.add_items-loop-at-preserved
add_items-loop-at-preserved t c =
    let types = c.args.types.now in
    subst (λ l. Walks types l c.args.walk.now c.add_item.new.walk) (items_next types c.args.items.now c.loop-at.at c.entry.result.0.now c.entry.result.1.now c.entry.ensures)
    (walks_then types (below_items types (take c.loop-at.at c.args.items.now)) (dependencies (stated_of types c.entry.result.1.now)) c.args.walk.now c.loop-at.walk c.add_item.new.walk c.loop-at.invariant c.in_ok-add_item.ensures)

pub add_through-returns-then-contains : goal.add_through-returns-then-contains
add_through-returns-then-contains t c =
    let f = interface_found c.args.types.now c.args.id c.requires.stands in
    walks_walked c.args.types.now c.args.id c.args.walk.now f.own (sym c.contains.ensures ∙ c.if-contains.true) c.requires.stands c.requires.walk

pub add_through-returns : goal.add_through-returns
add_through-returns t c =
    let types = c.args.types.now in
    let x = stated_of types (ItemKind.Instance c.args.id) in
    let f = interface_found types c.args.id c.requires.stands in
    walks_marked types c.args.id c.args.walk.now c.add_named.new.walk (record { found = c.add_named.new.walk.found; walked = c.insert.new.self }) f.own
    (walks_then types (dependencies x) _ c.args.walk.now c.add_dependencies.new.walk c.add_named.new.walk c.in_ok-add_dependencies.ensures c.in_ok-add_named.ensures)
    refl c.in_ok-insert.ensures.updates

pub add_uses-add_through-requires : goal.add_uses-add_through-requires
add_uses-add_through-requires t c =
    let s = use_size c.args.types.now c.see_acyclic.ensures c.args.uses.now c.loop-at.at c.entry.result.0.now c.entry.result.1.now c.entry.ensures c.requires.stand in
    (omega (arith, s, c.decreases), (c.requires.stand (c.entry.result.0.now, c.entry.result.1.now) (among-get c.args.uses.now c.loop-at.at (c.entry.result.0.now, c.entry.result.1.now) c.entry.ensures), c.loop-at.invariant.is))

pub add_uses-loop-at-preserved : goal.add_uses-loop-at-preserved
add_uses-loop-at-preserved t c =
    let types = c.args.types.now in
    subst (λ l. Walks types l c.args.walk.now c.add_through.new.walk) (uses_next types c.args.uses.now c.loop-at.at c.entry.result.0.now c.entry.result.1.now c.entry.ensures)
    (walks_then types (below_uses types (take c.loop-at.at c.args.uses.now)) (through (stated_of types (ItemKind.Instance c.entry.result.1.now.interface))) c.args.walk.now c.loop-at.walk c.add_through.new.walk c.loop-at.invariant c.in_ok-add_through.ensures)
