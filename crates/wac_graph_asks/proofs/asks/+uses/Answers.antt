use Rattle.std.proofs.Common.{◌+◌, ◌<◌, length, get_or, sym, ap, subst, refl, ◌∙◌, arith}
use Rattle.std.proofs.lemmas.Result.{on_ok_weaker}
use Rattle.wac_types_base.specs.declared.item.ItemKind.{ItemKind}
use Rattle.wac_types_base.specs.declared.item.«Type».{«Type» as TypeKind}
use Rattle.wac_types_base.specs.Collection.{size_of}
use Rattle.wac_types_base.specs.Entries.{values_of}
use Rattle.wac_types_base.specs.Graph.{Among}
use Rattle.wac_types_base.specs.Stated.{stated_of}
use Rattle.wac_types_base.proofs.Looked.{among-get}
use Rattle.wac_types_base.proofs.Loops.{get-place}
use Rattle.wac_types_base.proofs.Copying.{get_or-Among}
use Rattle.wac_types_base.proofs.Used.{place_or}
use Rattle.wac_types_merge.proofs.Families.{use_inside}
use Rattle.wac_types_parts.specs.Parts.{exports_of}
use Rattle.wac_types_parts.proofs.PartLaws.{uses_there, exports_there}
use Rattle.wac_composition.specs.Asks.{used_by, asked_for}
use Rattle.wac_graph_asks.specs.AskedUses.{with_used, all_with_used, used_directly, used_by_items, NotesUse, AskedBelow}
use Rattle.wac_graph_asks.proofs.Using.{other_uses}
use Rattle.wac_graph_asks.proofs.Uses.{adds_none, uses_as, below_after, below_less, seen_before, below_new, seen_new, one_more, adds_all, both_used}
use Rattle.wac_graph_asks.proofs.UseSteps.{item_inside, instance_stands, item_uses}
use Rattle.wac_graph_asks.proofs.asks.+uses.Goals as goal

-- ---- an interface

pub ask_use-returns-then-not-is_new : goal.ask_use-returns-then-not-is_new
ask_use-returns-then-not-is_new t c =
    seen_before c.args.types.now c.args.all.now c.add_use.new.all c.args.by c.args.id
    (subst (NotesUse c.args.types.now c.args.all.now c.add_use.new.all c.args.by c.args.id) c.if-not-is_new.true c.in_ok-is_new.ensures) c.requires.below

pub ask_use-ask_uses-requires : goal.ask_use-ask_uses-requires
ask_use-ask_uses-requires t c = (
  omega (arith, c.decreases),
  (
    c.requires.stands,
    below_new c.args.types.now c.args.all.now c.add_use.new.all c.args.by c.args.id
        (subst (NotesUse c.args.types.now c.args.all.now c.add_use.new.all c.args.by c.args.id) c.if-not-is_new.false c.in_ok-is_new.ensures) c.requires.below,
  ),
)

pub ask_use-returns : goal.ask_use-returns
ask_use-returns t c =
    on_ok_weaker c.ask_uses.result
    (seen_new c.args.types.now c.args.all.now c.add_use.new.all c.ask_uses.new.all c.args.by c.args.id c.requires.stands
    (subst (NotesUse c.args.types.now c.args.all.now c.add_use.new.all c.args.by c.args.id) c.if-not-is_new.false c.in_ok-is_new.ensures))
    c.ask_uses.ensures

-- ---- what it uses directly

pub ask_direct-loop-used-init : goal.ask_direct-loop-used-init
ask_direct-loop-used-init t c = adds_none c.args.types.now c.args.all.now c.args.all.now refl refl

pub ask_direct-ask_use-requires : goal.ask_direct-ask_use-requires
ask_direct-ask_use-requires t c =
    let us = c.values-uses.result.now in
    let within : c.loop-used.used-index < length us = omega arith in
    let at = get-place us c.loop-used.used-index c.used-item.result within c.used-item.is in
    let s =
    use_inside c.args.types.now c.interface.ensures.acyclic c.args.id c.interface.result.now c.requires.stands c.interface.ensures.entry c.interface.ensures.own c.used-item.result
    (subst (Among c.used-item.result) c.values-uses.ensures (among-get us c.loop-used.used-index c.used-item.result at)) in
    let less = s.1 in (
      omega (arith, less, c.decreases),
      (
        s.0,
        below_less c.args.types.now c.loop-used.all (size_of c.args.types.now (ItemKind.Instance c.used-item.result.interface) + 1) (size_of c.args.types.now (ItemKind.Instance c.args.id)) (omega (arith, less))
            (below_after c.args.types.now c.args.all.now c.loop-used.all (size_of c.args.types.now (ItemKind.Instance c.args.id)) c.requires.below c.loop-used.invariant),
      ),
    )

pub ask_direct-loop-used-preserved : goal.ask_direct-loop-used-preserved
ask_direct-loop-used-preserved t c =
    let us = c.values-uses.result.now in
    let within : c.loop-used.used-index < length us = omega arith in
    one_more c.args.types.now (λ u. with_used c.args.types.now u.interface) c.args.by us c.loop-used.used-index c.used-item.result c.args.all.now c.loop-used.all c.ask_use.new.all
    (get-place us c.loop-used.used-index c.used-item.result within c.used-item.is) c.loop-used.invariant c.in_ok-ask_use.ensures

pub ask_direct-returns : goal.ask_direct-returns
ask_direct-returns t c =
    let us = c.values-uses.result.now in
    adds_all c.args.types.now (λ u. with_used c.args.types.now u.interface) c.args.by us c.loop-used.used-index (used_directly c.args.types.now c.args.id) c.args.all.now c.loop-used.all (omega arith)
    (ap (all_with_used c.args.types.now) (c.values-uses.ensures ∙ ap values_of (sym (uses_there c.args.types.now c.args.id c.interface.result.now c.interface.ensures.entry c.interface.ensures.own)))) c.loop-used.invariant

-- ---- what its items use

pub ask_exports-loop-item-init : goal.ask_exports-loop-item-init
ask_exports-loop-item-init t c = adds_none c.args.types.now c.args.all.now c.args.all.now refl refl

-- what a loop over item kinds reads past the end
abbrev nothing : ItemKind
nothing = ItemKind.Ty (TypeKind.Resource (record { collection = 0; index = 0 }))

pub ask_exports-ask_uses-requires : goal.ask_exports-ask_uses-requires
ask_exports-ask_uses-requires t c =
    let ks = c.values-items.result.now in
    let within : c.loop-item.item-index < length ks = omega arith in
    let k = get_or ks c.loop-item.item-index nothing in
    let s =
    item_inside c.args.types.now c.interface.ensures.acyclic c.args.id c.interface.result.now c.requires.stands c.interface.ensures.entry c.interface.ensures.own k
    (subst (Among k) c.values-items.ensures (get_or-Among ks c.loop-item.item-index nothing within)) in
    let less = s.1 in (
      omega (arith, less, c.decreases),
      (
        s.0,
        below_less c.args.types.now c.loop-item.all (size_of c.args.types.now k) (size_of c.args.types.now (ItemKind.Instance c.args.id)) (omega (arith, less))
            (below_after c.args.types.now c.args.all.now c.loop-item.all (size_of c.args.types.now (ItemKind.Instance c.args.id)) c.requires.below c.loop-item.invariant),
      ),
    )

pub ask_exports-loop-item-preserved : goal.ask_exports-loop-item-preserved
ask_exports-loop-item-preserved t c =
    let ks = c.values-items.result.now in
    let within : c.loop-item.item-index < length ks = omega arith in
    one_more c.args.types.now (λ k. used_by (stated_of c.args.types.now k)) c.args.by ks c.loop-item.item-index (get_or ks c.loop-item.item-index nothing) c.args.all.now c.loop-item.all c.ask_uses.new.all
    (place_or ks c.loop-item.item-index nothing within) c.loop-item.invariant c.in_ok-ask_uses.ensures

pub ask_exports-returns : goal.ask_exports-returns
ask_exports-returns t c =
    let ks = c.values-items.result.now in
    adds_all c.args.types.now (λ k. used_by (stated_of c.args.types.now k)) c.args.by ks c.loop-item.item-index (used_by_items c.args.types.now (values_of (exports_of c.args.types.now c.args.id))) c.args.all.now c.loop-item.all (omega arith)
    (ap (used_by_items c.args.types.now) (c.values-items.ensures ∙ ap values_of (sym (exports_there c.args.types.now c.args.id c.interface.result.now c.interface.ensures.entry c.interface.ensures.own)))) c.loop-item.invariant

-- ---- an item

pub ask_uses-returns-in_default : goal.ask_uses-returns-in_default
ask_uses-returns-in_default t c =
    uses_as c.args.types.now c.args.all.now c.args.all.now (adds_none c.args.types.now c.args.all.now c.args.all.now refl refl)
    (ap (asked_for c.args.by) (sym (other_uses c.args.types.now c.see_acyclic.ensures c.args.kind c.requires.stands (c.in_default.ensures.none c.requires.stands))))

pub ask_uses-ask_direct-requires : goal.ask_uses-ask_direct-requires
ask_uses-ask_direct-requires t c =
    let same = c.in-Some.ensures.size in (
      omega (arith, same, c.decreases),
      (instance_stands c.args.types.now c.args.kind c.in-Some.id c.in-Some.ensures.kind c.requires.stands, subst (AskedBelow c.args.types.now c.args.all.now) (sym same) c.requires.below),
    )

pub ask_uses-ask_exports-requires : goal.ask_uses-ask_exports-requires
ask_uses-ask_exports-requires t c =
    let same = c.in-Some.ensures.size in (
      omega (arith, same, c.decreases),
      (
        instance_stands c.args.types.now c.args.kind c.in-Some.id c.in-Some.ensures.kind c.requires.stands,
        below_after c.args.types.now c.args.all.now c.ask_direct.new.all (size_of c.args.types.now (ItemKind.Instance c.in-Some.id))
            (subst (AskedBelow c.args.types.now c.args.all.now) (sym same) c.requires.below) c.in_ok-ask_direct.ensures,
      ),
    )

pub ask_uses-returns : goal.ask_uses-returns
ask_uses-returns t c =
    let types = c.args.types.now in
    on_ok_weaker c.ask_exports.result
    (both_used types c.args.by (used_directly types c.in-Some.id) (used_by_items types (values_of (exports_of types c.in-Some.id))) (used_by (stated_of types c.args.kind)) c.args.all.now c.ask_direct.new.all c.ask_exports.new.all
    (item_uses types c.see_acyclic.ensures c.args.kind c.in-Some.id c.in-Some.ensures.kind (instance_stands types c.args.kind c.in-Some.id c.in-Some.ensures.kind c.requires.stands)) c.in_ok-ask_direct.ensures)
    c.ask_exports.ensures
