use Rattle.std.proofs.Common.{◌+◌, ◌∷◌, [], sym, ap, arith, take}
use Rattle.wac_types_base.specs.declared.item.ItemKind.{ItemKind}
use Rattle.wac_types_base.specs.declared.defined.UsedType.{UsedType}
use Rattle.wac_types_base.specs.Entries.{Name}
use Rattle.wac_types_base.specs.Stated.{stated_of}
use Rattle.wac_types_base.proofs.Lists.{there_is}
use Rattle.wac_types_base.proofs.Loops.{map-one_more, take-all}
use Rattle.wac_types_parts.specs.Parts.{uses_of}
use Rattle.wac_graph_causes.specs.Orders.{interfaces_used}
use Rattle.wac_graph_causes.proofs.Orders.{adds_as, adds_both, adds_none}
use Rattle.wac_graph_causes.proofs.order.add_uses.Goals as goal

pub loop-at-init : goal.loop-at-init
loop-at-init c = adds_none c.args.sources c.args.names.now.items

pub loop-at-preserved : goal.loop-at-preserved
loop-at-preserved c =
    let s = c.args.sources in
    let d = s.types.now in
    let us = uses_of d c.args.id in
    let i = c.loop-at.at in
    let e = there_is us i (omega (arith, c.loop-at-test.true, c.use_count-at-end.ensures.len)) in
    adds_as s _ (interfaces_used d (take (i + 1) us)) c.args.names.now.items c.add_use_at.new.names.items (sym (map-one_more (λ (u : Name × UsedType). stated_of d (ItemKind.Instance u.1.interface)) us i e.0 e.1))
    (adds_both s (interfaces_used d (take i us)) (stated_of d (ItemKind.Instance e.0.1.interface) ∷ []) c.args.names.now.items c.loop-at.names.items c.add_use_at.new.names.items c.loop-at.invariant (c.in_ok-add_use_at.ensures e.0 e.1))

pub returns : goal.returns
returns c =
    let s = c.args.sources in
    let us = uses_of s.types.now c.args.id in
    adds_as s _ _ c.args.names.now.items c.loop-at.names.items (ap (interfaces_used s.types.now) (take-all us c.loop-at.at (omega (arith, c.loop-at-test.false, c.use_count-at-end.ensures.len)))) c.loop-at.invariant
