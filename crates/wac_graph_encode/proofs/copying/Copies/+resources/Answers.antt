use Rattle.std.proofs.Common.{Some, refl, sym, ap, ◌∙◌, arith}
use Rattle.wac_types_base.specs.declared.item.ItemKind.{ItemKind}
use Rattle.wac_types_base.specs.Collection.{slots_of}
use Rattle.wac_types_base.proofs.Walking.{child_smaller, some_place}
use Rattle.wac_graph_encode.proofs.copying.Copies.+resources.Goals as goal

pub in_parts-in_value-requires : goal.in_parts-in_value-requires
in_parts-in_value-requires t c =
    let at = sym c.in-Some.ensures.place ∙ ap Some (c.in-Some-place.is ∙ ap Some c.in-Value.is) in
    let s = child_smaller c.args.from.now c.in-Some.ensures.acyclic c.args.kind (c.if-not-has.ensures.0 refl) c.loop-place.at (ItemKind.Value c.in-Value.ty) at in
    omega (arith, s.1, c.decreases)

pub in_parts-loop-place-smaller : goal.in_parts-loop-place-smaller
in_parts-loop-place-smaller t c =
    let lt = some_place (slots_of c.args.from.now c.args.kind) c.loop-place.at c.in-Some.place (sym c.in-Some.ensures.place) in
    omega (arith, lt)
