use Rattle.std.proofs.Common.{Some, sym, ap, subst, ◌∙◌, arith}
use Rattle.wac_types_base.specs.declared.item.ItemKind.{ItemKind}
use Rattle.wac_types_base.specs.Collection.{Stands, size_of, slots_of}
use Rattle.wac_types_base.proofs.Walking.{child_smaller, some_place}
use Rattle.wac_types_fit.proofs.Unfolded.{end_smaller}
use Rattle.wac_graph_scopes.proofs.type_places.TypePlaces.+parts.Goals as goal

pub add_parts-add_part-requires : goal.add_parts-add_part-requires
add_parts-add_part-requires t c =
    let at = sym c.in-Some.ensures.place ∙ ap Some c.in-Some-place.is in
    let s = child_smaller c.args.types.now c.place.ensures.acyclic c.args.kind c.requires c.loop-place.at c.in-Some-place.part at in
    (omega (arith, s.1, c.decreases), s.0)

pub add_parts-loop-place-smaller : goal.add_parts-loop-place-smaller
add_parts-loop-place-smaller t c =
    let lt = some_place (slots_of c.args.types.now c.args.kind) c.loop-place.at c.in-Some.place (sym c.in-Some.ensures.place) in
    omega (arith, lt)

pub add_part-add_parts-requires : goal.add_part-add_parts-requires
add_part-add_parts-requires t c =
    let types = c.args.types.now in
    let stands = subst (λ (k : ItemKind). Stands types k) c.in-Value.is c.requires in
    let smaller = end_smaller types c.see_acyclic.ensures c.in-Value.ty _ c.in-Defined.ensures.resolved stands in
    let same = ap (size_of types) c.in-Value.is in
    (omega (arith, smaller, same, c.decreases), c.in-Defined.ensures.stands)
