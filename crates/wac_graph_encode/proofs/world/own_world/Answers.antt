use Rattle.std.specs.Prelude.{IfOk}
use Rattle.std.proofs.Common.{sym, subst, ap, ◌∙◌}
use Rattle.wac_types_base.specs.declared.item.ItemKind.{ItemKind}
use Rattle.wac_types_written.specs.Forms.{IsOf, ItemsStand, stated_items}
use Rattle.wac_graph_asks.proofs.Lasting.{outers_stay}
use Rattle.wac_graph_encode.proofs.Exported.{imports_stand, used_states}
use Rattle.wac_graph_encode.proofs.world.own_world.Goals as goal

pub add_world_of-requires-clause-imports : goal.add_world_of-requires-clause-imports
add_world_of-requires-clause-imports c =
    let out = outers_stay _ c.args.types.now c.typed_exports.new.types c.see_acyclic.ensures c.in_ok-exports.ensures.grows c.args.outers.now.world c.args.outers.now.places c.requires.outers in
    subst (ItemsStand c.typed_exports.new.types) (sym c.in_ok-imports.ensures) (imports_stand c.typed_exports.new.types c.in_ok-exports.ensures.grows.acyclic c.args.outers.now.world out.stands out.distinct)

pub add_world_of-requires-clause-exports : goal.add_world_of-requires-clause-exports
add_world_of-requires-clause-exports c = c.in_ok-exports.ensures.exports.stand

pub returns-clause-world : goal.returns-clause-world
returns-clause-world c =
    let mid = c.typed_exports.new.types in
    let out = outers_stay _ c.args.types.now c.typed_exports.new.types c.see_acyclic.ensures c.in_ok-exports.ensures.grows c.args.outers.now.world c.args.outers.now.places c.requires.outers in
    subst (λ s. IfOk c.add_world_of.result (λ w. IsOf c.add_world_of.new.types s (ItemKind.Component w)))
    (used_states c.args.graph.now mid c.in_ok-imports.imports c.in_ok-exports.exports (ap (stated_items mid) c.in_ok-imports.ensures ∙ out.imports) c.in_ok-exports.ensures.exports)
    c.add_world_of.ensures.world
