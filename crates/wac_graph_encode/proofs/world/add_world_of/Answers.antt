use Rattle.std.proofs.Common.{[], None, subst, sym}
use Rattle.wac_types_base.specs.Stated.{world_of}
use Rattle.wac_types_written.specs.Forms.{UsesStand, stated_items, stated_uses}
use Rattle.wac_types_written.proofs.Adding.{world_added}
use Rattle.wac_types_written.proofs.Growing.{items_kept}
use Rattle.wac_types_written.proofs.Ids.{world_children}
use Rattle.wac_graph_encode.proofs.world.add_world_of.Goals as goal

pub add_world-requires : goal.add_world-requires
add_world-requires c =
    world_children c.args.types.now (record { id = None; uses = c.new.result; imports = c.args.imports; exports = c.args.exports })
    (subst (UsesStand c.args.types.now) (sym c.new.ensures) (λ u m. absurd m)) c.requires.imports c.requires.exports

pub returns-clause-world : goal.returns-clause-world
returns-clause-world c =
    let old = c.args.types.now in
    let new = c.add_world.new.self in
    let e = c.in_ok-world.ensures in
    world_added old new e.grows (record { id = None; uses = c.new.result; imports = c.args.imports; exports = c.args.exports }) c.in_ok-world.world
    (world_of None [] (stated_items old c.args.imports) (stated_items old c.args.exports)) e.added e.id
    (λ j. world_of None (stated_uses new (c.new.ensures j)) (items_kept old new e.grows c.args.imports c.requires.imports j) (items_kept old new e.grows c.args.exports c.requires.exports j))
