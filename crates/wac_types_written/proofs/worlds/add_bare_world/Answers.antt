use Rattle.std.proofs.Common.{[], subst, sym}
use Rattle.wac_types_base.specs.Stated.{world_of}
use Rattle.wac_types_written.specs.Forms.{UsesStand, stated_items, stated_uses}
use Rattle.wac_types_written.proofs.Adding.{world_added}
use Rattle.wac_types_written.proofs.Growing.{items_kept}
use Rattle.wac_types_written.proofs.Ids.{world_children}
use Rattle.wac_types_written.proofs.worlds.add_bare_world.Goals as goal

pub add_world-requires : goal.add_world-requires
add_world-requires c =
    world_children c.args.types.now (record { id = c.args.world.id; uses = c.new.result; imports = c.args.world.imports; exports = c.args.world.exports })
    (subst (UsesStand c.args.types.now) (sym c.new.ensures) (λ u m. absurd m)) c.requires.imports c.requires.exports

pub returns-clause-world : goal.returns-clause-world
returns-clause-world c =
    let old = c.args.types.now in
    let new = c.add_world.new.self in
    let e = c.in_ok-world.ensures in
    world_added old new e.grows (record { id = c.args.world.id; uses = c.new.result; imports = c.args.world.imports; exports = c.args.world.exports }) c.in_ok-world.world
    (world_of c.args.world.id [] (stated_items old c.args.world.imports) (stated_items old c.args.world.exports)) e.added e.id
    (λ j. world_of c.args.world.id (stated_uses new (c.new.ensures j)) (items_kept old new e.grows c.args.world.imports c.requires.imports j) (items_kept old new e.grows c.args.world.exports c.requires.exports j))
