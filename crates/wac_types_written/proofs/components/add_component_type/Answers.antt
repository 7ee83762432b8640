use Rattle.std.proofs.Common.{◌∙◌, subst, sym}
use Rattle.wac_types_base.specs.declared.item.ItemKind.{ItemKind}
use Rattle.wac_types_base.specs.Stated.{world_of}
use Rattle.wac_types_written.specs.Components.{component_of}
use Rattle.wac_types_written.specs.Forms.{ItemsStand, UsesStand, stated_items, stated_uses}
use Rattle.wac_types_written.proofs.Adding.{world_added}
use Rattle.wac_types_written.proofs.Ids.{world_children}
use Rattle.wac_types_written.proofs.Typing.{component_is, items_stand_both, missing_apart}
use Rattle.wac_types_written.proofs.components.add_component_type.Goals as goal

pub add_all-requires : goal.add_all-requires
add_all-requires c = missing_apart c.args.types.now c.missing.new.types c.in_ok-used.used c.args.world.imports c.in_ok-all.all c.in_ok-all.ensures.missing

pub add_world-requires : goal.add_world-requires
add_world-requires c =
    let new = c.missing.new.types in
    let g = c.in_ok-all.ensures.grows in
    world_children new (record { id = c.args.world.id; uses = c.args.world.uses; imports = c.add_all.new.all; exports = c.args.world.exports })
    (λ u m. g.stand (ItemKind.Instance u.1.interface) (c.requires.uses u m))
    (subst (ItemsStand new) (sym c.in_ok-add_all.ensures) (items_stand_both new c.in_ok-all.all c.args.world.imports c.in_ok-all.ensures.missing.stand (λ x m. g.stand x.1 (c.requires.imports x m))))
    (λ x m. g.stand x.1 (c.requires.exports x m))

pub returns-clause-world : goal.returns-clause-world
returns-clause-world c =
    let old = c.args.types.now in
    let mid = c.missing.new.types in
    let new = c.add_world.new.self in
    let g = c.in_ok-all.ensures.grows in
    let e = c.in_ok-world.ensures in
    let stand = items_stand_both mid c.in_ok-all.all c.args.world.imports c.in_ok-all.ensures.missing.stand (λ x m. g.stand x.1 (c.requires.imports x m)) in
    world_added mid new e.grows (record { id = c.args.world.id; uses = c.args.world.uses; imports = c.add_all.new.all; exports = c.args.world.exports }) c.in_ok-world.world
    (component_of old c.args.world.id c.args.world.uses c.args.world.imports c.args.world.exports) e.added e.id
    ((λ j. world_of c.args.world.id (stated_uses new c.args.world.uses) (stated_items new (c.in_ok-add_all.ensures j)) (stated_items new c.args.world.exports))
    ∙ component_is old c.args.world.id c.args.world.uses c.args.world.imports c.args.world.exports mid new g e.grows c.in_ok-used.used c.in_ok-all.all c.in_ok-used.ensures c.in_ok-all.ensures.missing c.requires.uses c.requires.imports c.requires.exports stand)
