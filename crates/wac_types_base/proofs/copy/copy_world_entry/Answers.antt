use Rattle.wac_types_base.proofs.Copying.{world_children, world_more, world_same}
use Rattle.wac_types_base.proofs.copy.copy_world_entry.Goals as goal

pub add_world-requires : goal.add_world-requires
add_world-requires c = world_children c.args.from.now c.args.to.now c.args.to.now c.args.copies.now c.world.ensures.acyclic c.see_acyclic.ensures c.requires.copies c.args.id c.world.result.now c.in_ok-entry.entry c.world.ensures.entry c.world.ensures.own c.requires.places c.in_ok-entry.ensures

pub returns-in_err-insert-clause-copies : goal.returns-in_err-insert-clause-copies
returns-in_err-insert-clause-copies c = world_same c.args.from.now c.args.to.now c.add_world.new.self c.args.copies.now c.world.ensures.acyclic c.see_acyclic.ensures c.requires.copies c.args.id c.world.result.now c.in_ok-entry.entry c.world.ensures.entry c.world.ensures.own c.requires.places c.in_ok-entry.ensures c.in_ok-copy.copy c.in_ok-copy.ensures.grows c.in_ok-copy.ensures.added c.in_ok-copy.ensures.id c.insert.new.self c.in_err-insert.ensures.err

pub returns-clause-copies : goal.returns-clause-copies
returns-clause-copies c = world_more c.args.from.now c.args.to.now c.add_world.new.self c.args.copies.now c.world.ensures.acyclic c.see_acyclic.ensures c.requires.copies c.args.id c.world.result.now c.in_ok-entry.entry c.world.ensures.entry c.world.ensures.own c.requires.places c.in_ok-entry.ensures c.in_ok-copy.copy c.in_ok-copy.ensures.grows c.in_ok-copy.ensures.added c.in_ok-copy.ensures.id c.insert.new.self c.in_ok-insert.ensures.updates
