use Rattle.wac_types_base.proofs.Copying.{resource_children, resource_more, resource_same}
use Rattle.wac_types_base.proofs.copy.copy_resource.Goals as goal

pub add_resource-requires : goal.add_resource-requires
add_resource-requires c = resource_children c.args.from.now c.args.to.now c.args.to.now c.args.copies.now c.resource.ensures.acyclic c.see_acyclic.ensures c.requires.copies c.args.id c.resource.result.now c.in_ok-entry.entry c.resource.ensures.entry c.resource.ensures.own c.requires.places c.in_ok-entry.ensures

pub returns-in_err-insert-clause-copies : goal.returns-in_err-insert-clause-copies
returns-in_err-insert-clause-copies c = resource_same c.args.from.now c.args.to.now c.add_resource.new.self c.args.copies.now c.resource.ensures.acyclic c.see_acyclic.ensures c.requires.copies c.args.id c.resource.result.now c.in_ok-entry.entry c.resource.ensures.entry c.resource.ensures.own c.requires.places c.in_ok-entry.ensures c.in_ok-copy.copy c.in_ok-copy.ensures.grows c.in_ok-copy.ensures.added c.in_ok-copy.ensures.id c.insert.new.self c.in_err-insert.ensures.err

pub returns-clause-copies : goal.returns-clause-copies
returns-clause-copies c = resource_more c.args.from.now c.args.to.now c.add_resource.new.self c.args.copies.now c.resource.ensures.acyclic c.see_acyclic.ensures c.requires.copies c.args.id c.resource.result.now c.in_ok-entry.entry c.resource.ensures.entry c.resource.ensures.own c.requires.places c.in_ok-entry.ensures c.in_ok-copy.copy c.in_ok-copy.ensures.grows c.in_ok-copy.ensures.added c.in_ok-copy.ensures.id c.insert.new.self c.in_ok-insert.ensures.updates
