use Rattle.wac_types_base.proofs.Copying.{interface_children, interface_more, interface_same}
use Rattle.wac_types_base.proofs.copy.copy_interface.Goals as goal

pub add_interface-requires : goal.add_interface-requires
add_interface-requires c = interface_children c.args.from.now c.args.to.now c.args.to.now c.args.copies.now c.interface.ensures.acyclic c.see_acyclic.ensures c.requires.copies c.args.id c.interface.result.now c.in_ok-entry.entry c.interface.ensures.entry c.interface.ensures.own c.requires.places c.in_ok-entry.ensures

pub returns-in_err-insert-clause-copies : goal.returns-in_err-insert-clause-copies
returns-in_err-insert-clause-copies c = interface_same c.args.from.now c.args.to.now c.add_interface.new.self c.args.copies.now c.interface.ensures.acyclic c.see_acyclic.ensures c.requires.copies c.args.id c.interface.result.now c.in_ok-entry.entry c.interface.ensures.entry c.interface.ensures.own c.requires.places c.in_ok-entry.ensures c.in_ok-copy.copy c.in_ok-copy.ensures.grows c.in_ok-copy.ensures.added c.in_ok-copy.ensures.id c.insert.new.self c.in_err-insert.ensures.err

pub returns-clause-copies : goal.returns-clause-copies
returns-clause-copies c = interface_more c.args.from.now c.args.to.now c.add_interface.new.self c.args.copies.now c.interface.ensures.acyclic c.see_acyclic.ensures c.requires.copies c.args.id c.interface.result.now c.in_ok-entry.entry c.interface.ensures.entry c.interface.ensures.own c.requires.places c.in_ok-entry.ensures c.in_ok-copy.copy c.in_ok-copy.ensures.grows c.in_ok-copy.ensures.added c.in_ok-copy.ensures.id c.insert.new.self c.in_ok-insert.ensures.updates
