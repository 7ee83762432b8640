use Rattle.wac_types_base.proofs.Copying.{defined_children, defined_more, defined_same}
use Rattle.wac_types_base.proofs.copy.copy_defined_type.Goals as goal

pub add_defined_type-requires : goal.add_defined_type-requires
add_defined_type-requires c = defined_children c.args.from.now c.args.to.now c.args.to.now c.args.copies.now c.defined_type.ensures.acyclic c.see_acyclic.ensures c.requires.copies c.args.id c.defined_type.result.now c.in_ok-entry.entry c.defined_type.ensures.entry c.defined_type.ensures.own c.requires.places c.in_ok-entry.ensures

pub returns-in_err-insert-clause-copies : goal.returns-in_err-insert-clause-copies
returns-in_err-insert-clause-copies c = defined_same c.args.from.now c.args.to.now c.add_defined_type.new.self c.args.copies.now c.defined_type.ensures.acyclic c.see_acyclic.ensures c.requires.copies c.args.id c.defined_type.result.now c.in_ok-entry.entry c.defined_type.ensures.entry c.defined_type.ensures.own c.requires.places c.in_ok-entry.ensures c.in_ok-copy.copy c.in_ok-copy.ensures.grows c.in_ok-copy.ensures.added c.in_ok-copy.ensures.id c.insert.new.self c.in_err-insert.ensures.err

pub returns-clause-copies : goal.returns-clause-copies
returns-clause-copies c = defined_more c.args.from.now c.args.to.now c.add_defined_type.new.self c.args.copies.now c.defined_type.ensures.acyclic c.see_acyclic.ensures c.requires.copies c.args.id c.defined_type.result.now c.in_ok-entry.entry c.defined_type.ensures.entry c.defined_type.ensures.own c.requires.places c.in_ok-entry.ensures c.in_ok-copy.copy c.in_ok-copy.ensures.grows c.in_ok-copy.ensures.added c.in_ok-copy.ensures.id c.insert.new.self c.in_ok-insert.ensures.updates
