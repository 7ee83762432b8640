use Rattle.wac_types_base.proofs.Copying.{func_children, func_more, func_same}
use Rattle.wac_types_base.proofs.copy.copy_func_type.Goals as goal

pub add_func_type-requires : goal.add_func_type-requires
add_func_type-requires c = func_children c.args.from.now c.args.to.now c.args.to.now c.args.copies.now c.func_type.ensures.acyclic c.see_acyclic.ensures c.requires.copies c.args.id c.func_type.result.now c.in_ok-entry.entry c.func_type.ensures.entry c.func_type.ensures.own c.requires.places c.in_ok-entry.ensures

pub returns-in_err-insert-clause-copies : goal.returns-in_err-insert-clause-copies
returns-in_err-insert-clause-copies c = func_same c.args.from.now c.args.to.now c.add_func_type.new.self c.args.copies.now c.func_type.ensures.acyclic c.see_acyclic.ensures c.requires.copies c.args.id c.func_type.result.now c.in_ok-entry.entry c.func_type.ensures.entry c.func_type.ensures.own c.requires.places c.in_ok-entry.ensures c.in_ok-copy.copy c.in_ok-copy.ensures.grows c.in_ok-copy.ensures.added c.in_ok-copy.ensures.id c.insert.new.self c.in_err-insert.ensures.err

pub returns-clause-copies : goal.returns-clause-copies
returns-clause-copies c = func_more c.args.from.now c.args.to.now c.add_func_type.new.self c.args.copies.now c.func_type.ensures.acyclic c.see_acyclic.ensures c.requires.copies c.args.id c.func_type.result.now c.in_ok-entry.entry c.func_type.ensures.entry c.func_type.ensures.own c.requires.places c.in_ok-entry.ensures c.in_ok-copy.copy c.in_ok-copy.ensures.grows c.in_ok-copy.ensures.added c.in_ok-copy.ensures.id c.insert.new.self c.in_ok-insert.ensures.updates
