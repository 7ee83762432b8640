use Rattle.wac_types_base.proofs.Copying.{module_more, module_same}
use Rattle.wac_types_base.proofs.copy.copy_module_type.Goals as goal

pub returns-in_err-insert-clause-copies : goal.returns-in_err-insert-clause-copies
returns-in_err-insert-clause-copies c = module_same c.args.from.now c.args.to.now c.add_module_type.new.self c.args.copies.now c.module_type.ensures.acyclic c.see_acyclic.ensures c.requires.copies c.args.id c.module_type.result.now c.in_ok-entry.entry c.module_type.ensures.entry c.module_type.ensures.own c.requires.places c.in_ok-entry.ensures c.in_ok-copy.copy c.in_ok-copy.ensures.grows c.in_ok-copy.ensures.added c.in_ok-copy.ensures.id c.insert.new.self c.in_err-insert.ensures.err

pub returns-clause-copies : goal.returns-clause-copies
returns-clause-copies c = module_more c.args.from.now c.args.to.now c.add_module_type.new.self c.args.copies.now c.module_type.ensures.acyclic c.see_acyclic.ensures c.requires.copies c.args.id c.module_type.result.now c.in_ok-entry.entry c.module_type.ensures.entry c.module_type.ensures.own c.requires.places c.in_ok-entry.ensures c.in_ok-copy.copy c.in_ok-copy.ensures.grows c.in_ok-copy.ensures.added c.in_ok-copy.ensures.id c.insert.new.self c.in_ok-insert.ensures.updates
