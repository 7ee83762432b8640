use Rattle.std.proofs.Common.{sym, subst}
use Rattle.wac_types_base.specs.Collection.{HasChildren, interface_entry}
use Rattle.wac_types_merge.specs.Interfaces.{merged_interface}
use Rattle.wac_types_merge.proofs.Placed.{all_added, all_standing, merged_children}
use Rattle.wac_types_merge.proofs.exports.add_joined.Goals as goal

pub add_interface-requires : goal.add_interface-requires
add_interface-requires c =
    subst (λ x. HasChildren c.args.own.now (interface_entry x)) (sym c.in_ok-interface.ensures)
    (merged_children c.args.own.now c.args.first.now c.args.second.now c.args.both c.requires.uses c.requires.more_uses c.requires.both c.requires.exports)

pub returns-clause-added : goal.returns-clause-added
returns-clause-added c =
    all_added c.add_interface.result c.args.own.now c.add_interface.new.self c.in_ok-interface.interface (merged_interface c.args.first.now c.args.second.now c.args.both) c.in_ok-interface.ensures c.add_interface.ensures.added c.add_interface.ensures.id

pub returns-clause-stands : goal.returns-clause-stands
returns-clause-stands c = all_standing c.add_interface.result c.args.own.now c.add_interface.new.self c.in_ok-interface.interface c.add_interface.ensures.added c.add_interface.ensures.id
