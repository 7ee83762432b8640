use Rattle.std.proofs.Common.{Some, ap, ◌∙◌}
use Rattle.wac_types_base.specs.declared.defined.Interface.{Interface}
use Rattle.wac_types_merge.proofs.Placed.{renamed_children, all_renamed}
use Rattle.wac_types_merge.proofs.exports.rename_interface.Goals as goal

pub add_interface-requires : goal.add_interface-requires
add_interface-requires c =
    let y : Interface = record { id = Some c.new-name.result; uses = c.in_ok-uses.uses; exports = c.in_ok-exports.exports } in
    renamed_children c.args.own.now c.interface-interface.ensures.acyclic c.args.id c.interface-interface.result.now y c.interface-interface.ensures.entry c.interface-interface.ensures.own c.in_ok-uses.ensures c.in_ok-exports.ensures

pub returns-clause-added : goal.returns-clause-added
returns-clause-added c =
    let y : Interface = record { id = Some c.new-name.result; uses = c.in_ok-uses.uses; exports = c.in_ok-exports.exports } in
    all_renamed c.add_interface.result c.args.own.now c.add_interface.new.self c.interface-interface.ensures.acyclic c.add_interface.ensures.grows c.args.id c.interface-interface.result.now y c.args.name.now c.interface-interface.ensures.entry
    c.interface-interface.ensures.own c.in_ok-uses.ensures c.in_ok-exports.ensures (ap Some (c.new-name.ensures ∙ c.in_ok-from_str.ensures.ok)) c.add_interface.ensures.added c.add_interface.ensures.id
