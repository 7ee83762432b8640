use Rattle.std.proofs.Common.{subst}
use Rattle.wac_types_base.specs.Graph.{Among}
use Rattle.wac_types_merge.proofs.Families.{entry_of}
use Rattle.wac_types_merge.proofs.Placed.{exports_stand}
use Rattle.wac_types_merge.proofs.family.is_wit.Goals as goal

pub are_wit_exports-requires-clause-stand : goal.are_wit_exports-requires-clause-stand
are_wit_exports-requires-clause-stand c k m =
    let x = c.interface-interface.result.now in
    let e = entry_of x.exports k (subst (Among k) c.values.ensures m) in
    exports_stand c.args.types.now c.interface-interface.ensures.acyclic c.in-Instance.id x (record { at = c.interface-interface.ensures.entry; own = c.interface-interface.ensures.own }) e.0 k e.1
