use Rattle.wac_types_base.specs.declared.item.ItemKind.{ItemKind}
use Rattle.wac_types_base.specs.Stated.{stated_of, uses_of, exports_of}
use Rattle.wac_writable.proofs.HolderLaws.{holds_interface}
use Rattle.wac_writable.proofs.holder.Holder.of_interface.Goals as goal

pub returns : goal.returns
returns c =
    let x = stated_of c.args.types.now (ItemKind.Instance c.args.id) in
    holds_interface c.args.types.now (uses_of x) (exports_of x) c.add_uses.new.self c.add_exports.new.self c.in_ok-add_uses.ensures c.in_ok-add_exports.ensures
