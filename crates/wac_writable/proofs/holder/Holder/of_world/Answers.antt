use Rattle.wac_types_base.specs.declared.item.ItemKind.{ItemKind}
use Rattle.wac_types_base.specs.Stated.{stated_of, uses_of, imports_of, exports_of}
use Rattle.wac_writable.proofs.HolderLaws.{filled_world}
use Rattle.wac_writable.proofs.holder.Holder.of_world.Goals as goal

pub returns : goal.returns
returns c =
    let x = stated_of c.args.types.now (ItemKind.Component c.args.id) in
    filled_world c.args.types.now (uses_of x) (imports_of x) (exports_of x) c.add_world_uses.new.self c.add_imports.new.self c.add_world_exports.new.self c.in_ok-add_world_uses.ensures c.in_ok-add_imports.ensures c.in_ok-add_world_exports.ensures
