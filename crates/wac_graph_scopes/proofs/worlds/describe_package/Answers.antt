use Rattle.std.proofs.Common.{refl}
use Rattle.wac_types_base.specs.declared.item.ItemKind.{ItemKind}
use Rattle.wac_graph_scopes.proofs.ImportLaws.{component_described}
use Rattle.wac_graph_scopes.proofs.worlds.describe_package.Goals as goal

pub returns : goal.returns
returns c stands w outer i h =
    let a = c.in_ok-index.ensures stands w outer i h in
    component_described c.args.types.now c.see_acyclic.ensures w outer i (ItemKind.Component c.args.world) c.args.world c.push_package_type.new.scope c.in_ok-index.index refl stands a
