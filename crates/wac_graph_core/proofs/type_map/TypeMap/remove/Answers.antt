use Rattle.std.proofs.Common.{None, subst}
use Rattle.wac_graph_core.specs.TypeMaps.{Maps}
use Rattle.wac_graph_core.proofs.TypeSets.{maps}
use Rattle.wac_graph_core.proofs.type_map.TypeMap.remove.Goals as goal

pub returns : goal.returns
returns c =
    subst (λ l. Maps l c.args.ty None c.swap_remove.new.self.entries) c.self.view_is
    (maps c.args.ty None c.self.inside.map.entries c.swap_remove.new.self.entries c.swap_remove.ensures.updates.1 c.swap_remove.ensures.updates.2)
