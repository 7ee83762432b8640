use Rattle.std.proofs.Common.{Some, subst}
use Rattle.wac_graph_core.specs.TypeMaps.{Maps}
use Rattle.wac_graph_core.proofs.TypeSets.{maps}
use Rattle.wac_graph_core.proofs.type_map.TypeMap.insert.Goals as goal

pub returns : goal.returns
returns c =
    subst (λ l. Maps l c.args.ty (Some c.args.node) c.insert.new.self.entries) c.self.view_is
    (maps c.args.ty (Some c.args.node) c.self.inside.map.entries c.insert.new.self.entries c.in_ok-insert.ensures.updates.1 c.in_ok-insert.ensures.updates.2)
