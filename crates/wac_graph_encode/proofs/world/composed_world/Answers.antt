use Rattle.std.specs.Prelude.{IfOk}
use Rattle.std.proofs.Common.{subst}
use Rattle.wac_types_base.specs.declared.item.ItemKind.{ItemKind}
use Rattle.wac_types_written.specs.Forms.{IsOf}
use Rattle.wac_types_written.specs.Written.{without_uses}
use Rattle.wac_graph_encode.proofs.world.composed_world.Goals as goal

pub returns-clause-world : goal.returns-clause-world
returns-clause-world c =
    subst (λ s. IfOk c.handed_out.result (λ w. IsOf c.handed_out.new.to (without_uses s) (ItemKind.Component w))) c.in_ok-world.ensures.world.states c.handed_out.ensures.without
