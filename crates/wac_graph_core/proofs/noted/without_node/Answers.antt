use Rattle.std.proofs.Common.{Some, sym, subst}
use Rattle.wac_graph_core.specs.Noted.{IsNodeForgotten}
use Rattle.wac_graph_core.proofs.Noting.{forgotten, type_forgotten}
use Rattle.wac_graph_core.proofs.noted.without_node.Goals as goal
use Rattle.wac_graph_core.proofs.noted.without_node.Goals.{in-Some, in_default}

pub returns : goal.returns
returns c =
    subst (λ o. IsNodeForgotten o c.args.node.now (Some c.match-defined_type.noted)) (sym c.in_ok-noted.was) (elim c.match-defined_type.branch [
      | in-Some w ↦
          subst (λ s. IsNodeForgotten (Some c.in_ok-noted.noted) c.args.node.now (Some s)) (sym w.noted-is)
          (forgotten c.in_ok-noted.noted _ c.args.node.now c.forget_import.ensures
          (type_forgotten c.in_ok-noted.noted.types w.remove.new.self w.in-Some.ty c.args.node.now w.remove.ensures w.in-Some.ensures.some.0 w.in-Some.ensures.some.1))
      | in_default w ↦
          subst (λ s. IsNodeForgotten (Some c.in_ok-noted.noted) c.args.node.now (Some s)) (sym w.noted-is)
          (forgotten c.in_ok-noted.noted _ c.args.node.now c.forget_import.ensures (λ t k other at. at))
    ])
