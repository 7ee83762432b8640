use Rattle.std.proofs.Common.{subst}
use Rattle.wac_types_base.specs.Record.{Collection}
use Rattle.wac_types_base.specs.Collection.{IsAcyclic}
use Rattle.wac_parser_declare.specs.Holding.{Holds}
use Rattle.wac_parser_resolve.proofs.Items.{of_item}
use Rattle.wac_parser_resolve.proofs.Rooted.{instance_held, instance_refused}
use Rattle.wac_parser_resolve.proofs.board.instance_of.Goals as goal

pub returns-in-Instance-clause-outcome : goal.returns-in-Instance-clause-outcome
returns-in-Instance-clause-outcome c t h =
    let held = of_item c.args.graph.now c.args.node c.item_of.result (Holds c.args.graph.now.types t) h c.item_of.ensures.own in
    instance_held c.args.graph.now.types (subst (λ (x : Collection). IsAcyclic x) c.types.ensures c.see_acyclic.ensures) t c.args.operation c.args.span c.in-Instance.id
    (subst (Holds c.args.graph.now.types t) c.in-Instance.is held)

pub returns-in_default-clause-outcome : goal.returns-in_default-clause-outcome
returns-in_default-clause-outcome c t h =
    let held = of_item c.args.graph.now c.args.node c.item_of.result (Holds c.args.graph.now.types t) h c.item_of.ensures.own in
    instance_refused c.args.graph.now.types (subst (λ (x : Collection). IsAcyclic x) c.types.ensures c.see_acyclic.ensures) t c.args.operation c.args.span c.item_of.result c.not_an_instance.result
    held c.in_default.not-Instance (c.not_an_instance.ensures t h)
