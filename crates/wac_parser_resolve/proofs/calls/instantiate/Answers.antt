use Rattle.wac_graph_core.proofs.Made.{instance_there}
use Rattle.wac_parser_resolve.proofs.Calling.{call_leaves, call_gives}
use Rattle.wac_parser_resolve.proofs.Growing.{Inner-instance, Inner-same, within_instance, within_same}
use Rattle.wac_parser_resolve.proofs.Fresh.{fresh_instance}
use Rattle.wac_parser_resolve.proofs.Instances.{instance_item, instance_says}
use Rattle.wac_parser_resolve.proofs.calls.instantiate.Goals as goal

pub returns-clause-free : goal.returns-clause-free
returns-clause-free c = call_gives c.instantiate.result c.instantiate.ensures.instantiated (λ k step. step.free)

pub returns-clause-fresh : goal.returns-clause-fresh
returns-clause-fresh c =
    call_gives c.instantiate.result c.instantiate.ensures.instantiated
    (λ k step. fresh_instance c.args.graph.now c.instantiate.new.self c.args.id k c.see_sound.ensures step)

pub returns-clause-instance : goal.returns-clause-instance
returns-clause-instance c =
    call_gives c.instantiate.result c.instantiate.ensures.instantiated
    (λ k step. instance_there c.args.graph.now c.instantiate.new.self c.args.id k step)

pub returns-clause-made : goal.returns-clause-made
returns-clause-made c =
    call_gives c.instantiate.result c.instantiate.ensures.instantiated
    (λ k step noted names s p w at says held. (
      instance_says c.args.graph.now c.instantiate.new.self c.see_sound.ensures c.args.id k step noted names s p w at says held,
      instance_item c.args.graph.now c.instantiate.new.self c.see_sound.ensures c.args.id k step noted names s p w at says held,
    ))

pub returns-clause-inner : goal.returns-clause-inner
returns-clause-inner c =
    call_leaves c.instantiate.result c.instantiate.ensures.instantiated c.instantiate.ensures.kept
    (λ k step. Inner-instance c.args.graph.now c.instantiate.new.self c.args.id k step)
    (Inner-same c.args.graph.now c.instantiate.new.self)

pub returns-clause-within : goal.returns-clause-within
returns-clause-within c =
    call_leaves c.instantiate.result c.instantiate.ensures.instantiated c.instantiate.ensures.kept
    (λ k step. within_instance c.args.graph.now c.instantiate.new.self c.args.id k step)
    (within_same c.args.graph.now c.instantiate.new.self)
