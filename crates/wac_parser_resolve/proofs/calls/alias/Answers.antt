use Rattle.std.proofs.Common.{subst, sym}
use Rattle.wac_types_base.specs.Record.{Collection}
use Rattle.wac_types_base.specs.Collection.{IsAcyclic}
use Rattle.wac_graph_core.specs.Graph.{Graph}
use Rattle.wac_graph_core.specs.Refusals.{AliasRefused}
use Rattle.wac_parser_resolve.specs.Denoting.{export_named, needs_instance}
use Rattle.wac_parser_resolve.specs.Holding.{HasItem}
use Rattle.wac_graph_core.proofs.Made.{alias_there}
use Rattle.wac_parser_resolve.proofs.Growing.{Inner-alias, within_alias}
use Rattle.wac_parser_resolve.proofs.Rooted.{unspoken_refused}
use Rattle.wac_parser_resolve.proofs.Speaking.{alias_held}
use Rattle.wac_parser_resolve.proofs.calls.alias.Goals as goal

pub returns-in-Ok-clause-alias : goal.returns-in-Ok-clause-alias
returns-in-Ok-clause-alias c =
    alias_there c.args.graph.now c.alias_instance_export.new.self c.args.node c.args.name.now c.in-Ok.alias c.see_sound-in-Ok.ensures c.in-Ok.ensures.aliased

pub returns-in-Ok-clause-inner : goal.returns-in-Ok-clause-inner
returns-in-Ok-clause-inner c =
    Inner-alias c.args.graph.now c.alias_instance_export.new.self c.args.node c.args.name.now c.in-Ok.alias c.in-Ok.ensures.aliased

pub returns-in-Ok-clause-within : goal.returns-in-Ok-clause-within
returns-in-Ok-clause-within c =
    within_alias c.args.graph.now c.alias_instance_export.new.self c.args.node c.args.name.now c.in-Ok.alias c.in-Ok.ensures.aliased

pub returns-in-Ok-clause-outcome : goal.returns-in-Ok-clause-outcome
returns-in-Ok-clause-outcome c noted names s d says dn =
    let a = subst (λ (x : Collection). IsAcyclic x) c.types.ensures c.see_acyclic.ensures in
    alias_held c.args.graph.now c.see_sound.ensures noted names s says d c.args.node dn c.args.name.now c.alias_instance_export.new.self c.see_sound-in-Ok.ensures a
    c.in-Ok.alias c.in-Ok.ensures.aliased c.args.access.operation c.args.access.instance c.args.access.access

pub returns-in-Err-clause-outcome : goal.returns-in-Err-clause-outcome
returns-in-Err-clause-outcome c noted names s d says dn =
    let same = sym c.in-Err.ensures.kept in
    let refused = subst (λ (x : Graph). AliasRefused x c.args.node c.args.name.now c.in-Err.fault) same c.in-Err.ensures.refused in
    let item = subst (λ (x : Graph). HasItem x c.args.node d.item) same dn.item in
    unspoken_refused (needs_instance d c.args.access.operation c.args.access.instance) (export_named d c.args.name.now c.args.access.access) s c.alias_fault.result
    (c.alias_fault.ensures c.args.name.now d refused item)
