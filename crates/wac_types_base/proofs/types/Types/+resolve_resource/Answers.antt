use Rattle.std.proofs.Common.{◌∙◌, sym, arith}
use Rattle.wac_types_base.specs.Resolving.{root, through_source}
use Rattle.wac_types_base.proofs.Telling.{resource_source, resource_alias_tree}
use Rattle.wac_types_base.proofs.types.Types.+resolve_resource.Goals as goal

pub resolve_resource-requires : goal.resolve_resource-requires
resolve_resource-requires t c =
    let s = resource_source c.args.self.now c.resource.ensures.acyclic c.args.id c.resource.result.now c.in-Some.alias c.resource.ensures.entry c.resource.ensures.own c.in-Some.is in
    (omega (arith, s.1, c.decreases), s.0)

pub returns-in-Some-clause-root : goal.returns-in-Some-clause-root
returns-in-Some-clause-root t c = through_source c.resource.ensures.entry c.in-Some.is c.resolve_resource.ensures.root

pub returns-in-Some-clause-tree : goal.returns-in-Some-clause-tree
returns-in-Some-clause-tree t c =
    c.resolve_resource.ensures.tree
    ∙ sym (resource_alias_tree c.args.self.now c.resource.ensures.acyclic c.args.id c.resource.result.now c.in-Some.alias c.resource.ensures.entry c.resource.ensures.own c.in-Some.is)

pub returns-in-None-clause-root : goal.returns-in-None-clause-root
returns-in-None-clause-root t c = root c.resource.ensures.entry c.in-None.is
