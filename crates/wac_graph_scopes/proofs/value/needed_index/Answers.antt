use Rattle.std.proofs.Common.{subst}
use Rattle.wac_types_base.specs.declared.item.ItemKind.{ItemKind}
use Rattle.wac_types_base.specs.declared.item.ValueType.{ValueType}
use Rattle.wac_graph_scopes.specs.Scopes.{FindsType, FindsTree}
use Rattle.wac_graph_scopes.proofs.RefusedLaws.{whole_before}
use Rattle.wac_graph_scopes.proofs.value.needed_index.Goals as goal

pub returns-in-None-clause-none : goal.returns-in-None-clause-none
returns-in-None-clause-none c h same =
    let unknown = subst (FindsTree c.args.types.now c.args.scope.now (ValueType.Defined c.args.id)) c.in-None.is c.in_ok-found.ensures.none in
    absurd (unknown h same)

pub returns-then-lacks-clause-reads : goal.returns-then-lacks-clause-reads
returns-then-lacks-clause-reads c = subst (FindsType c.args.types.now c.args.scope.now c.args.id) c.in-Some.is c.in_ok-found.ensures.reads

pub returns-else-lacks-clause-none : goal.returns-else-lacks-clause-none
returns-else-lacks-clause-none c h same =
    whole_before c.args.types.now c.args.scope.now c.equal_index.new.scope h c.equal_index.ensures.known c.equal_index.ensures.resources (ItemKind.Value (ValueType.Defined c.args.id)) (c.in_ok-lacks-in-Some.ensures c.if-lacks.false)
