use Rattle.std.proofs.Common.{subst}
use Rattle.wac_types_base.specs.declared.item.ItemKind.{ItemKind}
use Rattle.wac_types_fit.specs.Trees.{tree_in}
use Rattle.wac_graph_scopes.specs.Scopes.{FindsValue, FindsTree}
use Rattle.wac_graph_bytes.specs.declared.value.ValueType.TheVariants.{Index}
use Rattle.wac_graph_scopes.proofs.ValueLaws.{value_there}
use Rattle.wac_graph_scopes.proofs.value.equal_handle.Goals as goal

pub returns-in-Some-clause-writes : goal.returns-in-Some-clause-writes
returns-in-Some-clause-writes c w outer i h =
    let types = c.args.types.now in
    value_there w types outer i (tree_in types (ItemKind.Value c.args.ty)) c.equal_index.new.scope (Index c.in-Some.index) (c.equal_index.ensures.keeps w outer i h)
    (subst (FindsValue types c.args.scope.now c.args.ty) c.in-Some.is c.in_ok-found.ensures.reads w outer i h)

pub returns-in-None-clause-none : goal.returns-in-None-clause-none
returns-in-None-clause-none c h = subst (FindsTree c.args.types.now c.args.scope.now c.args.ty) c.in-None.is c.in_ok-found.ensures.none h
