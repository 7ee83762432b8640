use Rattle.std.proofs.Common.{sym, ◌∙◌}
use Rattle.wac_types_base.specs.declared.item.ItemKind.{ItemKind}
use Rattle.wac_types_fit.specs.Trees.{SameTree}
use Rattle.wac_types_fit.proofs.ValueTrees.{func_holds, func_names, func_async, funcs_decided, decided_no, not_both, ne_differs, not_ne}
use Rattle.wac_types_fit.proofs.values.same_funcs.Goals as goal

pub same_places-requires-clause-given_values : goal.same_places-requires-clause-given_values
same_places-requires-clause-given_values c = func_holds c.args.at.now c.args.a c.func_type-given.result.now c.func_type-given.ensures.entry c.func_type-given.ensures.own

pub same_places-requires-clause-asked_values : goal.same_places-requires-clause-asked_values
same_places-requires-clause-asked_values c = func_holds c.args.bt.now c.args.b c.func_type-asked.result.now c.func_type-asked.ensures.entry c.func_type-asked.ensures.own

pub returns-then-given-asked : goal.returns-then-given-asked
returns-then-given-asked c =
    decided_no (SameTree c.args.at.now (ItemKind.Func c.args.a) c.args.bt.now (ItemKind.Func c.args.b)) (λ z. ne_differs c.func_type-given.result.now.is_async c.func_type-asked.result.now.is_async c.if-given-asked.true
    (func_async c.args.at.now c.args.bt.now c.func_type-given.ensures.acyclic c.func_type-asked.ensures.acyclic c.args.a c.args.b c.func_type-given.result.now c.func_type-asked.result.now c.func_type-given.ensures.entry c.func_type-given.ensures.own c.func_type-asked.ensures.entry c.func_type-asked.ensures.own z))

pub returns-then-not-same_names : goal.returns-then-not-same_names
returns-then-not-same_names c =
    decided_no (SameTree c.args.at.now (ItemKind.Func c.args.a) c.args.bt.now (ItemKind.Func c.args.b)) (λ z. not_both c.same_names.result c.if-not-same_names.true (c.same_names.ensures.1
    (c.names.ensures ∙ func_names c.args.at.now c.args.bt.now c.func_type-given.ensures.acyclic c.func_type-asked.ensures.acyclic c.args.a c.args.b c.func_type-given.result.now c.func_type-asked.result.now c.func_type-given.ensures.entry c.func_type-given.ensures.own c.func_type-asked.ensures.entry c.func_type-asked.ensures.own z ∙ sym c.names-2.ensures)))

pub returns : goal.returns
returns c =
    funcs_decided c.args.at.now c.args.bt.now c.func_type-given.ensures.acyclic c.func_type-asked.ensures.acyclic c.args.a c.args.b c.func_type-given.result.now c.func_type-asked.result.now c.func_type-given.ensures.entry c.func_type-given.ensures.own c.func_type-asked.ensures.entry c.func_type-asked.ensures.own
    c.same_places.result (sym c.names.ensures ∙ c.same_names.ensures.0 c.if-not-same_names.false ∙ c.names-2.ensures) (not_ne c.func_type-given.result.now.is_async c.func_type-asked.result.now.is_async c.if-given-asked.false) c.same_places.ensures
