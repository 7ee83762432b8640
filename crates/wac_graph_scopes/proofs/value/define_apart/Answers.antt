use Rattle.std.proofs.Common.{refl}
use Rattle.std.proofs.lemmas.Result.{IfOk-weaker}
use Rattle.wac_types_base.specs.declared.item.ItemKind.{ItemKind}
use Rattle.wac_types_fit.specs.Trees.{tree_in}
use Rattle.wac_types_fit.proofs.Unfolded.{same_tree, end_no_alias}
use Rattle.wac_graph_scopes.proofs.UsedLaws.{type_of_tree}
use Rattle.wac_graph_scopes.proofs.RefusedLaws.{if_err_map, alias_refused_apart}
use Rattle.wac_graph_scopes.proofs.value.define_apart.Goals as goal

pub define_plain-requires-clause-no_alias : goal.define_plain-requires-clause-no_alias
define_plain-requires-clause-no_alias c = end_no_alias c.args.types.now c.see_acyclic.ensures c.resolve_value_type-end.ensures.resolved

pub returns-clause-writes : goal.returns-clause-writes
returns-clause-writes c w outer i h =
    let types = c.args.types.now in
    let end = c.resolve_value_type-end.result in
    let same = same_tree types c.see_acyclic.ensures (ItemKind.Value end) (ItemKind.Value c.args.ty) c.resolve_value_type-end.ensures.stands (c.if-not-has.ensures.0 refl) c.resolve_value_type-end.ensures.tree in
    IfOk-weaker c.define_plain.result _ _ (λ k a. type_of_tree w types outer i (tree_in types (ItemKind.Value end)) (tree_in types (ItemKind.Value c.args.ty)) c.define_plain.new.scope k same a) (c.define_plain.ensures.writes w outer i h)

pub returns-clause-refused : goal.returns-clause-refused
returns-clause-refused c stands =
    if_err_map c.define_plain.result (λ e h. alias_refused_apart c.args.types.now c.args.ty c.resolve_value_type-end.result c.resolve_value_type-end.ensures.resolved c.args.scope.now c.define_plain.new.scope e h) c.define_plain.ensures.refused
