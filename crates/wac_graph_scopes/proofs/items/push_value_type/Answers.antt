use Rattle.std.proofs.lemmas.Result.{IfOk-weaker}
use Rattle.wac_types_base.specs.declared.item.ItemKind.{ItemKind}
use Rattle.wac_types_fit.specs.Trees.{tree_in}
use Rattle.wac_graph_scopes.proofs.WritingLaws.{gives_of}
use Rattle.wac_graph_scopes.proofs.items.push_value_type.Goals as goal

pub returns-clause-states : goal.returns-clause-states
returns-clause-states c w outer i h =
    let types = c.args.types.now in
    IfOk-weaker c.define_value.result _ _ (λ k a. gives_of w types outer i (tree_in types (ItemKind.Value c.args.ty)) c.args.scope.now c.define_value.new.scope k h a) (c.define_value.ensures.writes w outer i h.written)
