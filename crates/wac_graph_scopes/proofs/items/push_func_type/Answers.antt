use Rattle.std.proofs.lemmas.Result.{IfOk-weaker}
use Rattle.wac_types_base.specs.declared.item.ItemKind.{ItemKind}
use Rattle.wac_types_fit.specs.Trees.{tree_in}
use Rattle.wac_graph_scopes.proofs.WritingLaws.{gives_of}
use Rattle.wac_graph_scopes.proofs.items.push_func_type.Goals as goal

pub returns-clause-states : goal.returns-clause-states
returns-clause-states c w outer i h =
    let types = c.args.types.now in
    IfOk-weaker c.push_func.result _ _ (λ k a. gives_of w types outer i (tree_in types (ItemKind.Func c.args.id)) c.args.scope.now c.push_func.new.scope k h a) (c.push_func.ensures.writes w outer i h.written)

pub returns-clause-entry : goal.returns-clause-entry
returns-clause-entry c w outer i h = c.push_func.ensures.entry w outer i h.written
