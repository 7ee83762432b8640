use Rattle.std.proofs.Common.{◌++◌, ◌∷◌, [], ap, ◌∙◌}
use Rattle.std.proofs.lemmas.Result.{on_ok_weaker}
use Rattle.wac_graph_causes.proofs.Orders.{no_use, use_added}
use Rattle.wac_graph_causes.proofs.order.add_use.Goals as goal

pub returns-in_default : goal.returns-in_default
returns-in_default c = no_use c.args.sources c.see_acyclic.ensures c.args.id c.args.names.now.items c.in_default.ensures

pub returns : goal.returns
returns c =
    let old = c.args.names.now.items in
    on_ok_weaker c.push_name.result (λ f. use_added c.args.sources c.see_acyclic.ensures c.args.id old c.in-Some.name.now c.in-Some.ensures c.push_name.new.names.items (f ∙ ap (λ n. old ++ n ∷ []) c.spelled.ensures)) c.push_name.ensures
