use Rattle.std.proofs.Common.{sym, ◌∙◌}
use Rattle.std.proofs.lemmas.Result.{IfOk-weaker}
use Rattle.wac_graph_core.proofs.Reached.{users_those, no_users}
use Rattle.wac_graph_core.proofs.nodes.Nodes.users_of.Goals as goal

pub returns-in-Some : goal.returns-in-Some
returns-in-Some c =
    IfOk-weaker c.reaching.result _ _ (λ v those. users_those c.args.types.now c.args.self.now c.args.ty c.in-Some.wanted v.items (sym c.in-Some.is ∙ c.defined_of.ensures) those) c.reaching.ensures

pub returns-in-None : goal.returns-in-None
returns-in-None c = no_users c.args.types.now c.args.self.now c.args.ty _ (sym c.in-None.is ∙ c.defined_of.ensures) c.new.ensures.items
