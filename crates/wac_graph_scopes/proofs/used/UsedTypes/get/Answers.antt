use Rattle.std.proofs.Common.{◌∙◌, ap}
use Rattle.wac_graph_scopes.specs.Used.{used_at}
use Rattle.wac_graph_scopes.proofs.UsedNames.{used_looked}
use Rattle.wac_graph_scopes.proofs.used.UsedTypes.get.Goals as goal

pub returns-in-Some : goal.returns-in-Some
returns-in-Some c =
    let i = c.args.name.identifier.now in
    let n = c.args.name.name.now in
    c.in-Some.ensures.value ∙ used_looked i n c.self.inside.found.entries ∙ ap (λ us. used_at us i n) c.self.view_is

pub returns-in-None : goal.returns-in-None
returns-in-None c =
    let i = c.args.name.identifier.now in
    let n = c.args.name.name.now in
    c.in-None.ensures.value ∙ used_looked i n c.self.inside.found.entries ∙ ap (λ us. used_at us i n) c.self.view_is
