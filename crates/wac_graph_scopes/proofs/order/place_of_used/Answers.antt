use Rattle.std.proofs.Common.{ap, ◌∙◌, subst}
use Rattle.std.specs.Prelude.{IfSome, IfNone}
use Rattle.wac_graph_scopes.specs.Items.{Never}
use Rattle.wac_graph_scopes.specs.Imports.{IsGivenBy}
use Rattle.wac_graph_scopes.specs.UsePlaces.{place_of}
use Rattle.wac_graph_scopes.proofs.UsePlaceLaws.{one_use}
use Rattle.wac_graph_scopes.proofs.order.place_of_used.Goals as goal

pub returns-in-Some-clause-found : goal.returns-in-Some-clause-found
returns-in-Some-clause-found c m g =
    let a = c.args.all in
    let t = c.in-Some.given in
    let is = subst (λ o. IfSome o (IsGivenBy a c.args.import)) c.in-Some.is c.in_ok-given.ensures.found in
    c.place_of_use.ensures ∙ ap (place_of a.types.now c.args.found.now) (one_use a c.args.import.name.now t.used g.0.used is.use_is g.1.use_is) ∙ g.2

pub returns-in-None-clause-found : goal.returns-in-None-clause-found
returns-in-None-clause-found c m g =
    let none = subst (λ o. IfNone o (Never (IsGivenBy c.args.all c.args.import))) c.in-None.is c.in_ok-given.ensures.none in
    absurd (none g.0 g.1)
