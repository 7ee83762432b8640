use Rattle.std.proofs.Common.{subst}
use Rattle.std.specs.Prelude.{IfSome}
use Rattle.wac_graph_scopes.specs.Imports.{IsGivenBy}
use Rattle.wac_graph_scopes.proofs.order.is_used.Goals as goal

pub returns-in-Some : goal.returns-in-Some
returns-in-Some c e = (c.in-Some.given, subst (λ o. IfSome o (IsGivenBy c.args.all c.args.import)) c.in-Some.is c.in_ok-given.ensures.found)
