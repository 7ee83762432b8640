use Rattle.std.proofs.Common.{◌≡◌, Some, subst}
use Rattle.wac_graph_scopes.specs.Used.{Used, used_at}
use Rattle.wac_graph_scopes.specs.InstanceRefusals.{RefusesInstance}
use Rattle.wac_graph_scopes.proofs.imports.describe_alone.Goals as goal

pub returns-clause-describes : goal.returns-clause-describes
returns-clause-describes c w outer i h = c.describe.ensures.describes w outer i h (λ j n u m. absurd (cc (subst (λ (l : Used). used_at l j n ≡ Some u) c.new-used.ensures m)))

pub returns-clause-instance : goal.returns-clause-instance
returns-clause-instance c = subst (λ (us : Used). RefusesInstance c.args.types.now us 0 c.args.kind c.args.scope.now c.describe.result) c.new-used.ensures c.describe.ensures.instance
