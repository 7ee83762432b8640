use Rattle.std.proofs.Common.{◌≡◌, None, subst, true}
use Rattle.std.proofs.lemmas.Result.{on_ok_weaker, IfErr-weaker}
use Rattle.wac_graph_causes.specs.Circling.{late_cause}
use Rattle.wac_graph_causes.specs.Unwritable.{TellsUnwritable}
use Rattle.wac_graph_causes.proofs.circles.check_late.Goals as goal

pub returns-clause-none : goal.returns-clause-none
returns-clause-none c =
    on_ok_weaker c.check_each.result (λ pass knows es are. subst (λ xs. late_cause true xs ≡ None) are.are (pass knows are.stand)) c.check_each.ensures.none

pub returns-clause-cause : goal.returns-clause-cause
returns-clause-cause c =
    IfErr-weaker c.check_each.result _ _ (λ e told knows es are. subst (λ xs. TellsUnwritable (late_cause true xs) e) are.are (told knows are.stand)) c.check_each.ensures.cause
