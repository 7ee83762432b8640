use Rattle.std.proofs.Common.{◌≡◌, None}
use Rattle.std.proofs.lemmas.Result.{on_ok_weaker, IfErr-weaker}
use Rattle.wac_graph_causes.specs.Unwritable.{TellsUnwritable}
use Rattle.wac_graph_causes.proofs.DefinitionCauses.{held_told}
use Rattle.wac_graph_causes.proofs.writable.check_definitions.Goals as goal

pub returns-clause-none : goal.returns-clause-none
returns-clause-none c =
    on_ok_weaker c.check_each.result
    (held_told c.args.graph.now c.args.asked.now c.args.outers.now c.args.unnamed.now c.see_acyclic.ensures c.types-types.result.now c.types-types.ensures c.deref.result.now c.deref.ensures.value (record { copies = c.in_ok-copies.copies; rest = c.in_ok-rest.rest }) c.in_ok-copies.ensures c.in_ok-rest.ensures
    (λ o. o ≡ None)) c.check_each.ensures.none

pub returns-clause-cause : goal.returns-clause-cause
returns-clause-cause c =
    IfErr-weaker c.check_each.result _ _
    (λ e. held_told c.args.graph.now c.args.asked.now c.args.outers.now c.args.unnamed.now c.see_acyclic.ensures c.types-types.result.now c.types-types.ensures c.deref.result.now c.deref.ensures.value (record { copies = c.in_ok-copies.copies; rest = c.in_ok-rest.rest }) c.in_ok-copies.ensures c.in_ok-rest.ensures
    (λ o. TellsUnwritable o e)) c.check_each.ensures.cause
