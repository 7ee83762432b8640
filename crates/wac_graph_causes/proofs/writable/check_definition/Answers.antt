use Rattle.std.proofs.Common.{true, false, subst}
use Rattle.wac_graph_causes.specs.Unwritable.{TellsName, definition_cause}
use Rattle.wac_graph_causes.proofs.FirstCauses.{tells_named}
use Rattle.wac_graph_causes.proofs.DefinitionCauses.{cause_said}
use Rattle.wac_graph_causes.proofs.writable.check_definition.Goals as goal

pub returns-then-fails-clause-cause : goal.returns-then-fails-clause-cause
returns-then-fails-clause-cause c = λ knows has os beside.
    let d = c.args.definition.now in
    let cause = cause_said c.args.types.now os d c.in_ok-fails.fails true (c.in_ok-fails.ensures.tells knows has os beside) c.if-fails.true in
    tells_named d.name (definition_cause c.args.types.now os d) c.unwritable.result cause (subst (λ n. TellsName n c.unwritable.result) c.as_str.ensures c.unwritable.ensures)

pub returns-clause-none : goal.returns-clause-none
returns-clause-none c = λ knows has os beside. cause_said c.args.types.now os c.args.definition.now c.in_ok-fails.fails false (c.in_ok-fails.ensures.tells knows has os beside) c.if-fails.false
