use Rattle.std.proofs.Common.{sym, subst}
use Rattle.std.proofs.lemmas.Result.{err_from_is_err_and}
use Rattle.wac_types_base.proofs.Looked.{among-get}
use Rattle.wac_types_base.proofs.Loops.{get-place}
use Rattle.wac_graph_causes.specs.Unwritable.{TellsDefinitionAt}
use Rattle.wac_graph_causes.proofs.DefinitionCauses.{definitions_begin, definitions_next, definition_told, definitions_pass}
use Rattle.wac_graph_causes.proofs.writable.check_each.Goals as goal

pub loop-definition-init : goal.loop-definition-init
loop-definition-init c = λ knows have os beside. definitions_begin c.args.types.now c.args.asked.now os c.args.definitions.now c.args.outers.now beside

pub loop-definition-preserved : goal.loop-definition-preserved
loop-definition-preserved c = λ knows have os beside.
    let t = c.args.types.now in
    let a = c.args.asked.now in
    let ds = c.args.definitions.now in
    let i = c.loop-definition.definition-index in
    let d = c.definition-item.result in
    let s = c.loop-definition.outers in
    let h = c.loop-definition.invariant knows have os beside in
    let has = have d (among-get ds i d (get-place ds i d c.loop-definition-test.true c.definition-item.is)) in
    definitions_next t a os ds s i h d c.loop-definition-test.true c.definition-item.is c.check_definition.new.outers (c.in_ok-check_definition.ensures.keeps os h.beside)
    (c.in_ok-check_definition.ensures.none knows has os h.beside)

pub returns-in_err-check_definition-clause-cause : goal.returns-in_err-check_definition-clause-cause
returns-in_err-check_definition-clause-cause c =
    let p = err_from_is_err_and c.from_residual.result c.from_residual.ensures.1 in
    let t = c.args.types.now in
    let a = c.args.asked.now in
    let ds = c.args.definitions.now in
    let i = c.loop-definition.definition-index in
    let d = c.definition-item.result in
    let s = c.loop-definition.outers in
    rw p.1
    (λ knows have os beside.
    let h = c.loop-definition.invariant knows have os beside in
    let has = have d (among-get ds i d (get-place ds i d c.loop-definition-test.true c.definition-item.is)) in
    definition_told t a os ds s i h d c.loop-definition-test.true c.definition-item.is p.0
    (subst (TellsDefinitionAt t a c.args.unnamed.now s d) (sym p.2) c.in_err-check_definition.ensures.cause knows has os h.beside))

pub returns-clause-none : goal.returns-clause-none
returns-clause-none c = λ knows have os beside.
    definitions_pass c.args.types.now c.args.asked.now os c.args.definitions.now c.loop-definition.outers c.loop-definition.definition-index (c.loop-definition.invariant knows have os beside) c.loop-definition-test.false
