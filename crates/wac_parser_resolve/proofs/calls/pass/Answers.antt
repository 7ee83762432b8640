use Rattle.std.proofs.Common.{Some, subst}
use Rattle.std.specs.Prelude.{string_bytes}
use Rattle.wac_types_base.specs.Collection.{IsAcyclic}
use Rattle.wac_types_base.specs.Entries.{Name}
use Rattle.wac_graph_core.specs.Refusals.{ArgumentRefused}
use Rattle.wac_graph_core.specs.Steps.{SetsArgument}
use Rattle.wac_parser_refusals.specs.Causes.{MismatchedInstantiationArg, MissingComponentImport}
use Rattle.wac_parser_refusals.specs.Outcomes.{Refuses}
use Rattle.wac_parser_refusals.specs.Views.{Names, checked_at}
use Rattle.wac_parser_refusals.proofs.Outcomes.{memory_refusal}
use Rattle.wac_parser_resolve.specs.Denoting.{argument_fits}
use Rattle.wac_parser_resolve.proofs.Growing.{Inner-same, Inner-set, within_same, within_set}
use Rattle.wac_parser_resolve.proofs.Fresh.{fresh_set, no_cycle, cycle_refused}
use Rattle.wac_parser_resolve.proofs.Passing.{argument_held, differs, lacks, unpassed}
use Rattle.wac_parser_resolve.proofs.calls.pass.Goals as goal

pub returns-in-Ok-clause-fresh : goal.returns-in-Ok-clause-fresh
returns-in-Ok-clause-fresh c =
    fresh_set c.args.graph.now c.set_instantiation_argument.new.self c.args.instance c.as_str.result.now c.args.one.now.node c.requires.apart c.in-Ok.ensures.set c.requires.fresh

pub returns-in-Ok-clause-inner : goal.returns-in-Ok-clause-inner
returns-in-Ok-clause-inner c =
    Inner-set c.args.graph.now c.set_instantiation_argument.new.self c.args.instance c.as_str.result.now c.args.one.now.node c.in-Ok.ensures.set

pub returns-in-Ok-clause-outcome : goal.returns-in-Ok-clause-outcome
returns-in-Ok-clause-outcome c noted names s m a says given new =
    let acyclic = subst IsAcyclic c.types.ensures c.see_acyclic.ensures in
    argument_held c.args.graph.now c.see_sound.ensures acyclic noted c.args.instance names s m says a c.args.one.now given new c.set_instantiation_argument.new.self
    (subst (λ (n : Name). SetsArgument c.args.graph.now c.set_instantiation_argument.new.self c.args.instance n c.args.one.now.node) c.as_str.ensures.value c.in-Ok.ensures.set)

pub unreachable-requires-in-Err-WouldFormCycle : goal.unreachable-requires-in-Err-WouldFormCycle
unreachable-requires-in-Err-WouldFormCycle c =
    let r = rw c.in-Err-WouldFormCycle.field-0-is at c.in-Err-WouldFormCycle.ensures.refused in
    no_cycle c.args.graph.now c.args.instance c.args.one.now.node c.requires.fresh c.requires.apart
    (cycle_refused c.args.graph.now c.args.instance c.as_str.result.now c.args.one.now.node c.in-Err-WouldFormCycle.field-0-0 r)

pub returns-in-Err-InvalidArgumentName-clause-inner : goal.returns-in-Err-InvalidArgumentName-clause-inner
returns-in-Err-InvalidArgumentName-clause-inner c = Inner-same c.args.graph.now c.set_instantiation_argument.new.self c.in-Err-InvalidArgumentName.ensures.kept

pub returns-in-Err-InvalidArgumentName-clause-outcome : goal.returns-in-Err-InvalidArgumentName-clause-outcome
returns-in-Err-InvalidArgumentName-clause-outcome c noted names s m a says given new =
    let acyclic = subst IsAcyclic c.types.ensures c.see_acyclic.ensures in
    let r = subst (λ (n : Name). ArgumentRefused c.args.graph.now c.args.instance n c.args.one.now.node c.in-Err-InvalidArgumentName.field-0) c.as_str.ensures.value c.in-Err-InvalidArgumentName.ensures.refused in
    let q = subst (ArgumentRefused c.args.graph.now c.args.instance (string_bytes c.args.one.now.name) c.args.one.now.node) c.in-Err-InvalidArgumentName.field-0-is r in
    lacks c.args.graph.now c.see_sound.ensures acyclic noted c.args.instance names s m says a c.args.one.now given new (string_bytes c.in-Err-InvalidArgumentName.«package») c.no_import.result q.2
    (subst (λ (n : Name). Refuses c.no_import.result (MissingComponentImport (string_bytes c.in-Err-InvalidArgumentName.«package») n) c.args.one.now.span) q.1 c.no_import.ensures)

pub returns-in-Err-ArgumentTypeMismatch-clause-inner : goal.returns-in-Err-ArgumentTypeMismatch-clause-inner
returns-in-Err-ArgumentTypeMismatch-clause-inner c = Inner-same c.args.graph.now c.set_instantiation_argument.new.self c.in-Err-ArgumentTypeMismatch.ensures.kept

pub returns-in-Err-ArgumentTypeMismatch-clause-outcome : goal.returns-in-Err-ArgumentTypeMismatch-clause-outcome
returns-in-Err-ArgumentTypeMismatch-clause-outcome c noted names s m a says given new =
    let acyclic = subst IsAcyclic c.types.ensures c.see_acyclic.ensures in
    let r = subst (λ (n : Name). ArgumentRefused c.args.graph.now c.args.instance n c.args.one.now.node c.in-Err-ArgumentTypeMismatch.field-0) c.as_str.ensures.value c.in-Err-ArgumentTypeMismatch.ensures.refused in
    let q = subst (ArgumentRefused c.args.graph.now c.args.instance (string_bytes c.args.one.now.name) c.args.one.now.node) c.in-Err-ArgumentTypeMismatch.field-0-is r in
    differs c.args.graph.now c.see_sound.ensures acyclic noted c.args.instance names s m says a c.args.one.now given new q.1 c.in-Err-ArgumentTypeMismatch.source c.named.result q.2 q.3
    (subst (λ (n : Name). Names c.named.result (checked_at (MismatchedInstantiationArg n) (Some c.args.one.now.span) c.in-Err-ArgumentTypeMismatch.source)) q.0 c.named.ensures)

pub returns-in-Err-ArgumentAlreadyPassed-clause-inner : goal.returns-in-Err-ArgumentAlreadyPassed-clause-inner
returns-in-Err-ArgumentAlreadyPassed-clause-inner c = Inner-same c.args.graph.now c.set_instantiation_argument.new.self c.in-Err-ArgumentAlreadyPassed.ensures.kept

pub returns-in-Err-ArgumentAlreadyPassed-clause-outcome : goal.returns-in-Err-ArgumentAlreadyPassed-clause-outcome
returns-in-Err-ArgumentAlreadyPassed-clause-outcome c noted names s m a says given new =
    let acyclic = subst IsAcyclic c.types.ensures c.see_acyclic.ensures in
    let r = subst (λ (n : Name). ArgumentRefused c.args.graph.now c.args.instance n c.args.one.now.node c.in-Err-ArgumentAlreadyPassed.field-0) c.as_str.ensures.value c.in-Err-ArgumentAlreadyPassed.ensures.refused in
    let q = subst (ArgumentRefused c.args.graph.now c.args.instance (string_bytes c.args.one.now.name) c.args.one.now.node) c.in-Err-ArgumentAlreadyPassed.field-0-is r in
    absurd (unpassed c.args.graph.now c.see_sound.ensures acyclic noted c.args.instance names s m says a c.args.one.now given new q.4 q.5)

pub returns-in-Err-Memory-clause-inner : goal.returns-in-Err-Memory-clause-inner
returns-in-Err-Memory-clause-inner c = Inner-same c.args.graph.now c.set_instantiation_argument.new.self c.in-Err-Memory.ensures.kept

pub returns-in-Err-Memory-clause-outcome : goal.returns-in-Err-Memory-clause-outcome
returns-in-Err-Memory-clause-outcome c noted names s m a says given new = memory_refusal (argument_fits m.key m.world (tt {0}) a) _ tt

pub returns-in-Err-InvalidArgumentName-clause-within : goal.returns-in-Err-InvalidArgumentName-clause-within
returns-in-Err-InvalidArgumentName-clause-within c = within_same c.args.graph.now c.set_instantiation_argument.new.self c.in-Err-InvalidArgumentName.ensures.kept

pub returns-in-Err-ArgumentTypeMismatch-clause-within : goal.returns-in-Err-ArgumentTypeMismatch-clause-within
returns-in-Err-ArgumentTypeMismatch-clause-within c = within_same c.args.graph.now c.set_instantiation_argument.new.self c.in-Err-ArgumentTypeMismatch.ensures.kept

pub returns-in-Err-ArgumentAlreadyPassed-clause-within : goal.returns-in-Err-ArgumentAlreadyPassed-clause-within
returns-in-Err-ArgumentAlreadyPassed-clause-within c = within_same c.args.graph.now c.set_instantiation_argument.new.self c.in-Err-ArgumentAlreadyPassed.ensures.kept

pub returns-in-Err-Memory-clause-within : goal.returns-in-Err-Memory-clause-within
returns-in-Err-Memory-clause-within c = within_same c.args.graph.now c.set_instantiation_argument.new.self c.in-Err-Memory.ensures.kept

pub returns-in-Ok-clause-within : goal.returns-in-Ok-clause-within
returns-in-Ok-clause-within c = within_set c.args.graph.now c.set_instantiation_argument.new.self c.args.instance c.as_str.result.now c.args.one.now.node c.in-Ok.ensures.set
