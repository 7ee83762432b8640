use Rattle.wac.specs.Adding.{AddsComponents}
use Rattle.wac.proofs.components.add_components.Given as goal

abbrev pub invariant-loop-component : goal.invariant-loop-component
invariant-loop-component g l = AddsComponents (g.F.Files.stored l.files) l.yielded l.initial.workspace l.workspace
