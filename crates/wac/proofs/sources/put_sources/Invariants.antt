use Rattle.wac.specs.Running.{PutsSources, outside}
use Rattle.wac.proofs.sources.put_sources.Given as goal

-- the sources so far are composed
abbrev pub invariant-loop-source : goal.invariant-loop-source
invariant-loop-source g l =
    PutsSources l.define l.yielded l.initial.workspace l.workspace (outside (g.F.Files.stored l.initial.files) (g.F.Files.failures l.initial.files) (g.W.Write.contents l.initial.out) (g.W.ByteSink.calls l.initial.out))
    (outside (g.F.Files.stored l.files) (g.F.Files.failures l.files) (g.W.Write.contents l.out) (g.W.ByteSink.calls l.out))
