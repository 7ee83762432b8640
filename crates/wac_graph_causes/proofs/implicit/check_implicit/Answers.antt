use Rattle.std.proofs.lemmas.Result.{on_ok_weaker, IfErr-weaker}
use Rattle.wac_graph_causes.proofs.AskedTwice.{none_asked_twice, told_asked_twice}
use Rattle.wac_graph_causes.proofs.implicit.check_implicit.Goals as goal

pub returns-clause-none : goal.returns-clause-none
returns-clause-none c =
    on_ok_weaker c.check_asks.result
    (λ none h. none_asked_twice c.args.graph.now c.args.asked.now c.add_imports.new.imports c.deref.result.now c.deref-2.result.now c.deref.ensures.value c.deref-2.ensures.value c.in_ok-add_imports.ensures h none) c.check_asks.ensures.none

pub returns-clause-cause : goal.returns-clause-cause
returns-clause-cause c =
    IfErr-weaker c.check_asks.result _ _
    (λ e told h. told_asked_twice c.args.graph.now c.args.asked.now c.add_imports.new.imports c.deref.result.now c.deref-2.result.now c.deref.ensures.value c.deref-2.ensures.value c.in_ok-add_imports.ensures h e told) c.check_asks.ensures.cause
