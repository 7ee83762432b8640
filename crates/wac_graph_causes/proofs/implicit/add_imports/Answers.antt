use Rattle.std.proofs.Common.{subst}
use Rattle.wac_types_base.proofs.Loops.{get-place, take-all}
use Rattle.wac_graph_causes.specs.Firsts.{AddsFirst}
use Rattle.wac_graph_causes.specs.Implicit.{all_named}
use Rattle.wac_graph_causes.proofs.Clashes.{named_next}
use Rattle.wac_graph_causes.proofs.Firsts.{adds_nothing, adds_all}
use Rattle.wac_graph_causes.proofs.implicit.add_imports.Goals as goal

pub loop-ask-init : goal.loop-ask-init
loop-ask-init c = adds_nothing c.args.imports.now

pub loop-ask-preserved : goal.loop-ask-preserved
loop-ask-preserved c =
    let asks = c.args.asks.now in
    let i = c.loop-ask.ask-index in
    named_next c.args.imports.now c.loop-ask.imports c.add_named.new.imports asks i c.ask-item.result (get-place asks i c.ask-item.result c.loop-ask-test.true c.ask-item.is) c.loop-ask.invariant c.in_ok-add_named.ensures

pub returns : goal.returns
returns c =
    let asks = c.args.asks.now in
    adds_all c.args.imports.now c.loop-ask.imports (all_named asks) c.requires
    (subst (λ l. AddsFirst c.args.imports.now c.loop-ask.imports (all_named l)) (take-all asks c.loop-ask.ask-index c.loop-ask-test.false) c.loop-ask.invariant)
