use Rattle.std.proofs.Common.{◌∷◌, [], get_or, take, sym, subst, arith}
use Rattle.std.proofs.lemmas.List.{take_more}
use Rattle.wac_types_base.proofs.Loops.{take-all}
use Rattle.wac_graph_scopes.specs.UsePlaces.{AddsSources}
use Rattle.wac_graph_scopes.proofs.UsePlaceLaws.{sources_none, sources_both}
use Rattle.wac_graph_scopes.proofs.order.add_sources_before.Goals as goal

pub loop-used-init : goal.loop-used-init
loop-used-init c = sources_none c.args.all c.args.order.now.keys c.args.at c.args.needs.now.items

pub loop-used-preserved : goal.loop-used-preserved
loop-used-preserved c =
    let a = c.args.all in
    let order = c.args.order.now.keys in
    let us = c.args.uses.now in
    let i = c.loop-used.used-index in
    let old = c.args.needs.now.items in
    let new = c.add_source_before.new.needs.items in
    subst (λ l. AddsSources a order c.args.at l old new) (sym (take_more us i 0 c.loop-used-test.true))
    (sources_both a order c.args.at (take i us) (get_or us i 0 ∷ []) old c.loop-used.needs.items new c.loop-used.invariant c.in_ok-add_source_before.ensures)

pub returns : goal.returns
returns c =
    let us = c.args.uses.now in
    subst (λ l. AddsSources c.args.all c.args.order.now.keys c.args.at l c.args.needs.now.items c.loop-used.needs.items)
    (take-all us c.loop-used.used-index (omega (arith, c.loop-used-test.false))) c.loop-used.invariant
