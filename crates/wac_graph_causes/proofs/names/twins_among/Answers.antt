use Rattle.std.proofs.Common.{[], ◌∷◌, sym, subst, ap, ◌∙◌}
use Rattle.wac_types_base.specs.Entries.{value_at}
use Rattle.wac_types_base.proofs.Loops.{get-place}
use Rattle.wac_graph_causes.specs.Firsts.{AddsFirst}
use Rattle.wac_graph_causes.specs.Alike.{likeness}
use Rattle.wac_graph_causes.proofs.Twins.{twins_begin, twins_next, twins_found, no_twins}
use Rattle.wac_graph_causes.proofs.names.twins_among.Goals as goal

pub loop-at-init : goal.loop-at-init
loop-at-init c = twins_begin c.args.validate c.args.names.now c.args.firsts.now c.requires

pub returns-in-Some : goal.returns-in-Some
returns-in-Some c =
    let names = c.args.names.now in
    let at = c.loop-at.at in
    let name = c.index-names-at.result in
    twins_found c.args.validate names at name (get-place names at name c.loop-at-test.true c.index-names-at.is) c.loop-at.firsts c.loop-at.invariant c.in-Some.first (sym c.in-Some.is ∙ c.in_ok-first.ensures.first ∙ ap (λ n. value_at c.loop-at.firsts (likeness c.args.validate n)) c.as_str.ensures)

pub loop-at-preserved : goal.loop-at-preserved
loop-at-preserved c =
    let names = c.args.names.now in
    let at = c.loop-at.at in
    let name = c.index-names-at.result in
    twins_next c.args.validate names at name (get-place names at name c.loop-at-test.true c.index-names-at.is) c.loop-at.firsts c.loop-at.invariant c.twin_before.new.firsts (sym c.in_default.is ∙ c.in_ok-first.ensures.first ∙ ap (λ n. value_at c.loop-at.firsts (likeness c.args.validate n)) c.as_str.ensures)
    (subst (λ n. AddsFirst c.loop-at.firsts c.twin_before.new.firsts ((likeness c.args.validate n, at) ∷ [])) c.as_str.ensures c.in_ok-first.ensures.firsts)

pub returns : goal.returns
returns c = no_twins c.args.validate c.args.names.now c.loop-at.at c.loop-at.firsts c.loop-at-test.false c.loop-at.invariant
