use Rattle.std.proofs.Common.{◌≡◌, length, subst, ◌∙◌, arith}
use Rattle.std.proofs.lemmas.List.{length-map}
use Rattle.wac_types_base.proofs.Loops.{map-get, get-place}
use Rattle.wac_graph_asks.specs.Named.{words_in, all_words}
use Rattle.wac_graph_asks.proofs.Spelling.{AreLed, led_step, led_spells}
use Rattle.wac_graph_asks.proofs.classes.push_spellings.Goals as goal

pub loop-at-preserved : goal.loop-at-preserved
loop-at-preserved c =
    let names = c.args.names.now in
    let at = c.loop-at.at in
    let name = c.index-names-at.result in
    let place = map-get words_in names at name (get-place names at name c.loop-at-test.true c.index-names-at.is) in
    let s = led_step (all_words names) c.args.labels.now c.loop-at.best.items _ _ at c.place_at.result (words_in name) place c.loop-at.invariant.as_many c.loop-at.invariant.led
    c.in_ok-push.ensures.items c.place_at.ensures c.respell.ensures in
    record { as_many = s.0; led = s.1 }

pub returns : goal.returns
returns c = λ asks named are.
    let ws = all_words c.args.names.now in
    let all : c.loop-at.at ≡ length ws = omega (arith, length-map c.args.names.now words_in) in
    led_spells ws asks c.args.labels.now c.loop-at.best.items named (c.loop-at.invariant.as_many ∙ all) (subst (AreLed ws c.args.labels.now c.loop-at.best.items) all c.loop-at.invariant.led) are
