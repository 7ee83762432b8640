use Rattle.std.proofs.Common.{◌≡◌, length, subst, arith}
use Rattle.std.proofs.lemmas.List.{length-map}
use Rattle.wac_types_base.proofs.Loops.{map-get, get-place}
use Rattle.wac_graph_asks.specs.Named.{words_in, all_words}
use Rattle.wac_graph_asks.proofs.Linking.{SoFar, starts, one_more, all_joined}
use Rattle.wac_graph_asks.proofs.classes.join_asks.Goals as goal

pub loop-at-init : goal.loop-at-init
loop-at-init c = starts (all_words c.args.names.now) _ _ _ _ c.requires.names c.requires.tracks c.requires.identifiers c.requires.labels

pub loop-at-preserved : goal.loop-at-preserved
loop-at-preserved c =
    let names = c.args.names.now in
    let at = c.loop-at.at in
    let name = c.index-names-at.result in
    let place = map-get words_in names at name (get-place names at name c.loop-at-test.true c.index-names-at.is) in
    let j = c.in_ok-join_ask.ensures in
    one_more (all_words names) at (words_in name) _ _ _ _ _ _ c.loop-at.labels.items j.named j.tracked _ place c.loop-at.invariant j.by_name j.by_track j.by_identifier

pub returns : goal.returns
returns c = λ asks named.
    let ws = all_words c.args.names.now in
    let all : c.loop-at.at ≡ length ws = omega (arith, length-map c.args.names.now words_in) in
    all_joined asks ws named _ _ _ c.loop-at.labels.items
    (subst (λ n. SoFar ws n c.loop-at.firsts.by_name c.loop-at.firsts.by_track c.loop-at.firsts.by_identifier c.loop-at.labels.items) all c.loop-at.invariant)
