use Rattle.std.proofs.Common.{ℕ, List, subst}
use Rattle.wac_graph_asks.specs.declared.asks.Ask.{Ask}
use Rattle.wac_graph_asks.specs.Takes.{TakesAll, IfConflict, RefusesAll}
use Rattle.wac_graph_asks.proofs.Answering.{classed_still, outers_so, taken_still}
use Rattle.wac_graph_asks.proofs.Merged.{merges_labelled, free_labelled}
use Rattle.wac_graph_asks.proofs.TakingMore.{again_err, no_conflict}
use Rattle.wac_graph_asks.proofs.outers.outers_of_classes.Goals as goal

pub outers_kept-requires-clause-classed : goal.outers_kept-requires-clause-classed
outers_kept-requires-clause-classed c = classed_still c.args.asked.now.types c.all_taken.new.types c.all_taken.ensures.grows c.args.asked.now.asks.items c.args.classes.now c.requires.classed

pub outers_kept-requires-clause-taken : goal.outers_kept-requires-clause-taken
outers_kept-requires-clause-taken c =
    taken_still c.args.asked.now.types c.all_taken.new.types c.all_taken.ensures.grows c.args.asked.now.asks.items c.args.classes.now c.in_ok-taken.taken.entries c.requires.sound c.requires.classed
    (subst (λ (ls : List ℕ). TakesAll c.args.asked.now.types c.args.asked.now.asks.items ls c.all_taken.new.types c.in_ok-taken.taken.entries) c.deref-2.ensures.value
    (subst (λ (xs : List Ask). TakesAll c.args.asked.now.types xs c.deref-2.result.now c.all_taken.new.types c.in_ok-taken.taken.entries) c.deref.ensures.value c.in_ok-taken.ensures.takes))

pub returns-clause-merges : goal.returns-clause-merges
returns-clause-merges c =
    merges_labelled c.outers_kept.result c.args.asked.now.types c.all_taken.new.types c.deref.result.now c.args.asked.now.asks.items c.deref-2.result.now c.args.classes.now.labels.items c.in_ok-taken.taken.entries c.deref.ensures.value c.deref-2.ensures.value c.in_ok-taken.ensures.takes

pub returns-clause-free : goal.returns-clause-free
returns-clause-free c =
    free_labelled c.outers_kept.result c.args.asked.now.types c.all_taken.new.types c.deref.result.now c.args.asked.now.asks.items c.deref-2.result.now c.args.classes.now.labels.items c.in_ok-taken.taken.entries c.deref.ensures.value c.deref-2.ensures.value c.in_ok-taken.ensures.takes

pub returns-clause-outers : goal.returns-clause-outers
returns-clause-outers c =
    outers_so c.outers_kept.result c.args.asked.now.types c.all_taken.new.types c.outers_kept.new.asked.types c.args.asked.now.asks.items c.args.classes.now c.in_ok-taken.taken.entries c.all_taken.ensures.grows
    (subst (λ (ls : List ℕ). TakesAll c.args.asked.now.types c.args.asked.now.asks.items ls c.all_taken.new.types c.in_ok-taken.taken.entries) c.deref-2.ensures.value
    (subst (λ (xs : List Ask). TakesAll c.args.asked.now.types xs c.deref-2.result.now c.all_taken.new.types c.in_ok-taken.taken.entries) c.deref.ensures.value c.in_ok-taken.ensures.takes))
    c.outers_kept.ensures.imports c.outers_kept.ensures.places c.outers_kept.ensures.stands

pub returns-clause-refused : goal.returns-clause-refused
returns-clause-refused c = no_conflict c.outers_kept.result (RefusesAll c.args.asked.now.types c.args.asked.now.asks.items c.args.classes.now.labels.items) c.outers_kept.ensures.no_conflict

pub returns-in_err-taken-clause-refused : goal.returns-in_err-taken-clause-refused
returns-in_err-taken-clause-refused c =
    again_err c.from_residual.result (λ e. IfConflict e (RefusesAll c.args.asked.now.types c.args.asked.now.asks.items c.args.classes.now.labels.items)) c.in_err-taken.field-0.0 c.from_residual.ensures.1
    (subst (λ (ls : List ℕ). IfConflict c.in_err-taken.field-0.0 (RefusesAll c.args.asked.now.types c.args.asked.now.asks.items ls)) c.deref-2.ensures.value
    (subst (λ (xs : List Ask). IfConflict c.in_err-taken.field-0.0 (RefusesAll c.args.asked.now.types xs c.deref-2.result.now)) c.deref.ensures.value c.in_err-taken.ensures.refused))
