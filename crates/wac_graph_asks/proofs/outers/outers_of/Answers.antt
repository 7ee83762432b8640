use Rattle.std.proofs.Common.{List, refl, subst}
use Rattle.wac_types_base.proofs.Adding.{Grows-refl}
use Rattle.wac_graph_asks.specs.declared.asks.Ask.{Ask}
use Rattle.wac_graph_asks.specs.declared.error.OuterError.{OuterError}
use Rattle.wac_graph_asks.specs.AsksIn.{asks_in}
use Rattle.wac_graph_asks.specs.Classed.{AreLabels, AreSpellings}
use Rattle.wac_graph_asks.specs.Takes.{IfConflict, ConflictsFor}
use Rattle.wac_graph_asks.proofs.Merged.{merges}
use Rattle.wac_graph_asks.proofs.Answering.{answers, answers_free, answers_refused}
use Rattle.wac_graph_asks.proofs.TakingMore.{again_err}
use Rattle.wac_graph_asks.proofs.outers.outers_of.Goals as goal

pub outers_of_classes-requires-clause-sound : goal.outers_of_classes-requires-clause-sound
outers_of_classes-requires-clause-sound c = record { stand = c.requires; differ = c.see_named.ensures }

pub outers_of_classes-requires-clause-classed : goal.outers_of_classes-requires-clause-classed
outers_of_classes-requires-clause-classed c = record {
  stand = c.requires;
  labels = subst (λ (xs : List Ask). AreLabels (asks_in c.args.asked.now.types xs) c.in_ok-classes.classes.labels.items) c.deref.ensures.value c.in_ok-classes.ensures.labels;
  spellings = subst (λ (xs : List Ask). AreSpellings (asks_in c.args.asked.now.types xs) c.in_ok-classes.classes.labels.items c.in_ok-classes.classes.spellings.items) c.deref.ensures.value c.in_ok-classes.ensures.spellings;
}

pub returns-in_err-classes-clause-keeps : goal.returns-in_err-classes-clause-keeps
returns-in_err-classes-clause-keeps c = record { grows = Grows-refl c.args.asked.now.types c.see_acyclic.ensures; asks = refl; packages = refl; definitions = refl }

pub returns-clause-merges : goal.returns-clause-merges
returns-clause-merges c =
    merges c.outers_of_classes.result c.args.asked.now c.deref.result.now c.in_ok-classes.classes.labels.items c.see_named.ensures c.deref.ensures.value c.in_ok-classes.ensures.labels c.outers_of_classes.ensures.merges

pub returns-clause-outers : goal.returns-clause-outers
returns-clause-outers c =
    answers c.outers_of_classes.result c.args.asked.now c.outers_of_classes.new.asked c.in_ok-classes.classes c.see_acyclic.ensures c.see_named.ensures
    (subst (λ (xs : List Ask). AreLabels (asks_in c.args.asked.now.types xs) c.in_ok-classes.classes.labels.items) c.deref.ensures.value c.in_ok-classes.ensures.labels)
    (subst (λ (xs : List Ask). AreSpellings (asks_in c.args.asked.now.types xs) c.in_ok-classes.classes.labels.items c.in_ok-classes.classes.spellings.items) c.deref.ensures.value c.in_ok-classes.ensures.spellings)
    c.outers_of_classes.ensures.outers

pub returns-clause-free : goal.returns-clause-free
returns-clause-free c =
    answers_free c.outers_of_classes.result c.args.asked.now c.in_ok-classes.classes.labels.items c.see_acyclic.ensures c.see_named.ensures
    (subst (λ (xs : List Ask). AreLabels (asks_in c.args.asked.now.types xs) c.in_ok-classes.classes.labels.items) c.deref.ensures.value c.in_ok-classes.ensures.labels) c.outers_of_classes.ensures.free

pub returns-clause-refused : goal.returns-clause-refused
returns-clause-refused c =
    answers_refused c.outers_of_classes.result c.args.asked.now c.in_ok-classes.classes.labels.items c.see_acyclic.ensures c.see_named.ensures
    (subst (λ (xs : List Ask). AreLabels (asks_in c.args.asked.now.types xs) c.in_ok-classes.classes.labels.items) c.deref.ensures.value c.in_ok-classes.ensures.labels) c.outers_of_classes.ensures.refused

pub returns-in_err-classes-clause-refused : goal.returns-in_err-classes-clause-refused
returns-in_err-classes-clause-refused c = again_err c.from_residual.result (λ e. IfConflict e (ConflictsFor c.args.asked.now)) OuterError.Memory c.from_residual.ensures.1 tt
