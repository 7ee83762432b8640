use Rattle.std.proofs.Common.{◌≡◌, ◌≤◌, ◌∙◌, ◌∷◌, length, Some, refl, sym, ap, arith}
use Rattle.wac_types_base.specs.declared.item.ExternKind.{ExternKind}
use Rattle.wac_types_base.specs.Entries.{value_at}
use Rattle.wac_types_fit.proofs.CoreItems.{has_more, has_all_of}
use Rattle.std.specs.Prelude.{option_map, option_copied}
use Rattle.wac_types_fit.specs.Errors.{words_of}
use Rattle.wac_types_fit.specs.Words.{ExportCalled, core_word}
use Rattle.wac_types_fit.proofs.Items.{among-value_at}
use Rattle.wac_types_fit.proofs.Worded.{core_called}
use Rattle.wac_types_fit.proofs.core_items.exports_fit.Goals as goal
use Rattle.wac_types_base.proofs.Looked.{among-get}

pub returns-in-Err-clause-no : goal.returns-in-Err-clause-no
returns-in-Err-clause-no c ss e =
    let key = c.entry.result.0.now in
    let x = c.entry.result.1.now in
    let w = c.within.ensures.steps ss e in
    let i = c.in-Err.ensures.no w.0 w.1 in
    record {
      key = key;
      item = x;
      asked = among-get c.args.asked.now c.loop-at.at (key, x) c.entry.ensures;
      lacking = λ h. i.1 (c.get.ensures ∙ h);
      steps = w.2 ∙ ap (λ r. (ExternKind.Export, key) ∷ r) i.0;
    }

pub loop-at-preserved : goal.loop-at-preserved
loop-at-preserved c k v m =
    has_more value_at c.args.given.now c.args.asked.now c.loop-at.at c.entry.result.0.now c.entry.result.1.now c.entry.ensures c.loop-at.invariant (sym c.get.ensures ∙ c.in-Ok.ensures.yes) k v m

pub returns-clause-yes : goal.returns-clause-yes
returns-clause-yes c =
    let end : length c.args.asked.now ≤ c.loop-at.at = omega (arith, c.loop-at-test.false, c.len-at-end.ensures.len) in
    has_all_of value_at c.args.given.now c.args.asked.now c.loop-at.at end c.loop-at.invariant

pub returns-in-Err-clause-words : goal.returns-in-Err-clause-words
returns-in-Err-clause-words c ss e f said =
    let key = c.entry.result.0.now in
    let x = c.entry.result.1.now in
    let w = c.within.ensures.words ss e f said in
    let asked : value_at c.args.asked.now key ≡ Some x = among-value_at c.args.asked.now key x c.len-at-end.ensures.distinct (among-get c.args.asked.now c.loop-at.at (key, x) c.entry.ensures) in
    core_called c.args.turned (ExternKind.Export, key) (ExportCalled c.args.given.now) (ExportCalled c.args.asked.now) (words_of c.in-Err.fault) (option_map core_word (option_copied c.get.result)) (Some (core_word x))
    c.in-Err.ensures.words (key, refl, ap (option_map core_word) c.get.ensures) (key, refl, ap (option_map core_word) (sym asked)) ss w.0 e f w.1 w.2
