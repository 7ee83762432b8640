use Rattle.std.proofs.Common.{◌≡◌, ◌<◌, ◌≤◌, ◌∙◌, ◌∷◌, length, slice_get, Some, refl, sym, ap, arith}
use Rattle.std.specs.Prelude.{string_bytes}
use Rattle.wac_types_base.specs.declared.item.ExternKind.{ExternKind}
use Rattle.wac_types_base.specs.Entries.{Name}
use Rattle.wac_types_base.proofs.PairNames.{pair-place}
use Rattle.wac_types_fit.specs.Frames.{joined_name}
use Rattle.wac_types_fit.specs.Checking.{import_at}
use Rattle.wac_types_fit.proofs.CoreItems.{has_more, has_all_of}
use Rattle.std.specs.Prelude.{option_map, option_copied}
use Rattle.wac_types_fit.specs.Errors.{words_of}
use Rattle.wac_types_fit.specs.Words.{ImportCalled, core_word}
use Rattle.wac_types_fit.proofs.CoreItems.{among-import_at}
use Rattle.wac_types_fit.proofs.Worded.{core_called}
use Rattle.wac_types_fit.proofs.core_items.imports_fit.Goals as goal
use Rattle.wac_types_base.proofs.Looked.{among-get}
use Rattle.wac_types_base.proofs.Lists.{joined}

pub returns-in-Err-clause-no : goal.returns-in-Err-clause-no
returns-in-Err-clause-no c ss e =
    let key : Name × Name = (c.as_str-from.result.now, c.as_str-name.result.now) in
    let t = c.index-names-at.result in
    let x = c.index-values-at.result in
    let within : c.loop-at.at < length c.args.asked.now = omega (arith, c.loop-at-test.true, c.len-at-end.ensures.len) in
    let named : (string_bytes t.0, string_bytes t.1) ≡ key = joined (string_bytes t.0, string_bytes t.1) key (sym c.as_str-from.ensures.value) (sym c.as_str-name.ensures.value) in
    let place : slice_get c.args.asked.now c.loop-at.at ≡ Some (key, x) = pair-place c.args.asked.now c.names.result.now c.values.result.now c.loop-at.at t x c.names.ensures c.values.ensures within c.index-names-at.is c.index-values-at.is ∙ ap (λ k. Some (k, x)) named in
    let w = c.behind_import.ensures.steps ss e in
    let i = c.in-Err.ensures.no w.0 w.1 in
    record {
      key = key;
      item = x;
      asked = among-get c.args.asked.now c.loop-at.at (key, x) place;
      lacking = λ h. i.1 (c.import_of.ensures ∙ h);
      steps = w.2 ∙ ap (λ r. (ExternKind.Import, joined_name key) ∷ r) i.0;
    }

pub loop-at-preserved : goal.loop-at-preserved
loop-at-preserved c k v m =
    let key : Name × Name = (c.as_str-from.result.now, c.as_str-name.result.now) in
    let t = c.index-names-at.result in
    let x = c.index-values-at.result in
    let within : c.loop-at.at < length c.args.asked.now = omega (arith, c.loop-at-test.true, c.len-at-end.ensures.len) in
    let named : (string_bytes t.0, string_bytes t.1) ≡ key = joined (string_bytes t.0, string_bytes t.1) key (sym c.as_str-from.ensures.value) (sym c.as_str-name.ensures.value) in
    let place : slice_get c.args.asked.now c.loop-at.at ≡ Some (key, x) = pair-place c.args.asked.now c.names.result.now c.values.result.now c.loop-at.at t x c.names.ensures c.values.ensures within c.index-names-at.is c.index-values-at.is ∙ ap (λ k. Some (k, x)) named in
    has_more import_at c.args.given.now c.args.asked.now c.loop-at.at key x place c.loop-at.invariant (sym c.import_of.ensures ∙ c.in-Ok.ensures.yes) k v m

pub returns-clause-yes : goal.returns-clause-yes
returns-clause-yes c =
    let end : length c.args.asked.now ≤ c.loop-at.at = omega (arith, c.loop-at-test.false, c.len-at-end.ensures.len) in
    has_all_of import_at c.args.given.now c.args.asked.now c.loop-at.at end c.loop-at.invariant

pub returns-in-Err-clause-words : goal.returns-in-Err-clause-words
returns-in-Err-clause-words c ss e f said =
    let key : Name × Name = (c.as_str-from.result.now, c.as_str-name.result.now) in
    let t = c.index-names-at.result in
    let x = c.index-values-at.result in
    let within : c.loop-at.at < length c.args.asked.now = omega (arith, c.loop-at-test.true, c.len-at-end.ensures.len) in
    let named : (string_bytes t.0, string_bytes t.1) ≡ key = joined (string_bytes t.0, string_bytes t.1) key (sym c.as_str-from.ensures.value) (sym c.as_str-name.ensures.value) in
    let place : slice_get c.args.asked.now c.loop-at.at ≡ Some (key, x) = pair-place c.args.asked.now c.names.result.now c.values.result.now c.loop-at.at t x c.names.ensures c.values.ensures within c.index-names-at.is c.index-values-at.is ∙ ap (λ k. Some (k, x)) named in
    let asked : import_at c.args.asked.now key ≡ Some x = among-import_at c.args.asked.now key x c.len-at-end.ensures.distinct (among-get c.args.asked.now c.loop-at.at (key, x) place) in
    let w = c.behind_import.ensures.words ss e f said in
    core_called c.args.turned (ExternKind.Import, joined_name key) (ImportCalled c.args.given.now) (ImportCalled c.args.asked.now) (words_of c.in-Err.fault) (option_map core_word (option_copied c.import_of.result)) (Some (core_word x))
    c.in-Err.ensures.words (key, refl, ap (option_map core_word) c.import_of.ensures) (key, refl, ap (option_map core_word) (sym asked)) ss w.0 e f w.1 w.2
