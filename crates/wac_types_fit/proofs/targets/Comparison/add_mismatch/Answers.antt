use Rattle.std.proofs.Common.{[], ◌∷◌, ◌++◌, inr, ap, ◌∙◌}
use Rattle.wac_types_base.proofs.GraphLemmas.{value_of}
use Rattle.wac_types_fit.specs.Errors.{Said, words_of}
use Rattle.wac_types_fit.specs.Trees.{tree_in}
use Rattle.wac_types_fit.specs.TargetSteps.{mismatches}
use Rattle.wac_types_fit.specs.Words.{Called}
use Rattle.wac_types_fit.proofs.Items.{disagree_no}
use Rattle.wac_types_fit.proofs.Ordering.{named_in_order}
use Rattle.wac_types_fit.proofs.Reports.{done_by, steps_said, tested_import, tested_export}
use Rattle.wac_types_fit.proofs.targets.Comparison.add_mismatch.Goals.{in-Import, in_default}
use Rattle.wac_types_fit.proofs.targets.Comparison.add_mismatch.Goals as goal

pub returns-in-Err-clause-checked : goal.returns-in-Err-clause-checked
returns-in-Err-clause-checked c =
    done_by c.add_fault.result _ _ c.add_fault.ensures (λ h.
    let v = value_of (words_of c.in-Err.fault) h.0 in
    let said : Said = v.0 in
    let leads = c.in-Err.ensures.no said.0 (steps_said c.in-Err.fault said v.1) in
    let words = c.in-Err.ensures.words said.0 said.1.0 said.1.1 v.1 in
    let G = Called c.args.types.now c.args.given said.0 in
    let A = Called c.args.types.now c.args.asked.kind said.0 in
    inr (record {
      apart = λ f. disagree_no said.0 (tree_in c.args.types.now c.args.given) (tree_in c.args.types.now c.args.asked.kind) (named_in_order c.args.types.now c.args.given) (named_in_order c.args.types.now c.args.asked.kind) leads f;
      steps = said.0;
      expected = said.1.0;
      found = said.1.1;
      leads = leads;
      words = elim c.match-matches.branch [
        | in-Import w ↦ tested_import G A said.1.0 said.1.1 c.args.side c.match-matches.matches w.in-Import.is w.matches-is words
        | in_default w ↦ tested_export G A said.1.0 said.1.1 c.args.side c.match-matches.matches w.in_default.not-Import w.matches-is words
      ];
      added = h.1 ∙ ap (λ o. mismatches c.args.self.now.found.items ++ (c.args.asked.name.now, c.args.side, o) ∷ []) v.1;
    }))
