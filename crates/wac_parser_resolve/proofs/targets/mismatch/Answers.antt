use Rattle.std.proofs.Common.{ℕ, sym, subst, ap, ◌+◌, ◌∙◌}
use Rattle.std.proofs.lemmas.Result.{IfOk-weaker}
use Rattle.wac_types_fit.specs.Checking.{IsTrueOf}
use Rattle.wac_types_fit.specs.Directions.{direction_of}
use Rattle.wac_types_fit.specs.Errors.{IfSaid}
use Rattle.wac_types_fit.specs.Words.{Called, CalledUnder}
use Rattle.wac_types_fit.specs.declared.checker.SubtypeCheck.{SubtypeCheck}
use Rattle.wac_types_fit.proofs.Checks.{on_ok}
use Rattle.wac_parser_resolve.specs.InTargets.{TellsMismatch, turned_by}
use Rattle.wac_parser_resolve.proofs.Meeting.{IsChecked, mismatch_told}
use Rattle.wac_parser_resolve.proofs.targets.mismatch.Goals as goal

pub returns-then-is_turned : goal.returns-then-is_turned
returns-then-is_turned c =
    let t = c.args.types.now in
    let set = c.invert.ensures.set ∙ ap (λ (n : ℕ). n + 1) c.new-checker.ensures.none in
    let checked : IsChecked SubtypeCheck.Contravariant t c.args.given c.args.asked c.is_subtype.result = record {
      yes = on_ok c.is_subtype.result _ _ c.is_subtype.ensures.yes (λ h. h (subst (λ s. IsTrueOf t t s.keys) (sym (c.invert.ensures.cache ∙ c.new-checker.ensures.cache)) (c.new_cache-cache.ensures.true_of_all t t)));
      no = c.is_subtype.ensures.no;
      frames = c.is_subtype.ensures.frames;
      words = subst (λ n. IfSaid c.is_subtype.result (λ ss e f. CalledUnder (direction_of n) (Called t c.args.given ss) (Called t c.args.asked ss) e f)) set c.is_subtype.ensures.words;
    } in
    IfOk-weaker c.mismatch_of.result _ _
    (λ o h. subst (λ b. TellsMismatch (turned_by b) t c.args.given c.args.asked o) (sym c.if-is_turned.true) (mismatch_told SubtypeCheck.Contravariant t c.args.given c.args.asked c.is_subtype.result checked o h)) c.mismatch_of.ensures

pub returns : goal.returns
returns c =
    let t = c.args.types.now in
    let checked : IsChecked SubtypeCheck.Covariant t c.args.given c.args.asked c.is_subtype-2.result = record {
      yes = on_ok c.is_subtype-2.result _ _ c.is_subtype-2.ensures.yes (λ h. h (subst (λ s. IsTrueOf t t s.keys) (sym c.new-checker.ensures.cache) (c.new_cache-cache.ensures.true_of_all t t)));
      no = c.is_subtype-2.ensures.no;
      frames = c.is_subtype-2.ensures.frames;
      words = subst (λ n. IfSaid c.is_subtype-2.result (λ ss e f. CalledUnder (direction_of n) (Called t c.args.given ss) (Called t c.args.asked ss) e f)) c.new-checker.ensures.none c.is_subtype-2.ensures.words;
    } in
    IfOk-weaker c.mismatch_of-2.result _ _
    (λ o h. subst (λ b. TellsMismatch (turned_by b) t c.args.given c.args.asked o) (sym c.if-is_turned.false) (mismatch_told SubtypeCheck.Covariant t c.args.given c.args.asked c.is_subtype-2.result checked o h)) c.mismatch_of-2.ensures
