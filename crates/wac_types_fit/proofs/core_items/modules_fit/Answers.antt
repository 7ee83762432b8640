use Rattle.wac_types_fit.proofs.Checks.{on_ok}
use Rattle.wac_types_fit.proofs.CoreItems.{modules_fit, import_lacks, export_lacks}
use Rattle.std.proofs.Common.{inl, inr}
use Rattle.std.proofs.lemmas.Result.{err_from_is_err_and}
use Rattle.wac_types_fit.specs.Words.{CoreCalled}
use Rattle.wac_types_fit.proofs.Worded.{called_as, called_turned}
use Rattle.wac_types_fit.proofs.core_items.modules_fit.Goals as goal

pub returns-in_err-imports_fit-clause-no : goal.returns-in_err-imports_fit-clause-no
returns-in_err-imports_fit-clause-no c =
    let p = err_from_is_err_and c.from_residual.result c.from_residual.ensures.1 in
    rw (p.1, p.2) (λ ss e. import_lacks c.args.given.now c.args.asked.now c.see_distinct.ensures.imports c.see_distinct.ensures.exports c.see_distinct-2.ensures.imports c.see_distinct-2.ensures.exports ss (c.in_err-imports_fit.ensures.no ss e))

pub returns-in_err-imports_fit-clause-words : goal.returns-in_err-imports_fit-clause-words
returns-in_err-imports_fit-clause-words c =
    let p = err_from_is_err_and c.from_residual.result c.from_residual.ensures.1 in
    rw (p.1, p.2) (λ ss e f said. called_as c.args.turned _ (CoreCalled c.args.given.now ss) _ (CoreCalled c.args.asked.now ss) e f (λ w x. inl x) (λ w x. inl x)
    (called_turned c.args.turned _ _ e f (c.in_err-imports_fit.ensures.words ss e f said)))

pub returns-clause-yes : goal.returns-clause-yes
returns-clause-yes c = on_ok c.exports_fit.result _ _ c.exports_fit.ensures.yes (modules_fit c.args.given.now c.args.asked.now c.see_distinct.ensures.imports c.see_distinct.ensures.exports c.see_distinct-2.ensures.imports c.see_distinct-2.ensures.exports c.in_ok-imports_fit.ensures.yes)

pub returns-clause-no : goal.returns-clause-no
returns-clause-no c ss e = export_lacks c.args.given.now c.args.asked.now c.see_distinct.ensures.imports c.see_distinct.ensures.exports c.see_distinct-2.ensures.imports c.see_distinct-2.ensures.exports ss (c.exports_fit.ensures.no ss e)

pub returns-clause-words : goal.returns-clause-words
returns-clause-words c ss e f said =
    called_as c.args.turned _ (CoreCalled c.args.given.now ss) _ (CoreCalled c.args.asked.now ss) e f (λ w x. inr x) (λ w x. inr x) (c.exports_fit.ensures.words ss e f said)
