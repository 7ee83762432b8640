use Rattle.std.proofs.Common.{◌∙◌, subst}
use Rattle.std.proofs.lemmas.Result.{err_from_is_err_and}
use Rattle.wac_graph_scopes.specs.CoreItems.{TypesRefused}
use Rattle.wac_graph_scopes.proofs.CoreLaws.{signature_added}
use Rattle.wac_graph_scopes.proofs.CoreRefusals.{params_refused, results_refused, spoken_signature}
use Rattle.wac_graph_scopes.proofs.core_items.ModuleScope.signature.Goals as goal

pub returns-clause-written : goal.returns-clause-written
returns-clause-written c sigs is es h =
    signature_added c.args.self.now (record c.args.self.now { declarations = c.push.new.self; signatures = c.next_of-self.result }) sigs is es h c.in_ok-params.params c.in_ok-results.results c.args.func.now
    c.in_ok-push.ensures.items c.next_of-self.ensures (c.in_ok-params.ensures.written ∙ c.as_slice.ensures) (c.in_ok-results.ensures.written ∙ c.as_slice-2.ensures)

pub returns-in_err-params-clause-refused : goal.returns-in_err-params-clause-refused
returns-in_err-params-clause-refused c =
    let p = err_from_is_err_and c.from_residual.result c.from_residual.ensures.1 in
    let e = c.in_err-params.field-0.0 in
    rw (p.1, p.2) (params_refused c.args.func.now e (subst (λ l. TypesRefused l e) c.as_slice.ensures c.in_err-params.ensures.refused))

pub returns-in_err-results-clause-refused : goal.returns-in_err-results-clause-refused
returns-in_err-results-clause-refused c =
    let p = err_from_is_err_and c.from_residual-in_err-results.result c.from_residual-in_err-results.ensures.1 in
    let e = c.in_err-results.field-0.0 in
    rw (p.1, p.2) (results_refused c.args.func.now e (subst (λ l. TypesRefused l e) c.as_slice-2.ensures c.in_err-results.ensures.refused))

pub returns-clause-spoken : goal.returns-clause-spoken
returns-clause-spoken c =
    spoken_signature c.args.func.now c.in_ok-params.params.items c.in_ok-results.results.items (c.in_ok-params.ensures.written ∙ c.as_slice.ensures) (c.in_ok-results.ensures.written ∙ c.as_slice-2.ensures)
