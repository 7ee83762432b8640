use Rattle.std.proofs.Common.{◌∷◌, [], ◌++◌, Some, sym, ap, ◌∙◌}
use Rattle.wac_types_base.specs.declared.core_types.CoreExtern.TheVariants as extern
use Rattle.wac_types_base.specs.declared.core_types.CoreFuncType.{CoreFuncType}
use Rattle.std.specs.Prelude.{Option}
use Rattle.wac_graph_bytes.specs.Typing.{◌>>=◌}
use Rattle.std.proofs.lemmas.Result.{err_from_is_err_and}
use Rattle.wac_graph_bytes.proofs.Steps.{get_last}
use Rattle.wac_graph_scopes.proofs.CoreRefusals.{tag_refused}
use Rattle.wac_graph_scopes.proofs.core_items.ModuleScope.describe.Goals as goal

pub returns-in_ok-index-in-Func-clause-written : goal.returns-in_ok-index-in-Func-clause-written
returns-in_ok-index-in-Func-clause-written c sigs is es h =
    let f = c.in-Func.func in
    let a = c.in_ok-index-in-Func.ensures.written sigs is es h in
    (sigs ++ f ∷ [], a.0, ap (λ (o : Option CoreFuncType). o >>= λ g. Some (extern.Func g)) (get_last sigs f c.in_ok-index-in-Func.index a.1) ∙ ap Some (sym c.in-Func.is))

pub returns-in_ok-index-in-Tag-clause-written : goal.returns-in_ok-index-in-Tag-clause-written
returns-in_ok-index-in-Tag-clause-written c sigs is es h =
    let f = c.in-Tag.func in
    let a = c.in_ok-index-in-Tag.ensures.written sigs is es h in
    (sigs ++ f ∷ [], a.0, ap (λ (o : Option CoreFuncType). o >>= λ g. Some (extern.Tag g)) (get_last sigs f c.in_ok-index-in-Tag.index a.1) ∙ ap Some (sym c.in-Tag.is))

pub returns-in_err-index-in-Tag-clause-refused : goal.returns-in_err-index-in-Tag-clause-refused
returns-in_err-index-in-Tag-clause-refused c =
    let p = err_from_is_err_and c.from_residual-in_err-index-in-Tag.result c.from_residual-in_err-index-in-Tag.ensures.1 in
    rw (p.1, p.2) (tag_refused c.in-Tag.func c.args.item.now c.in_err-index-in-Tag.field-0.0 c.in-Tag.is c.in_err-index-in-Tag.ensures.refused)
