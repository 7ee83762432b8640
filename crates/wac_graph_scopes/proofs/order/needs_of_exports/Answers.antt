use Rattle.std.proofs.Common.{◌++◌, sym, subst, ◌∙◌}
use Rattle.std.proofs.lemmas.List.{length-map}
use Rattle.std.proofs.lemmas.Result.{IfOk-weaker}
use Rattle.wac_types_base.specs.Entries.{names_of}
use Rattle.wac_graph_scopes.specs.Imports.{all_exports, own_places, FindsFirst}
use Rattle.wac_graph_scopes.proofs.order.needs_of_exports.Goals as goal

pub returns-clause-len : goal.returns-clause-len
returns-clause-len c = IfOk-weaker c.needs_found.result _ _ (λ v h. sym (length-map v.items _) ∙ h.0) c.needs_found.ensures

pub returns-clause-uses : goal.returns-clause-uses
returns-clause-uses c =
    let found = c.add_export_places.new.found in
    let own = own_places 0 (names_of (all_exports c.args.all)) in
    IfOk-weaker c.needs_found.result _ _
    (λ v h. (found, subst (λ l. FindsFirst found (l ++ own)) c.new-found.ensures c.in_ok-add_export_places.ensures.found, h)) c.needs_found.ensures
