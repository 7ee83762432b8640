use Rattle.std.proofs.Common.{sym, subst}
use Rattle.wac_graph_scopes.specs.ItemRefusals.{RefusedUse}
use Rattle.wac_graph_scopes.proofs.RefusedLaws.{if_err_map}
use Rattle.wac_graph_scopes.proofs.imports.ImportScope.alias_noted.Goals as goal

pub returns-in-Some-clause-refused : goal.returns-in-Some-clause-refused
returns-in-Some-clause-refused c =
    let u = c.args.used in
    if_err_map c.alias_taken.result (λ e h un. (c.in-Some.item, sym c.in-Some.ensures.value, subst (RefusedUse c.args.all.types.now u) un h)) c.alias_taken.ensures.refused
