use Rattle.std.proofs.Common.{◌∷◌, [], subst, arith}
use Rattle.std.proofs.lemmas.Option.{slice_get_within}
use Rattle.std.proofs.lemmas.Result.{IfOk-weaker}
use Rattle.wac_graph_scopes.specs.Imports.{all_imports}
use Rattle.wac_graph_scopes.specs.UsePlaces.{UsePlaces}
use Rattle.wac_graph_scopes.proofs.OrderLaws.{same_item}
use Rattle.wac_graph_scopes.proofs.order.uses_of_import.Goals as goal

pub returns-in-Some : goal.returns-in-Some
returns-in-Some c =
    let import = c.in-Some.import in
    IfOk-weaker c.needs_of_item.result _ _
    (λ v u n k e. subst (λ j. UsePlaces c.args.all.types.now c.args.found.now (j ∷ []) v.items) (same_item (import.name.now, import.kind) (n, k) c.in-Some.ensures.entry e) u)
    c.needs_of_item.ensures

pub returns-in-None : goal.returns-in-None
returns-in-None c n k e = absurd (omega (arith, slice_get_within (all_imports c.args.all) c.args.at (n, k) e, c.in-None.ensures.none))
