use Rattle.std.proofs.lemmas.Result.{IfOk-weaker}
use Rattle.wac_graph_scopes.proofs.PlaceLaws.{found_none}
use Rattle.wac_graph_scopes.proofs.value.known_index.Goals as goal

pub returns-clause-none : goal.returns-clause-none
returns-clause-none c =
    let types = c.args.types.now in
    let s = c.args.scope.now in
    IfOk-weaker c.equal_or_needed.result _ _ (λ o f h. found_none types s.known c.args.id o _ (c.in_default.ensures.none types h.3.known.places) (f h)) c.equal_or_needed.ensures.none
