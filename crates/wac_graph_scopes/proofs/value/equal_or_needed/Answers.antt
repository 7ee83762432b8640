use Rattle.std.proofs.lemmas.Result.{IfOk-weaker}
use Rattle.wac_graph_scopes.proofs.PlaceLaws.{if_none_map}
use Rattle.wac_graph_scopes.proofs.value.equal_or_needed.Goals as goal

pub returns-then-by_name-clause-none : goal.returns-then-by_name-clause-none
returns-then-by_name-clause-none c = IfOk-weaker c.equal_index.result _ _ (λ o f h. if_none_map o _ _ (λ differs same. absurd (differs same)) (f h)) c.equal_index.ensures.none
