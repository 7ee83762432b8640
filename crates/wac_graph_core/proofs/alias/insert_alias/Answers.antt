use Rattle.std.proofs.Common.{IsSome, [], ◌∷◌, not, ap, ◌∙◌, subst}
use Rattle.std.specs.FinMap as map
use Rattle.wac_graph_core.specs.Edges.{has}
use Rattle.wac_graph_core.proofs.Removal.{undone}
use Rattle.wac_graph_core.proofs.alias.insert_alias.Goals as goal

pub add_alias-requires-clause-free : goal.add_alias-requires-clause-free
add_alias-requires-clause-free c = λ i n m. absurd (cc (subst IsSome c.in_ok-id.ensures.free (c.requires.stand i c.in_ok-id.id n m)))

pub returns-in-Err-clause-kept : goal.returns-in-Err-clause-kept
returns-in-Err-clause-kept c = (
  c.remove_all.ensures ∙ ap (λ m. map.retain_keys m (λ k. not (has (c.in_ok-id.id ∷ []) k))) c.in_ok-id.ensures.added ∙ undone c.args.nodes.now c.in_ok-id.id c.args.node c.in_ok-id.ensures.free,
  c.in-Err.ensures.kept,
)
