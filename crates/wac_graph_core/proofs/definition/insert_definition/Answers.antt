use Rattle.std.proofs.Common.{IsSome, [], ◌∷◌, not, ap, ◌∙◌, subst}
use Rattle.std.proofs.lemmas.Bool.{false_from_ne_true}
use Rattle.std.specs.FinMap as map
use Rattle.wac_graph_core.specs.Edges.{has}
use Rattle.wac_graph_core.proofs.Removal.{undone}
use Rattle.wac_graph_core.proofs.definition.insert_definition.Goals as goal

pub add_dependencies-requires : goal.add_dependencies-requires
add_dependencies-requires c = false_from_ne_true (has c.args.sources.now c.in_ok-id.id) (λ h. absurd (cc (subst IsSome c.in_ok-id.ensures.free (c.requires c.in_ok-id.id h))))

pub returns-in-Err-clause-kept : goal.returns-in-Err-clause-kept
returns-in-Err-clause-kept c = (
  c.remove_all.ensures ∙ ap (λ m. map.retain_keys m (λ k. not (has (c.in_ok-id.id ∷ []) k))) c.in_ok-id.ensures.added ∙ undone c.args.nodes.now c.in_ok-id.id c.args.node c.in_ok-id.ensures.free,
  c.in-Err.ensures.kept,
)
