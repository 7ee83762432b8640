use Rattle.std.proofs.Common.{sym, subst, ap, ◌∙◌}
use Rattle.std.specs.FinMap as finite
use Rattle.std.proofs.lemmas.Result.{err_from_is_err_and}
use Rattle.wac_types_base.specs.Collection.{IsAcyclic}
use Rattle.wac_graph_causes.specs.Unwritable.{TellsUnwritable, alias_cause_at, first_alias_cause}
use Rattle.wac_graph_causes.proofs.FirstCauses.{cause_next, cause_there, cause_nowhere}
use Rattle.wac_graph_causes.proofs.AliasCauses.{aliases_are}
use Rattle.wac_graph_causes.proofs.writable.check_aliases.Goals as goal

pub loop-node-init : goal.loop-node-init
loop-node-init c = (tt, tt, ap (first_alias_cause c.args.graph.now) (c.into_iter-node-iterator.ensures.into_iter_gives ∙ c.node_ids-node-items.ensures))

pub loop-node-preserved : goal.loop-node-preserved
loop-node-preserved c =
    let g = c.args.graph.now in (
      tt,
      tt,
      cause_next (alias_cause_at g) c.loop-node.node-iterator (finite.keys g.nodes) c.loop-node.invariant.2 c.in-Some.node c.next.new.self c.in-Some.ensures.steps c.in_ok-check_alias.ensures.none,
    )

pub returns-in_err-check_alias-clause-cause : goal.returns-in_err-check_alias-clause-cause
returns-in_err-check_alias-clause-cause c =
    let p = err_from_is_err_and c.from_residual.result c.from_residual.ensures.1 in
    let g = c.args.graph.now in
    rw p.1
    (subst (λ o. TellsUnwritable o p.0) (aliases_are g c.see_sound.ensures (subst IsAcyclic c.types.ensures c.see_acyclic.ensures))
    (cause_there (alias_cause_at g) c.loop-node.node-iterator (finite.keys g.nodes) c.loop-node.invariant.2 c.in-Some.node c.next.new.self p.0 c.in-Some.ensures.steps
    (subst (TellsUnwritable (alias_cause_at g c.in-Some.node)) (sym p.2) c.in_err-check_alias.ensures.cause)))

pub returns-clause-none : goal.returns-clause-none
returns-clause-none c =
    let g = c.args.graph.now in
    sym (aliases_are g c.see_sound.ensures (subst IsAcyclic c.types.ensures c.see_acyclic.ensures))
    ∙ cause_nowhere (alias_cause_at g) c.loop-node.node-iterator (finite.keys g.nodes) c.loop-node.invariant.2 c.in-None.ensures.steps.0
