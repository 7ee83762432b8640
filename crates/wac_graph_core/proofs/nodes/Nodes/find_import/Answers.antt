use Rattle.std.proofs.Common.{◌≡◌, [], refl, inr, ◌∙◌}
use Rattle.wac_graph_core.specs.Nodes.{Role}
use Rattle.wac_graph_core.proofs.Gathering.{gathering_first, gathering_next, gathering_at, gathering_none}
use Rattle.wac_graph_core.proofs.nodes.Nodes.find_import.Goals as goal

pub loop-id-init : goal.loop-id-init
loop-id-init c = (tt, tt, gathering_first c.args.self.now _ [] _ refl (c.into_iter-id-iterator.ensures.into_iter_gives ∙ c.entries-id-items.ensures))

pub returns-then-is_import-clause-found : goal.returns-then-is_import-clause-found
returns-then-is_import-clause-found c = record {
  node = c.in-Some.node.now;
  there = gathering_at c.args.self.now _ [] c.in-Some.id c.in-Some.node.now _ _ c.in-Some.ensures.steps c.loop-id.invariant.2;
  role = c.is_import.ensures.0 c.if-is_import.true;
}

pub loop-id-preserved : goal.loop-id-preserved
loop-id-preserved c =
    let other : c.in-Some.node.now.role ≡ Role.Imported c.args.name.now → ⊥ = λ named. absurd (cc (c.is_import.ensures.1 named, c.if-is_import.false)) in
    (tt, tt, gathering_next c.args.self.now _ [] [] c.in-Some.id c.in-Some.node.now _ _ c.in-Some.ensures.steps (inr (other, refl)) c.loop-id.invariant.2)

pub returns-clause-none : goal.returns-clause-none
returns-clause-none c = λ k is. gathering_none c.args.self.now _ _ c.in-None.ensures.steps.0 c.loop-id.invariant.2 k is.node is.there is.role

pub returns-then-lacks_import-clause-none : goal.returns-then-lacks_import-clause-none
returns-then-lacks_import-clause-none c = c.lacks_import.ensures c.if-lacks_import.true
