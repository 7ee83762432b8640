use Rattle.std.proofs.Common.{◌≡◌, [], refl, inr, ◌∙◌}
use Rattle.wac_types_base.specs.declared.item.ItemKind.{ItemKind}
use Rattle.wac_graph_core.specs.Nodes.{Role}
use Rattle.wac_graph_core.proofs.Gathering.{gathering_first, gathering_next, gathering_at, gathering_none}
use Rattle.wac_graph_core.proofs.nodes.Nodes.search_definition.Goals as goal

pub loop-id-init : goal.loop-id-init
loop-id-init c = (tt, tt, gathering_first c.args.self.now _ [] _ refl (c.into_iter-id-iterator.ensures.into_iter_gives ∙ c.entries-id-items.ensures))

pub returns-then-is_definition-clause-found : goal.returns-then-is_definition-clause-found
returns-then-is_definition-clause-found c =
    let own = c.is_definition.ensures.0 c.if-is_definition.true in
    record {
      node = c.in-Some.node.now;
      there = gathering_at c.args.self.now _ [] c.in-Some.id c.in-Some.node.now _ _ c.in-Some.ensures.steps c.loop-id.invariant.2;
      role = own.0;
      type = own.1;
    }

pub loop-id-preserved : goal.loop-id-preserved
loop-id-preserved c =
    let other : (c.in-Some.node.now.role ≡ Role.Defined) × (c.in-Some.node.now.item_kind ≡ ItemKind.Ty c.args.ty) → ⊥ = λ own. absurd (cc (c.is_definition.ensures.1 own, c.if-is_definition.false)) in
    (tt, tt, gathering_next c.args.self.now _ [] [] c.in-Some.id c.in-Some.node.now _ _ c.in-Some.ensures.steps (inr (other, refl)) c.loop-id.invariant.2)

pub returns-clause-none : goal.returns-clause-none
returns-clause-none c = λ k is. gathering_none c.args.self.now _ _ c.in-None.ensures.steps.0 c.loop-id.invariant.2 k is.node is.there (is.role, is.type)
