use Rattle.std.proofs.Common.{◌≡◌, []}
use Rattle.wac_types_base.specs.declared.item.ItemKind.{ItemKind}
use Rattle.wac_graph_core.specs.Nodes.{Role}
use Rattle.wac_graph_core.proofs.Gathering.{IsGathering}
use Rattle.wac_graph_core.proofs.nodes.Nodes.search_definition.Given as goal

-- no definition of the type was among the nodes so far
abbrev pub invariant-loop-id : goal.invariant-loop-id
invariant-loop-id l =
    (goal.iterator-loop-id).can_next l.id-iterator
    × (goal.iterator-loop-id).is_finite l.id-iterator
    × IsGathering l.self (λ x. (x.role ≡ Role.Defined) × (x.item_kind ≡ ItemKind.Ty l.ty)) [] l.id-iterator
