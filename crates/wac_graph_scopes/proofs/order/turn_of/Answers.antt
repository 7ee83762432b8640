use Rattle.std.proofs.Common.{inl, inr}
use Rattle.wac_graph_scopes.proofs.OrderLaws.{no_interface, has_interface}
use Rattle.wac_graph_scopes.proofs.order.turn_of.Goals as goal

pub returns-then-used-clause-only : goal.returns-then-used-clause-only
returns-then-used-clause-only c = inr (c.in_ok-used.ensures c.if-used.true)

pub returns-then-is_some-clause-only : goal.returns-then-is_some-clause-only
returns-then-is_some-clause-only c = inl (has_interface c.args.import.kind c.interface_of.result c.if-is_some.ensures c.interface_of.ensures.kind)

pub returns-then-matches-clause-early : goal.returns-then-matches-clause-early
returns-then-matches-clause-early c stands i = no_interface c.interface_of.result c.if-is_some.ensures c.interface_of.ensures.none stands i.0 i.1

pub returns-else-matches-clause-early : goal.returns-else-matches-clause-early
returns-else-matches-clause-early c stands i = no_interface c.interface_of.result c.if-is_some.ensures c.interface_of.ensures.none stands i.0 i.1
