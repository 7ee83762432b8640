use Rattle.std.proofs.Common.{◌≡◌, length}
use Rattle.std.specs.List.{zip}
use Rattle.wac_types_base.specs.Entries.{texts_of}
use Rattle.wac_graph_core.specs.Imports.{unbound_list}
use Rattle.wac_graph_core.proofs.imports.UnboundIterIterator.next.Given as goal

-- only imports were passed over that have an argument
abbrev pub invariant-loop-name : goal.invariant-loop-name
invariant-loop-name l =
    unbound_list l.self-inside.edges.now l.self-inside.instantiation (zip (texts_of l.self-inside.names.now) l.self-inside.kinds.now) ≡ l.fn.self

abbrev pub decreases-loop-name : goal.decreases-loop-name
decreases-loop-name l = length l.self-inside.names.now
