use Rattle.std.proofs.Common.{◌≡◌, length}
use Rattle.wac_types_base.specs.Entries.{texts_of}
use Rattle.wac_graph_core.specs.Listing.{passed_list}
use Rattle.wac_graph_core.proofs.iter.ArgumentIterIterator.next.Given as goal

-- only names were passed over to which nothing is passed
abbrev pub invariant-loop-name : goal.invariant-loop-name
invariant-loop-name l =
    passed_list l.self-inside.edges.now l.self-inside.instantiation (texts_of l.self-inside.names.now) ≡ l.fn.self

abbrev pub decreases-loop-name : goal.decreases-loop-name
decreases-loop-name l = length l.self-inside.names.now
