use Rattle.std.proofs.Common.{take}
use Rattle.wac_types_base.specs.Entries.{with_values}
use Rattle.wac_types_base.specs.Stated.{stated_of}
use Rattle.wac_graph_plug.specs.Plugging.{AreMatchesOf}
use Rattle.wac_graph_plug.proofs.matching.matches_of.Given as goal

-- the matches of the exports so far
abbrev pub invariant-loop-at : goal.invariant-loop-at
invariant-loop-at l =
    AreMatchesOf (with_values (stated_of l.types) l.imports) (with_values (stated_of l.types) (take l.at l.exports)) l.found.items
