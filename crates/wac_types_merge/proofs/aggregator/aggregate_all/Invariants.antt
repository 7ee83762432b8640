use Rattle.std.proofs.Common.{◌≡◌, take}
use Rattle.wac_types_merge.specs.Lists.{Merges, AreAsked, none_yet, asks_of}
use Rattle.wac_types_merge.proofs.aggregator.aggregate_all.Given as goal

-- the asks so far, in a collection of the number given
abbrev pub invariant-loop-name : goal.invariant-loop-name
invariant-loop-name l = record {
  merged : Merges (asks_of (take l.name-index l.asks)) l.all;
  number : l.all.types.number ≡ l.number;
  asked : AreAsked (none_yet l.number) (asks_of (take l.name-index l.asks)) l.all;
}
