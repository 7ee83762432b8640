use Rattle.std.proofs.Common.{refl}
use Rattle.wac_types_merge.specs.Lists.{none_yet}
use Rattle.wac_types_merge.proofs.Listing.{nothing_merged, asked_merges}
use Rattle.wac_types_merge.proofs.laws.asks_merge_in_turn.Goals as goal

pub returns : goal.returns
returns c = record {
  none = λ n. nothing_merged (none_yet n) refl;
  one_more = λ asks a g h before after merged is. asked_merges asks g h a before merged is.grows after is;
}
