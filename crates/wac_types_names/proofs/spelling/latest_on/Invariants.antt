use Rattle.std.proofs.Common.{map}
use Rattle.wac_types_names.specs.Spellings.{kept_track, place_view, IsBest}
use Rattle.wac_types_names.proofs.spelling.latest_on.Given as goal

abbrev pub invariant-loop-at : goal.invariant-loop-at
invariant-loop-at l = IsBest (map kept_track l.names) l.key l.at (place_view l.latest)
