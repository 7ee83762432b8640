use Rattle.wac_types_names.proofs.TrackKeys.{tracks_end_keys}
use Rattle.wac_types_names.proofs.laws.tracks_end_lookup_keys.Goals as goal

pub returns : goal.returns
returns c = tracks_end_keys
