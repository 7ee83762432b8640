use Rattle.wac_types_names.proofs.TrackLaws.{one_name}
use Rattle.wac_types_names.proofs.laws.one_name_a_version.Goals as goal

pub returns : goal.returns
returns c = one_name
