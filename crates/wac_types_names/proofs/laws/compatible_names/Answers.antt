use Rattle.wac_types_names.proofs.TrackLaws.{compatible_itself, compatible_turned, compatible_joined}
use Rattle.wac_types_names.proofs.laws.compatible_names.Goals as goal

pub returns : goal.returns
returns c = record { itself = compatible_itself; turned = compatible_turned; joined = compatible_joined }
