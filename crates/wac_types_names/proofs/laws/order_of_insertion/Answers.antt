use Rattle.wac_types_names.proofs.TrackLaws.{order_ignored}
use Rattle.wac_types_names.proofs.laws.order_of_insertion.Goals as goal

pub returns : goal.returns
returns g c = order_ignored
