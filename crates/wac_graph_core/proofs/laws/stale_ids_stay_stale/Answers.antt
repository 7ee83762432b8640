use Rattle.wac_graph_core.proofs.PlaceSteps.{stale_is_gone, stale_for_good}
use Rattle.wac_graph_core.proofs.laws.stale_ids_stay_stale.Goals as goal

pub returns : goal.returns
returns c = λ g h id grow stale. let later = stale_for_good g h id grow stale in (later, stale_is_gone h id later)
