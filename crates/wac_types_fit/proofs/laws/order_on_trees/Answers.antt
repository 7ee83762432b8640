use Rattle.wac_types_fit.proofs.TreeLaws.{Fits-refl, Fits-trans, anti}
use Rattle.wac_types_fit.proofs.Ordering.{named_in_order}
use Rattle.wac_types_fit.proofs.laws.order_on_trees.Goals as goal

pub returns : goal.returns
returns c = record { itself = Fits-refl; joined = Fits-trans; both_ways = anti; in_order = named_in_order }
