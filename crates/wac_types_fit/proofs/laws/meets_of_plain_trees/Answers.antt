use Rattle.wac_types_fit.proofs.Meeting.{plain_meets, meet_unique, meet_more}
use Rattle.wac_types_fit.proofs.laws.meets_of_plain_trees.Goals as goal

pub returns : goal.returns
returns c = record { there_is_one = plain_meets; at_most_one = meet_unique; one_more = meet_more }
