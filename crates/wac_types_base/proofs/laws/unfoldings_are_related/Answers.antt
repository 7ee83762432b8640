use Rattle.wac_types_base.specs.Collection.{IsAcyclic, depth, item_node, unfolding_of}
use Rattle.wac_types_base.proofs.Relation.{unfolds_within, whole_unfolds}
use Rattle.wac_types_base.proofs.laws.unfoldings_are_related.Goals as goal

pub returns-clause-found : goal.returns-clause-found
unfolding unfolding_of
returns-clause-found c x k t e = whole_unfolds (item_node x) (depth x) k t e

pub returns-clause-all : goal.returns-clause-all
unfolding unfolding_of IsAcyclic
returns-clause-all c x k t acyclic h = unfolds_within (item_node x) (depth x) acyclic k t h
