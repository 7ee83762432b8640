use Rattle.wac_composition.proofs.ClassLaws.{in_class_linked, linked_in_class, links_turn, links_go_on}
use Rattle.wac_composition.proofs.classes_are_linked.Goals as goal

pub returns-clause-linked : goal.returns-clause-linked
returns-clause-linked c s = λ asks a b there. (λ m. in_class_linked asks a b there m, λ l. linked_in_class asks a b there l)

pub returns-clause-turned : goal.returns-clause-turned
returns-clause-turned c s = links_turn

pub returns-clause-through : goal.returns-clause-through
returns-clause-through c s = links_go_on
