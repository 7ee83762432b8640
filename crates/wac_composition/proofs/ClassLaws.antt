-- The class of an ask is what is linked to it.
use Rattle.std.proofs.Common.{List, length, sym, subst}
use Rattle.wac_types_base.specs.Graph.{Among}
use Rattle.wac_composition.specs.Asks.{Ask}
use Rattle.wac_composition.specs.Classes.{class, Linked, itself, joined_to, akin}
use Rattle.wac_composition.proofs.Closures.{reached, least, reached_next}
use Rattle.wac_composition.proofs.OuterClasses.{itself as joined_itself, turned, class_is, class_same, within, class_itself}

module _ {A : Type 0} (asks : List (Ask A)) where
  pub in_class_linked : (a b : Ask A) → Among a asks → Among b (class asks a) → Linked asks a b
  unfolding reached
  in_class_linked a b there m =
      least akin asks (Linked asks a) a itself (λ c d n l e. joined_to d c l n e) (length asks) b (subst (Among b) (class_is asks a) m)

  pub linked_in_class : (a b : Ask A) → Among a asks → Linked asks a b → Among b (class asks a)
  linked_in_class a b there itself = class_itself asks a there
  linked_in_class a d there (joined_to b c l n e) =
      let m = linked_in_class a b there l in
      subst (Among c) (sym (class_is asks a)) (reached_next akin asks joined_itself turned a c b there n (subst (Among b) (class_is asks a) m) e)

  pub links_turn : (a b : Ask A) → Among a asks → Linked asks a b → Linked asks b a
  links_turn a b there l =
      let m = linked_in_class a b there l in
      in_class_linked b a (within asks a b there m) (subst (Among a) (class_same asks a b there m) (class_itself asks a there))

  pub links_go_on : (a b c : Ask A) → Linked asks a b → Linked asks b c → Linked asks a c
  links_go_on a b c l itself = l
  links_go_on a b e l (joined_to c d k n j) = joined_to c d (links_go_on a b c l k) n j
