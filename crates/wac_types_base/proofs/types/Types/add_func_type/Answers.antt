use Rattle.wac_types_base.proofs.Adding.{IsAcyclic-add_func_type, Grows-add_func_type}
use Rattle.wac_types_base.proofs.types.Types.add_func_type.Goals as goal

pub invariant_of-self-2 : goal.invariant_of-self-2
invariant_of-self-2 c = rw c.in_ok-index.ensures.given (IsAcyclic-add_func_type _ _ _ c.self.invariant (rw c.self.view_is c.requires))

pub returns-clause-grows : goal.returns-clause-grows
returns-clause-grows c = rw (c.in_ok-index.ensures.given, ← c.self.view_is) (Grows-add_func_type _ _ _ c.self.invariant (rw c.self.view_is c.requires))
