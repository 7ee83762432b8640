use Rattle.wac_types_base.proofs.Adding.{IsAcyclic-add_module_type, Grows-add_module_type}
use Rattle.wac_types_base.proofs.types.Types.add_module_type.Goals as goal

pub invariant_of-self-2 : goal.invariant_of-self-2
invariant_of-self-2 c = rw c.in_ok-index.ensures.given (IsAcyclic-add_module_type _ _ _ c.self.invariant)

pub returns-clause-grows : goal.returns-clause-grows
returns-clause-grows c = rw (c.in_ok-index.ensures.given, ← c.self.view_is) (Grows-add_module_type _ _ _ c.self.invariant)
