-- When each refusal comes.
use Rattle.std.specs.Prelude.{◌≡◌, List, Some, Result, Ok, Err}
use Rattle.wac_types_fit.specs.declared.error.SubtypeError.{SubtypeError}
use Rattle.wac_types_fit.specs.Frames.{Step}
use Rattle.wac_types_fit.specs.Errors.{steps_of}
use Rattle.wac_types_merge.specs.declared.error.AggregateError.{AggregateError}

-- what holds where the answer is a mismatch
abbrev pub IfClash : {T : Type 0} → Result T SubtypeError → Type 0 → Type 0
IfClash (Ok x) P = Unit {0}
IfClash (Err e) P = (ss : List Step) → steps_of e ≡ Some ss → P

-- what holds of the steps of a fault
abbrev pub IfLeads : {T : Type 0} → Result T SubtypeError → (List Step → Type 0) → Type 0
IfLeads (Ok x) P = Unit {0}
IfLeads (Err e) P = (ss : List Step) → steps_of e ≡ Some ss → P ss

-- what holds at each refusal: no common tree, outside the families, a used interface without identifier
abbrev pub Refuses : AggregateError → Type 0 → Type 0 → Type 0 → Type 0
Refuses (AggregateError.Incompatible f) P Q R = P
Refuses AggregateError.OutsideFamilies P Q R = Q
Refuses AggregateError.UsedWithoutIdentifier P Q R = R
Refuses AggregateError.Memory P Q R = Unit {0}

-- where there is no common tree, there are steps, of which this holds
abbrev pub LeadsTo : AggregateError → (List Step → Type 0) → Type 0
LeadsTo (AggregateError.Incompatible f) P = (ss : List Step) × (steps_of f ≡ Some ss) × P ss
LeadsTo AggregateError.OutsideFamilies P = Unit {0}
LeadsTo AggregateError.UsedWithoutIdentifier P = Unit {0}
LeadsTo AggregateError.Memory P = Unit {0}
