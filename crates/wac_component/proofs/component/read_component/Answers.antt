use Rattle.std.proofs.Common.{◌≡◌, ℕ, ◌-◌, ◌≤◌, List, [], length, map, Ok, Err, sym, ap, ◌∙◌, arith}
use Rattle.wac_component.specs.declared.fault.Fault.{Fault}
use Rattle.wac_component.specs.declared.fault.ReadError.TheVariants as errors
use Rattle.wac_component.specs.Entries.{Section}
use Rattle.wac_component.specs.Sections.{component}
use Rattle.wac_component.specs.Components.{IsComponent, IsFirstFault}
use Rattle.wac_component.specs.Views.{section_view}
use Rattle.wac_component.proofs.Steps.{inside}
use Rattle.wac_component.proofs.Laws.{component_exact}
use Rattle.wac_component.proofs.component.read_component.Goals as goal

is_read : (bytes : List ℕ) (sections : List Section) → component.read bytes ≡ Ok (sections, [])
    → IsComponent bytes sections × ((others : List Section) → IsComponent bytes others → others ≡ sections)
is_read bytes sections e =
    (component_exact.sound bytes sections [] e, λ others h. ap (λ p. p.0) (inside (sym (component_exact.complete bytes others [] h) ∙ e)))

is_refused : (bytes : List ℕ) (f : Fault) → component.read bytes ≡ Err f → (sections : List Section) → IsComponent bytes sections → ⊥
is_refused bytes f e sections h = let c = sym e ∙ component_exact.complete bytes sections [] h in cc

pub returns-in-Ok-clause-read : goal.returns-in-Ok-clause-read
returns-in-Ok-clause-read c = is_read c.args.bytes.now (map section_view c.in-Ok.sections.items) c.in-Ok.ensures

pub returns-in-Err-Fault-clause-read : goal.returns-in-Err-Fault-clause-read
returns-in-Err-Fault-clause-read c = is_refused c.args.bytes.now c.in-Err-Fault.fault (rw c.in-Err-Fault.field-0-is at c.in-Err-Fault.ensures)

-- a fault stands in the bytes
is_inside : (bytes : List ℕ) (f : Fault) → component.read bytes ≡ Err f → f.left ≤ length bytes
is_inside bytes f e = component_exact.stays.faults bytes f e

is_first : (bytes : List ℕ) (f : Fault) → component.read bytes ≡ Err f → IsFirstFault bytes (errors.Refused (length bytes - f.left) f.kind)
is_first bytes f e = let le = is_inside bytes f e in (f.left, e, omega (arith, le))

pub overflow_sub-result : goal.overflow_sub-result
overflow_sub-result c = is_inside c.args.bytes.now c.in-Err-Fault.fault (rw c.in-Err-Fault.field-0-is at c.in-Err-Fault.ensures)

pub returns-in-Err-Fault-clause-fault : goal.returns-in-Err-Fault-clause-fault
returns-in-Err-Fault-clause-fault c = is_first c.args.bytes.now c.in-Err-Fault.fault (rw c.in-Err-Fault.field-0-is at c.in-Err-Fault.ensures)
