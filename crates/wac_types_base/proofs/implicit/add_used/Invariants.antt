use Rattle.std.proofs.Common.{◌≡◌, drop}
use Rattle.wac_types_base.specs.Implicit.{by_identifier, used_interfaces, shown}
use Rattle.wac_types_base.proofs.implicit.add_used.Given as goal

-- the interfaces that are left make of the entries so far what all make of those at the start
abbrev pub invariant-loop-used : goal.invariant-loop-used
invariant-loop-used l = by_identifier l.types (shown l.fn.found.entries) (used_interfaces l.uses) ≡ by_identifier l.types (shown l.found.entries) (used_interfaces (drop l.used-index l.uses))
