use Rattle.std.proofs.Common.{◌≡◌, drop}
use Rattle.wac_types_base.specs.Implicit.{by_identifier, all_uses, shown}
use Rattle.wac_types_base.proofs.implicit.add_used_by.Given as goal

-- the instances that are left make of the entries so far what all make of those at the start
abbrev pub invariant-loop-kind : goal.invariant-loop-kind
invariant-loop-kind l = by_identifier l.types (shown l.fn.found.entries) (all_uses l.types l.imports) ≡ by_identifier l.types (shown l.found.entries) (all_uses l.types (drop l.kind-index l.imports))
