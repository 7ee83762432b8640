use Rattle.std.proofs.Common.{◌≡◌, drop}
use Rattle.std.specs.List.{list_all}
use Rattle.wac_composition.specs.Writable.{writable_core_type}
use Rattle.wac_writable.proofs.modules.are_writable_types.Given as goal

-- the rest decides
abbrev pub invariant-loop-ty : goal.invariant-loop-ty
invariant-loop-ty l = list_all writable_core_type l.types ≡ list_all writable_core_type (drop l.ty-index l.types)
