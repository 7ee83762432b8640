use Rattle.std.proofs.Common.{◌≡◌, drop}
use Rattle.wac_types_fit.specs.Checking.{import_at}
use Rattle.wac_types_fit.proofs.core_items.import_of.Given as goal

-- the imports passed have other names
abbrev pub invariant-loop-at : goal.invariant-loop-at
invariant-loop-at l = import_at l.imports (l.from, l.name) ≡ import_at (drop l.at l.imports) (l.from, l.name)
