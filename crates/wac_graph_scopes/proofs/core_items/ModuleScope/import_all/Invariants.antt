use Rattle.std.proofs.Common.{[], take}
use Rattle.wac_types_base.specs.Entries.{values_of}
use Rattle.wac_graph_scopes.specs.CoreItems.{AddsCores, OneFails}
use Rattle.wac_graph_scopes.proofs.core_items.ModuleScope.import_all.Given as goal

abbrev pub invariant-loop-at : goal.invariant-loop-at
invariant-loop-at l = AddsCores l.initial.self l.self (take l.at l.imports) [] × (OneFails (take l.at (values_of l.imports)) → ⊥)
