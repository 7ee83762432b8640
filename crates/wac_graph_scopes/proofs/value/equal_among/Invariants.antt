use Rattle.std.proofs.Common.{◌<◌, ℕ}
use Rattle.wac_types_base.specs.declared.item.ItemKind.{ItemKind}
use Rattle.wac_types_fit.specs.Trees.{tree_in}
use Rattle.wac_graph_scopes.specs.Known.{DiffersAt}
use Rattle.wac_graph_scopes.proofs.value.equal_among.Given as goal

-- each that is known so far differs
abbrev pub invariant-loop-at : goal.invariant-loop-at
invariant-loop-at l = (n : ℕ) → n < l.at → DiffersAt l.types l.scope.known.all.items (tree_in l.types (ItemKind.Value l.ty)) n
