use Rattle.std.proofs.Common.{List, ◌∷◌}
use Rattle.wac_types_base.specs.declared.item.ItemKind.{ItemKind}
use Rattle.wac_types_base.specs.Entries.{Name}
use Rattle.wac_types_fit.specs.Trees.{tree_in}
use Rattle.wac_graph_bytes.specs.Typing.{Worlds, Scope, Inside}
use Rattle.wac_graph_scopes.specs.Items.{IsInstanceAt}
use Rattle.wac_graph_scopes.specs.Imports.{WritesOn}
use Rattle.wac_graph_scopes.proofs.worlds.alias_types.Given as goal

abbrev pub invariant-loop-at : goal.invariant-loop-at
invariant-loop-at l = (w : Worlds) (outer : List Scope) (i : Inside) (imported exported : List Name) → WritesOn w l.all.types.now outer l.all.world i l.initial.scope imported exported
    → IsInstanceAt w (i.here ∷ outer) (tree_in l.all.types.now (ItemKind.Instance l.id)) l.instance → WritesOn w l.all.types.now outer l.all.world i l.scope imported exported
