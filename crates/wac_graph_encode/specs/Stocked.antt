-- What stands in a scope of written types, as a holder has it; and what is refused there.
use Rattle.std.specs.Prelude.{◌≡◌, Bool, false, IsSome}
use Rattle.wac_types_base.specs.declared.item.ItemKind.{ItemKind}
use Rattle.wac_types_base.specs.Record.{Collection}
use Rattle.wac_types_base.specs.Entries.{Name, value_at}
use Rattle.wac_types_base.specs.Graph.{Among}
use Rattle.wac_types_base.specs.Collection.{Stands, IsAcyclic}
use Rattle.wac_types_base.specs.Stated.{Stated, IsValueType, kind_of, untyped, stated_of}
use Rattle.wac_types_base.specs.Tree.{tree}
use Rattle.wac_composition.specs.Writable.{Holder, is_fresh}
use Rattle.wac_composition.specs.NotWritten.{IsGiven, CannotBeWritten}
use Rattle.wac_graph_scopes.specs.declared.error.WriteError.{WriteError}
use Rattle.wac_graph_scopes.specs.declared.scope.TypeScope.{TypeScope}
use Rattle.wac_graph_scopes.specs.declared.items.ItemScope.{ItemScope}
use Rattle.wac_graph_scopes.specs.Known.{HasTree}
use Rattle.wac_graph_scopes.specs.Scopes.{IsScopeOf}
use Rattle.wac_graph_scopes.specs.ItemRefusals.{RefusedItem}
use Rattle.wac_writable.specs.Items.{IsSimple}

-- Each root name of the holder has an index in the scope, and each value type that is used there is a type with a name.
pub record Stocks (c : Collection) (s : TypeScope) (h : Holder) : Type 0 where
  pub roots : (n : Name) → Among n h.roots → IsSome (value_at s.resources n)
  pub used : (n : Name) (x : Stated) → Among (n, x) h.used → kind_of x ≡ IsValueType → HasTree c s.known.all.items (tree (untyped x))

-- the item is written by itself: it is of no interface and of no world, no resource under its own name, and no use gives it
pub record IsWrittenAlone (c : Collection) (h : Holder) (n : Name) (k : ItemKind) : Type 0 where
  pub simple : IsSimple k
  pub not_fresh : is_fresh (n, stated_of c k) ≡ false
  pub not_given : IsGiven h n (stated_of c k) → ⊥

-- What could not be written in a scope that stocks a holder cannot be written in the holder.
abbrev pub Refused_is_unwritable : Type 0
Refused_is_unwritable = (c : Collection) (s u : ItemScope) (h : Holder) → IsAcyclic c → IsScopeOf c s.types → Stocks c s.types h
    → u.types.resources ≡ s.types.resources
    → (outer : Bool) (n : Name) (k : ItemKind) → Stands c k → IsWrittenAlone c h n k → RefusedItem c k s u WriteError.Unwritable
    → CannotBeWritten outer h n (stated_of c k)
