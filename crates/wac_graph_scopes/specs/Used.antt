-- Types of interfaces that stand in a scope, by the interfaces' identifiers and by their names there.
use Rattle.std.specs.Prelude.{◌≡◌, ℕ, List, [], ◌∷◌, Option, Some, None, if◌then◌else◌, ◌==◌, ◌&&◌}
use Rattle.std.specs.Cmp.Lexicographic.{pointwise}
use Rattle.wac_types_base.specs.declared.item.ItemKind.{ItemKind}
use Rattle.wac_types_base.specs.Record.{Collection}
use Rattle.wac_types_base.specs.Entries.{Name}
use Rattle.wac_types_base.specs.Collection.{Stands}
use Rattle.wac_types_fit.specs.Trees.{SameTree}
use Rattle.wac_graph_scopes.specs.declared.used.UsedIndex.{UsedIndex}

-- identifier and name of each, and its item with its index
abbrev pub Used : Type 0
Used = List ((Name × Name) × UsedIndex)

-- the type under that identifier and that name
abbrev pub used_at : Used → Name → Name → Option UsedIndex
used_at [] i n = None
used_at (u ∷ us) i n = if pointwise ◌==◌ i u.0.0 && pointwise ◌==◌ n u.0.1 then Some u.1 else used_at us i n

-- the types with this one under the identifier and the name, in its place or last
abbrev pub put_used : Used → Name → Name → UsedIndex → Used
put_used [] i n v = ((i, n), v) ∷ []
put_used (u ∷ us) i n v = if pointwise ◌==◌ i u.0.0 && pointwise ◌==◌ n u.0.1 then (u.0, v) ∷ us else u ∷ put_used us i n v

-- under that identifier and that name there stands a type with the item's tree, and this is its index
pub record IsUsedAs (c : Collection) (us : Used) (i n : Name) (item : ItemKind) (k : ℕ) : Type 0 where
  pub there : UsedIndex
  pub found : used_at us i n ≡ Some there
  pub stands : Stands c there.item
  pub same : SameTree c there.item c item
  pub index : there.index ≡ k
