-- Which defined types a kind reaches, and marks that remember it.
use Rattle.std.specs.Prelude.{◌≡◌, ◌⊎◌, List, Option, Some, None}
use Rattle.wac_types_base.specs.declared.ids.DefinedTypeId.{DefinedTypeId}
use Rattle.wac_types_base.specs.declared.item.ItemKind.{ItemKind}
use Rattle.wac_types_base.specs.declared.item.ValueType.{ValueType}
use Rattle.wac_types_base.specs.declared.item.«Type».{«Type» as TypeKind}
use Rattle.wac_types_base.specs.Record.{Collection}
use Rattle.wac_types_base.specs.Graph.{Among}
use Rattle.wac_types_base.specs.Visiting.{defined_in, below}

-- the kind is this defined type, or reaches it by one that is below it
pub data Reaches (c : Collection) : ItemKind → DefinedTypeId → Type 0 where
  reaches_own : {k : ItemKind} {d : DefinedTypeId} → defined_in k ≡ Some d → Reaches c k d
  reaches_below : {k j : ItemKind} {d : DefinedTypeId} → Among (Some j) (below c k) → Reaches c j d → Reaches c k d

-- ---- marks: a set of defined types

abbrev pub Marked : List TypeKind → DefinedTypeId → Type 0
Marked marks d = Among (TypeKind.Value (ValueType.Defined d)) marks

abbrev pub MarkedOwn : List TypeKind → Option DefinedTypeId → Type 0
MarkedOwn marks None = ⊥
MarkedOwn marks (Some d) = Marked marks d

-- the defined type is marked, if it is one, and no other
pub record Marks (own : Option DefinedTypeId) (old new : List TypeKind) : Type 0 where
  pub kept : (d : DefinedTypeId) → Marked old d → Marked new d
  pub marked : (d : DefinedTypeId) → own ≡ Some d → Marked new d
  pub only : (d : DefinedTypeId) → Marked new d → Marked old d ⊎ (own ≡ Some d)

-- the kind is a marked defined type
pub record IsMarked (marks : List TypeKind) (k : ItemKind) : Type 0 where
  pub id : DefinedTypeId
  pub is : defined_in k ≡ Some id
  pub marked : Marked marks id

-- what a marked kind reaches is marked
abbrev pub IsClosed : Collection → List TypeKind → Type 0
IsClosed c marks = (k : ItemKind) (d : DefinedTypeId) → IsMarked marks k → Reaches c k d → Marked marks d

-- the marks grew by what the kind reaches, and by nothing else
pub record Gathers (c : Collection) (k : ItemKind) (old new : List TypeKind) : Type 0 where
  pub kept : (d : DefinedTypeId) → Marked old d → Marked new d
  pub reached : (d : DefinedTypeId) → Reaches c k d → Marked new d
  pub only : (d : DefinedTypeId) → Marked new d → Marked old d ⊎ Reaches c k d

-- no marked kind reaches this one
abbrev pub IsWithout : Collection → DefinedTypeId → List TypeKind → Type 0
IsWithout c wanted marks = (k : ItemKind) → IsMarked marks k → Reaches c k wanted → ⊥
