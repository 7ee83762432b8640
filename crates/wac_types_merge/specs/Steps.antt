-- Single steps of an ask, inside the aggregator's own collection.
use Rattle.std.specs.Prelude.{◌≡◌, ◌≢◌, IsSome, is_some}
use Rattle.wac_types_base.specs.declared.item.ItemKind.{ItemKind}
use Rattle.wac_types_base.specs.Record.{Collection}
use Rattle.wac_types_base.specs.Entries.{Name}
use Rattle.wac_types_base.specs.Collection.{Stands}
use Rattle.wac_types_base.specs.Stated.{stated_of}
use Rattle.wac_types_names.specs.Tracks.{lookup_key}
use Rattle.wac_types_fit.specs.Trees.{tree_in}
use Rattle.wac_types_merge.specs.declared.family.Family.{Family}
use Rattle.wac_types_merge.specs.declared.family.Import.{Import}
use Rattle.wac_types_merge.specs.Families.{joint}
use Rattle.wac_types_merge.specs.Interfaces.{MeetIn, ClashIn}
use Rattle.wac_types_merge.specs.United.{KeepsUnited}
use Rattle.wac_types_merge.specs.Imports.{IsGreater, IsIdentified, NeitherFits, spelled_if, KeepsNarrower}

-- of one family, and no tree fits both
abbrev pub HasClash : Collection → Family → ItemKind → ItemKind → Type 0
HasClash c f a b = (f ≢ Family.Neither) × ClashIn c a b

-- of no one family, and neither fits the other
abbrev pub LieOutside : Collection → Family → ItemKind → ItemKind → Type 0
LieOutside c f a b = (f ≡ Family.Neither) × NeitherFits c a b

-- an import of d: j of c with its stated type, under the greater of two names
pub record IsSpelledImport (c : Collection) (old name : Name) (j : ItemKind) (f : Family) (d : Collection)
    (m : Import) : Type 0 where
  pub stands : Stands d m.kind
  pub tree : tree_in d m.kind ≡ tree_in c j
  pub greater : IsGreater old name m.name
  pub family : m.family ≡ f
  pub identified : IsSome (lookup_key name) → IsIdentified d m.kind m.name
  pub stated : stated_of d m.kind ≡ spelled_if (is_some (lookup_key name)) m.name (stated_of c j)

-- the import of d after an item of c is asked beside the import before, in this family
pub record IsMerged (c : Collection) (before : Import) (name : Name) (asked : ItemKind) (f : Family) (d : Collection)
    (after : Import) : Type 0 where
  pub kept : MeetIn c before.kind asked d after.kind
  pub greater : IsGreater before.name name after.name
  pub family : after.family ≡ joint before.family f
  pub united : (after.family ≡ Family.Neither → ⊥)
      → KeepsUnited (stated_of c before.kind) (stated_of c asked) name after.name (stated_of d after.kind)
  pub narrower : after.family ≡ Family.Neither
      → KeepsNarrower (stated_of c before.kind) (stated_of c asked) name after.name (stated_of d after.kind)
  pub identified : IsSome (lookup_key name) → IsIdentified d after.kind after.name
