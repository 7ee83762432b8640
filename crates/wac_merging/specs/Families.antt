-- The families of asks on ids are those of stated types.
use Rattle.std.specs.Prelude.{◌≡◌, Bool, true, false}
use Rattle.wac_types_base.specs.declared.item.ItemKind.{ItemKind}
use Rattle.wac_types_base.specs.Record.{Collection}
use Rattle.wac_types_base.specs.Entries.{Name}
use Rattle.wac_types_base.specs.Collection.{Stands, IsAcyclic}
use Rattle.wac_types_base.specs.Stated.{Stated, stated_of}
use Rattle.wac_types_merge.specs.declared.family.Family.{Family}
use Rattle.wac_types_merge.specs.Families.{UsesUnnamed, IsFamily}
use Rattle.wac_composition.specs.Merging.{is_plain, is_wit}

abbrev pub family_by : (plain wit : Bool) → Family
family_by true w = Family.Plain
family_by false true = Family.Wit
family_by false false = Family.Neither

-- the family of what is asked under a name
abbrev pub family_stated : Name → Stated → Family
family_stated n x = family_by (is_plain x) (is_wit n x)

-- the uses of an instance have identifiers
abbrev pub NamesUses : Collection → ItemKind → Type 0
NamesUses c (ItemKind.Instance i) = UsesUnnamed c (ItemKind.Instance i) → ⊥
NamesUses c k = Unit {0}

-- of an item whose uses have identifiers the families are the same
abbrev pub Family_is_stated : Type 0
Family_is_stated = (c : Collection) (n : Name) (k : ItemKind) (f : Family) → IsAcyclic c → Stands c k → NamesUses c k
    → IsFamily c n k f → f ≡ family_stated n (stated_of c k)

-- one that uses an interface without identifier states what is of no family
abbrev pub Unnamed_is_of_none : Type 0
Unnamed_is_of_none = (c : Collection) (n : Name) (k : ItemKind) → IsAcyclic c → Stands c k → UsesUnnamed c k
    → family_stated n (stated_of c k) ≡ Family.Neither
