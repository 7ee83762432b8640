-- Merging and narrowing on ids are those of stated types.
use Rattle.std.specs.Prelude.{◌≡◌, ◌⊎◌, Option, Some, None}
use Rattle.wac_types_base.specs.declared.item.ItemKind.{ItemKind}
use Rattle.wac_types_base.specs.Record.{Collection}
use Rattle.wac_types_base.specs.Entries.{Name}
use Rattle.wac_types_base.specs.Collection.{Stands, IsAcyclic, Grows}
use Rattle.wac_types_base.specs.Stated.{Stated, kind_of, stated_of}
use Rattle.wac_types_fit.specs.Trees.{tree_in}
use Rattle.wac_types_fit.specs.Meets.{IsPlain}
use Rattle.wac_types_merge.specs.declared.family.Family.{Family}
use Rattle.wac_types_merge.specs.Interfaces.{MeetIn, ClashIn}
use Rattle.wac_types_merge.specs.Imports.{IsNarrower, NeitherFits, IsSpelled}
use Rattle.wac_types_merge.specs.Steps.{HasClash, LieOutside}
use Rattle.wac_types_merge.specs.United.{UnitesIn}
use Rattle.wac_composition.specs.Classes.{is_instance_kind}
use Rattle.wac_composition.specs.Merging.{merge, narrower, identified_by}
use Rattle.wac_composition.specs.Again.{IsWell}

-- two items that stand, neither with a component or a module in it
pub record AreMergeable (c : Collection) (a b : ItemKind) : Type 0 where
  pub acyclic : IsAcyclic c
  pub first : Stands c a
  pub second : Stands c b
  pub first_well : IsWell (stated_of c a)
  pub second_well : IsWell (stated_of c b)
  pub first_plain : IsPlain (tree_in c a)
  pub second_plain : IsPlain (tree_in c b)

-- what merging makes of them states what merging makes of what they state
abbrev pub Merged_is_stated : Type 0
Merged_is_stated =
    (c d : Collection) (a b k : ItemKind) → AreMergeable c a b → IsAcyclic d → MeetIn c a b d k → UnitesIn c a b d k
    → merge (stated_of c a) (stated_of c b) ≡ Some (stated_of d k)

-- where no tree fits both, merging makes nothing of what they state
abbrev pub Clash_is_stated : Type 0
Clash_is_stated =
    (c : Collection) (a b : ItemKind) → IsPlain (tree_in c a) → ClashIn c a b → merge (stated_of c a) (stated_of c b) ≡ None

abbrev pub Narrower_is_stated : Type 0
Narrower_is_stated =
    (c : Collection) (a b k : ItemKind) → IsNarrower c a b k → narrower (stated_of c a) (stated_of c b) ≡ Some (stated_of c k)

abbrev pub Outside_is_stated : Type 0
Outside_is_stated = (c : Collection) (a b : ItemKind) → NeitherFits c a b → narrower (stated_of c a) (stated_of c b) ≡ None

-- ---- by families

-- what is kept of two of this joint family
abbrev pub kept_by : Family → Stated → Stated → Option Stated
kept_by Family.Plain x y = merge x y
kept_by Family.Wit x y = merge x y
kept_by Family.Neither x y = narrower x y

-- k of d is kept of two of c
pub record IsKept (c : Collection) (f : Family) (a b : ItemKind) (d : Collection) (k : ItemKind) : Type 0 where
  pub meet : MeetIn c a b d k
  pub united : (f ≡ Family.Neither → ⊥) → UnitesIn c a b d k
  pub narrower : f ≡ Family.Neither → IsNarrower c a b k
  pub grows : Grows c d

-- two items that stand, of a family only where neither has a component or a module in it
pub record AreKeepable (c : Collection) (f : Family) (a b : ItemKind) : Type 0 where
  pub acyclic : IsAcyclic c
  pub first : Stands c a
  pub second : Stands c b
  pub first_well : IsWell (stated_of c a)
  pub second_well : IsWell (stated_of c b)
  pub first_plain : (f ≡ Family.Neither → ⊥) → IsPlain (tree_in c a)
  pub second_plain : (f ≡ Family.Neither → ⊥) → IsPlain (tree_in c b)

abbrev pub Kept_is_stated : Type 0
Kept_is_stated = (c d : Collection) (f : Family) (a b k : ItemKind) → AreKeepable c f a b → IsKept c f a b d k
    → kept_by f (stated_of c a) (stated_of c b) ≡ Some (stated_of d k)

abbrev pub Refused_is_stated : Type 0
Refused_is_stated = (c : Collection) (f : Family) (a b : ItemKind) → AreKeepable c f a b → HasClash c f a b ⊎ LieOutside c f a b
    → kept_by f (stated_of c a) (stated_of c b) ≡ None

-- ---- spellings

-- an instance under another identifier is made of its other parts; anything else stays
abbrev pub Spelled_is_stated : Type 0
Spelled_is_stated = (c d : Collection) (j k : ItemKind) (n : Name) → IsAcyclic c → Stands c j → IsSpelled c j d n k
    → stated_of d k ≡ identified_by (is_instance_kind (kind_of (stated_of c j))) n (stated_of c j)
