-- What is kept of the asks of one outer import, as they are taken one after another.
use Rattle.std.specs.Prelude.{◌≡◌, ◌↔◌, ◌≤◌, ◌⊎◌, Bool, true, false, IsTrue, List, [], ◌∷◌, ◌++◌, length, Option, Some, None}
use Rattle.std.specs.List.{list_all}
use Rattle.wac_types_base.specs.declared.item.ItemKind.{ItemKind}
use Rattle.wac_types_base.specs.Record.{Collection}
use Rattle.wac_types_base.specs.Entries.{Name}
use Rattle.wac_types_base.specs.Graph.{Among}
use Rattle.wac_types_base.specs.Collection.{Stands, IsAcyclic, Grows}
use Rattle.wac_types_base.specs.Stated.{stated_of}
use Rattle.wac_types_fit.specs.Trees.{tree_in}
use Rattle.wac_types_fit.specs.Meets.{IsPlain}
use Rattle.wac_types_merge.specs.declared.family.Family.{Family}
use Rattle.wac_types_merge.specs.Families.{UsesUnnamed, IsFamily, joint}
use Rattle.wac_types_merge.specs.Imports.{IsSpelled}
use Rattle.wac_types_merge.specs.Steps.{HasClash, LieOutside}
use Rattle.wac_composition.specs.Names.{has_track}
use Rattle.wac_composition.specs.Merging.{is_plain, is_wit, Asked, in_family, kept, identified}
use Rattle.wac_composition.specs.Again.{IsWell}
use Rattle.wac_merging.specs.Families.{NamesUses, family_stated}
use Rattle.wac_merging.specs.Merging.{IsKept}

-- an item asked under a name, by what it states
abbrev pub asked_as : Collection → Name → ItemKind → Asked
asked_as c n k = (n, stated_of c k)

-- all asks lie in this family, or in no one
abbrev pub HaveFamily : List Asked → Family → Type 0
HaveFamily asks Family.Plain = list_all (λ a. is_plain a.1) asks ≡ true
HaveFamily asks Family.Wit = list_all (λ a. is_wit a.0 a.1) asks ≡ true
HaveFamily asks Family.Neither = in_family asks ≡ false

-- an item of this family that stands; of none of the two families it may have a component or a module in it
pub record IsOfFamily (c : Collection) (n : Name) (k : ItemKind) (f : Family) : Type 0 where
  pub stands : Stands c k
  pub family : f ≡ family_stated n (stated_of c k)
  pub plain : (f ≡ Family.Neither → ⊥) → IsPlain (tree_in c k)
  pub well : IsWell (stated_of c k)

-- The item of c is what these asks keep. With no family they all ask it under one name, else they have the family.
abbrev pub FamilyTaken : Collection → List Asked → ItemKind → Option Family → Type 0
FamilyTaken c asks k None = (n : Name) × ((a : Asked) → Among a asks → a ≡ asked_as c n k)
FamilyTaken c asks k (Some f) = HaveFamily asks f × ((f ≡ Family.Neither → ⊥) → IsPlain (tree_in c k))

pub record IsTaken (c : Collection) (asks : List Asked) (several : Bool) (k : ItemKind) (f : Option Family) : Type 0 where
  pub stands : Stands c k
  pub kept : kept asks ≡ Some (stated_of c k)
  pub counted : IsTrue several ↔ (2 ≤ length asks)
  pub well : (a : Asked) → Among a asks → IsWell a.1
  pub family : FamilyTaken c asks k f

-- ---- the family of an ask

abbrev pub Asked_has_family : Type 0
Asked_has_family = (c : Collection) (n : Name) (k : ItemKind) (f : Family) → IsAcyclic c → Stands c k → IsWell (stated_of c k)
    → NamesUses c k → IsFamily c n k f → IsOfFamily c n k f

abbrev pub Unnamed_has_none : Type 0
Unnamed_has_none = (c : Collection) (n : Name) (k : ItemKind) → IsAcyclic c → Stands c k → IsWell (stated_of c k)
    → UsesUnnamed c k → IsOfFamily c n k Family.Neither

-- ---- one ask after another

-- the first ask is kept
abbrev pub First_is_taken : Type 0
First_is_taken = (c : Collection) (n : Name) (k : ItemKind) → Stands c k → IsWell (stated_of c k)
    → IsTaken c (asked_as c n k ∷ []) false k None

-- an ask of the same under the same name changes nothing
abbrev pub Again_is_taken : Type 0
Again_is_taken = (c : Collection) (asks : List Asked) (a : Asked) (several : Bool) (k : ItemKind) → Among a asks
    → IsTaken c asks several k None → IsTaken c (asks ++ a ∷ []) true k None

-- the family of one ask is that of all, while they all ask the same
abbrev pub One_family_is_all : Type 0
One_family_is_all = (c : Collection) (asks : List Asked) (several : Bool) (n : Name) (k : ItemKind) (f : Family)
    → Among (asked_as c n k) asks → IsOfFamily c n k f → IsTaken c asks several k None → IsTaken c asks several k (Some f)

-- what is kept of two, of the joint family, is what is kept of one ask more
abbrev pub Next_is_taken : Type 0
Next_is_taken = (c d : Collection) (asks : List Asked) (several : Bool) (n : Name) (k j r : ItemKind) (f g : Family)
    → IsAcyclic c → IsTaken c asks several k (Some f) → IsOfFamily c n j g → IsKept c (joint f g) k j d r
    → IsTaken d (asks ++ asked_as c n j ∷ []) true r (Some (joint f g))

-- where the two are refused the asks keep nothing, whatever is asked later
abbrev pub Refused_keeps_nothing : Type 0
Refused_keeps_nothing = (c : Collection) (asks later : List Asked) (several : Bool) (n : Name) (k j : ItemKind) (f g : Family)
    → IsAcyclic c → IsTaken c asks several k (Some f) → IsOfFamily c n j g
    → HasClash c (joint f g) k j ⊎ LieOutside c (joint f g) k j → kept (asks ++ asked_as c n j ∷ later) ≡ None

-- it stays so while the collection grows
abbrev pub Taken_stays : Type 0
Taken_stays = (c d : Collection) (asks : List Asked) (several : Bool) (k : ItemKind) (f : Option Family) → Grows c d
    → IsTaken c asks several k f → IsTaken d asks several k f

-- ---- the outer import

-- of one ask, or off the tracks, it states what is kept
abbrev pub Kept_is_identified : Type 0
Kept_is_identified = (c : Collection) (asks : List Asked) (several : Bool) (n : Name) (k : ItemKind) (f : Option Family)
    → IsTaken c asks several k f → (several ≡ false) ⊎ (has_track n ≡ false)
    → identified n asks (stated_of c k) ≡ stated_of c k

-- of several on a track it is spelled
abbrev pub Spelled_is_identified : Type 0
Spelled_is_identified = (c d : Collection) (asks : List Asked) (several : Bool) (n : Name) (k r : ItemKind) (f : Option Family)
    → IsAcyclic c → IsTaken c asks several k f → several ≡ true → has_track n ≡ true → IsSpelled c k d n r
    → identified n asks (stated_of c k) ≡ stated_of d r
