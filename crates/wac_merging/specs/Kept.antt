-- What calls that take asks leave, whatever was asked before.
use Rattle.std.specs.Prelude.{◌≡◌, List, [], ◌∷◌, ◌++◌, Some, None}
use Rattle.wac_types_base.specs.declared.item.ItemKind.{ItemKind}
use Rattle.wac_types_base.specs.Record.{Collection}
use Rattle.wac_types_base.specs.Entries.{Name}
use Rattle.wac_types_base.specs.Graph.{Among}
use Rattle.wac_types_base.specs.Collection.{Stands}
use Rattle.wac_types_base.specs.Stated.{stated_of}
use Rattle.wac_types_merge.specs.declared.error.AggregateError.{AggregateError}
use Rattle.wac_types_merge.specs.declared.family.Family.{Family}
use Rattle.wac_composition.specs.Merging.{Asked, kept, identified}
use Rattle.wac_composition.specs.Again.{IsWell}
use Rattle.wac_merging.specs.declared.kept.Kept.{Kept}
use Rattle.wac_merging.specs.Asking.{asked_as, IsOfFamily, IsTaken}
use Rattle.wac_merging.specs.Unmerged.{TellsUnmerged}

-- these asks keep it
abbrev pub Keeps : Collection → List Asked → Kept → Type 0
Keeps c asks k = IsTaken c asks k.several k.item k.family

-- the family of a well item
abbrev pub HasFamily : Collection → Name → ItemKind → Family → Type 0
HasFamily c n k f = IsWell (stated_of c k) → IsOfFamily c n k f

-- the first ask keeps its item
abbrev pub KeepsFirst : ItemKind → Kept → Type 0
KeepsFirst k first = (c : Collection) (n : Name) → Stands c k → IsWell (stated_of c k) → Keeps c (asked_as c n k ∷ []) first

-- the same ask again, while all ask the same, keeps it
abbrev pub KeepsAgain : Kept → Kept → Type 0
KeepsAgain before after = (c : Collection) (asks : List Asked) (a : Asked) → Among a asks → before.family ≡ None
    → Keeps c asks before → Keeps c (asks ++ a ∷ []) after

-- with its family, which is that of all asks where they all ask the same
abbrev pub KeepsWith : Kept → Family → Kept → Type 0
KeepsWith before f after = (c : Collection) (asks : List Asked) (n : Name) → before.family ≡ None
    → Among (asked_as c n before.item) asks → IsOfFamily c n before.item f → Keeps c asks before → Keeps c asks after

-- an item of this family asked next, whatever was asked before
abbrev pub KeepsNext : Collection → Kept → Family → (asked : ItemKind) (g : Family) → Collection → Kept → Type 0
KeepsNext c before f asked g d after = (asks : List Asked) (n : Name) → before.family ≡ Some f → IsOfFamily c n asked g
    → Keeps c asks before → Keeps d (asks ++ asked_as c n asked ∷ []) after

-- the same keeps nothing, whatever is asked later
abbrev pub KeepsNothing : Collection → Kept → Family → (asked : ItemKind) (g : Family) → Type 0
KeepsNothing c before f asked g = (asks later : List Asked) (n : Name) → before.family ≡ Some f → IsOfFamily c n asked g
    → Keeps c asks before → kept (asks ++ asked_as c n asked ∷ later) ≡ None

-- the error tells how it is apart from what is kept
abbrev pub TellsNext : Collection → Kept → Family → (asked : ItemKind) (g : Family) → AggregateError → Type 0
TellsNext c before f asked g e = (asks : List Asked) (n : Name) → before.family ≡ Some f → IsOfFamily c n asked g
    → Keeps c asks before → TellsUnmerged e asks (asked_as c n asked)

-- what is refused for no want of memory keeps nothing
abbrev pub IfMerging : AggregateError → Type 0 → Type 0
IfMerging AggregateError.Memory P = Unit {0}
IfMerging e P = P

-- under the spelling it states the outer import
abbrev pub Spells : Collection → Kept → Name → Collection → ItemKind → Type 0
Spells c k n d item = (asks : List Asked) → Keeps c asks k → stated_of d item ≡ identified n asks (stated_of c k.item)
