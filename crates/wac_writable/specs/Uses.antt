-- Uses of a component type that cannot be written.
use Rattle.std.specs.Prelude.{◌≡◌, ◌⊎◌, Bool, true, List, Some}
use Rattle.wac_types_base.specs.Entries.{Name}
use Rattle.wac_types_base.specs.Graph.{Among}
use Rattle.wac_types_base.specs.Stated.{Stated, Used, kind_of, uses_of, exports_of, identifier_of}
use Rattle.wac_composition.specs.Writable.{has_items}
use Rattle.wac_composition.specs.NotWritten.{Needs, IsImported, type_exports, ItemsFail}

-- an interface cannot be written with its types alone
abbrev pub TypesFail : Bool → Stated → Type 0
TypesFail outer x = (has_items (kind_of x) ≡ true) × ItemsFail outer (uses_of x) (type_exports x)

-- a used interface that no import gives: in an outer import it fails, elsewhere where its types do
abbrev pub AddedFails : Bool → Stated → Type 0
AddedFails outer x = (outer ≡ true) ⊎ TypesFail outer x

-- beside these imports
module _ (outer : Bool) (is : List (Name × Stated)) where
  pub record UseFails (u : Used) : Type 0 where
    pub name : Name
    pub named : identifier_of u.interface ≡ Some name
    pub missing : IsImported is name u → ⊥
    pub added : AddedFails outer u.interface

  -- a use fails that these uses and items need
  pub record SomeNeeded (us : List Used) (es : List (Name × Stated)) : Type 0 where
    pub one : Used
    pub needed : Needs us es one
    pub fails : UseFails one

  -- one that an item needs
  abbrev pub NeededBy : Stated → Type 0
  NeededBy x = (has_items (kind_of x) ≡ true) × SomeNeeded (uses_of x) (exports_of x)

  -- a use fails, or one that its interface needs
  abbrev pub FailsAt : Used → Type 0
  FailsAt u = UseFails u ⊎ NeededBy u.interface

  abbrev pub SomeUse : List Used → Type 0
  SomeUse us = (u : Used) × Among u us × FailsAt u

  abbrev pub SomeItem : List (Name × Stated) → Type 0
  SomeItem es = (n : Name) × (x : Stated) × Among (n, x) es × NeededBy x
