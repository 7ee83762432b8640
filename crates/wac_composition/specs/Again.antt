-- Stated types as collections have them, and what asking twice does.
use Rattle.std.specs.Prelude.{◌≡◌, ◌↔◌, List, ◌∷◌, ◌++◌, Some, false}
use Rattle.wac_types_base.specs.Entries.{Name, AreDistinct, names_of}
use Rattle.wac_types_base.specs.Graph.{Among}
use Rattle.wac_types_base.specs.Stated.{Stated, kind_of, interface_of, as_type, exports_of, uses_of, identifier_of, is_interface}
use Rattle.wac_composition.specs.Asks.{Ask}
use Rattle.wac_composition.specs.Classes.{class, spelling, is_instance_kind}
use Rattle.wac_composition.specs.Merging.{Asked, kept}
use Rattle.wac_composition.specs.OuterImports.{asked_in, outer_imports}

-- Each interface in it is of its identifier, uses and exports alone, and exports no name twice.
pub data IsWell : Stated → Type 0 where
  well_instance : {x : Stated} → x ≡ interface_of (identifier_of x) (uses_of x) (exports_of x)
      → AreDistinct (names_of (exports_of x)) → ((n : Name) (y : Stated) → Among (n, y) (exports_of x) → IsWell y) → IsWell x
  well_interface : {x : Stated} → x ≡ as_type (interface_of (identifier_of x) (uses_of x) (exports_of x))
      → AreDistinct (names_of (exports_of x)) → ((n : Name) (y : Stated) → Among (n, y) (exports_of x) → IsWell y) → IsWell x
  no_interface : {x : Stated} → is_instance_kind (kind_of x) ≡ false → is_interface (kind_of x) ≡ false → IsWell x

-- what several asks keep does not change where one of them is asked again
abbrev pub Asking_twice : Type 0
Asking_twice = (before after : List Asked) (a : Asked) → Among a before → ((b : Asked) → Among b before → IsWell b.1)
    → kept (before ++ a ∷ after) ≡ kept (before ++ after)

-- with more asks, each ask has its class, what that keeps and its spelling as before
pub record KeepsClasses {A : Type 0} (asks more : List (Ask A)) : Type 0 where
  pub classes : (c d : Ask A) → Among c asks → Among d asks → Among d (class more c) ↔ Among d (class asks c)
  pub kept : (c : Ask A) → Among c asks → kept (asked_in (class more c)) ≡ kept (asked_in (class asks c))
  pub spelled : (n : Name) → spelling more n ≡ spelling asks n

-- nothing changes where what was asked under a name is asked again, by whomever
abbrev pub Asked_again : Type 0 → Type 0
Asked_again A =
    (before after : List (Ask A)) (a b : Ask A) → Among b before → b.name ≡ a.name → b.item ≡ a.item
    → ((c : Ask A) → Among c before → IsWell c.item)
    → KeepsClasses (before ++ after) (before ++ a ∷ after)

-- and no outer import does where an interface is asked again under its identifier
abbrev pub Asked_by_identifier : Type 0 → Type 0
Asked_by_identifier A =
    (before after : List (Ask A)) (a b : Ask A) → Among b before → b.name ≡ a.name → b.item ≡ a.item
    → identifier_of a.item ≡ Some a.name → ((c : Ask A) → Among c before → IsWell c.item)
    → outer_imports (before ++ a ∷ after) ≡ outer_imports (before ++ after)
