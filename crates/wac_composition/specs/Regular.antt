-- Stated types that have a family: functions, values and resources, and instances of such, as collections have them.
use Rattle.std.specs.Prelude.{◌≡◌, List, Some, true, false}
use Rattle.wac_types_base.specs.Entries.{Name, AreDistinct, names_of, value_at}
use Rattle.wac_types_base.specs.Graph.{Among}
use Rattle.wac_types_base.specs.Stated.{Stated, kind_of, exports_of, is_interface}
use Rattle.wac_types_base.specs.Tree.{Tree, rigid, handle_own, handle_borrow, type_item, tree}
use Rattle.wac_composition.specs.Classes.{is_instance_kind}
use Rattle.wac_composition.specs.Merging.{Asked}

-- a function, a value, a resource or a handle
abbrev pub IsFlat : Tree → Type 0
IsFlat (rigid s r) = Unit {0}
IsFlat (handle_own t) = Unit {0}
IsFlat (handle_borrow t) = Unit {0}
IsFlat t = ⊥

-- or the type of one
abbrev pub IsFlatItem : Tree → Type 0
IsFlatItem (type_item t) = IsFlat t
IsFlatItem t = IsFlat t

-- An alias is of a value type or a resource, and no name is exported twice.
pub data Regular : Stated → Type 0 where
  flat : {x : Stated} → is_instance_kind (kind_of x) ≡ false → is_interface (kind_of x) ≡ false → IsFlatItem (tree x) → Regular x
  an_instance : {x : Stated} → is_instance_kind (kind_of x) ≡ true → AreDistinct (names_of (exports_of x))
      → ((n : Name) (y : Stated) → value_at (exports_of x) n ≡ Some y → Regular y) → Regular x
  an_interface : {x : Stated} → is_interface (kind_of x) ≡ true → AreDistinct (names_of (exports_of x))
      → ((n : Name) (y : Stated) → value_at (exports_of x) n ≡ Some y → Regular y) → Regular x

abbrev pub AreRegular : List Asked → Type 0
AreRegular asks = (a : Asked) → Among a asks → Regular a.1
