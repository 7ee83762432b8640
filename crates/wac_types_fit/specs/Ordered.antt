-- Trees in order: each map in them goes up by its names, so that equal maps are equal lists.
use Rattle.std.specs.Prelude.{◌≡◌, List, [], ◌∷◌}
use Rattle.std.specs.declared.cmp.Ordering.{Ordering}
use Rattle.wac_types_base.specs.Entries.{Name}
use Rattle.wac_types_base.specs.Tree.{Tree, Fields, rigid, instance, component, core_module, handle_own, handle_borrow, type_item, no_fields, field, name_cmp, pair_cmp}

abbrev pub IsBelow : {K : Type 0} → (K → K → Ordering) → K → K → Type 0
IsBelow cmp n m = cmp n m ≡ Ordering.Less

-- the key comes before all of these
abbrev pub IsBelowKeys : {K V : Type 0} → (K → K → Ordering) → K → List (K × V) → Type 0
IsBelowKeys cmp k [] = Unit {0}
IsBelowKeys cmp k (x ∷ xs) = IsBelow cmp k x.0 × IsBelowKeys cmp k xs

abbrev pub AreAscending : {K V : Type 0} → (K → K → Ordering) → List (K × V) → Type 0
AreAscending cmp [] = Unit {0}
AreAscending cmp (x ∷ xs) = IsBelowKeys cmp x.0 xs × AreAscending cmp xs

abbrev pub IsBelowFields : Name → Fields → Type 0
IsBelowFields n no_fields = Unit {0}
IsBelowFields n (field m t xs) = IsBelow name_cmp n m × IsBelowFields n xs

-- each map in the tree goes up
abbrev mutual
  pub InOrder : Tree → Type 0
  InOrder (rigid s r) = Unit {0}
  InOrder (instance xs) = AllInOrder xs
  InOrder (component is es) = AllInOrder is × AllInOrder es
  InOrder (core_module is es) = AreAscending pair_cmp is × AreAscending name_cmp es
  InOrder (handle_own t) = Unit {0}
  InOrder (handle_borrow t) = Unit {0}
  InOrder (type_item t) = InOrder t

  pub AllInOrder : Fields → Type 0
  AllInOrder no_fields = Unit {0}
  AllInOrder (field n t xs) = IsBelowFields n xs × InOrder t × AllInOrder xs
