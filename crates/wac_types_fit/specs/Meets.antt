-- The greatest tree that fits all of some trees.
use Rattle.std.specs.Prelude.{List, [], ◌∷◌}
use Rattle.wac_types_base.specs.Tree.{Tree, Fields, rigid, instance, component, core_module, handle_own, handle_borrow, type_item, no_fields, field}
use Rattle.wac_types_base.specs.Fits.{Fits}
use Rattle.wac_types_fit.specs.Ordered.{InOrder}

-- x fits each of the trees
abbrev pub FitsAll : Tree → List Tree → Type 0
FitsAll x [] = Unit {0}
FitsAll x (t ∷ ts) = Fits x t × FitsAll x ts

-- m is the greatest tree that fits each of the trees
pub record IsMeet (m : Tree) (ts : List Tree) : Type 0 where
  pub ordered : InOrder m
  pub fits : FitsAll m ts
  pub greatest : (x : Tree) → InOrder x → FitsAll x ts → Fits x m

-- no tree fits both
abbrev pub Clash : Tree → Tree → Type 0
Clash a b = (x : Tree) → InOrder x → Fits x a → Fits x b → ⊥

-- no component and no module, but deep in a value or a function
abbrev mutual
  pub IsPlain : Tree → Type 0
  IsPlain (rigid s r) = Unit {0}
  IsPlain (instance xs) = ArePlain xs
  IsPlain (component is es) = ⊥
  IsPlain (core_module is es) = ⊥
  IsPlain (handle_own t) = Unit {0}
  IsPlain (handle_borrow t) = Unit {0}
  IsPlain (type_item t) = IsPlain t

  pub ArePlain : Fields → Type 0
  ArePlain no_fields = Unit {0}
  ArePlain (field n t xs) = IsPlain t × ArePlain xs
