-- The order on trees: `Fits a b` where what is asked for as b may be given as a.
use Rattle.std.specs.Prelude.{List}
use Rattle.wac_types_base.specs.declared.core_types.CoreExtern.{CoreExtern}
use Rattle.wac_types_base.specs.Entries.{Name}
use Rattle.wac_types_base.specs.Graph.{Among}
use Rattle.wac_types_base.specs.Collection.{Shape}
use Rattle.wac_types_base.specs.Tree.{Tree, rigid, instance, component, core_module, handle_own, handle_borrow, type_item, Row, Fields, no_fields, field}

-- n is at t in the map
pub data HasField : Name → Tree → Fields → Type 0 where
  at_first : {n : Name} {t : Tree} {xs : Fields} → HasField n t (field n t xs)
  at_later : {n m : Name} {t u : Tree} {xs : Fields} → HasField n t xs → HasField n t (field m u xs)

-- each member of the second is one of the first
abbrev pub Covers : {X : Type 0} → List X → List X → Type 0
Covers {X} xs ys = (y : X) → Among y ys → Among y xs

-- functions, values, resources and core items fit where they are equal; of instances each export asked is given; of components
-- and modules moreover each import is offered
mutual
  pub data Fits : Tree → Tree → Type 0 where
    rigid_fits : {s : Shape} {r : Row} → Fits (rigid s r) (rigid s r)
    own_fits : {t : Tree} → Fits (handle_own t) (handle_own t)
    borrow_fits : {t : Tree} → Fits (handle_borrow t) (handle_borrow t)
    instance_fits : {xs ys : Fields} → FieldsFit xs ys → Fits (instance xs) (instance ys)
    component_fits : {is es js fs : Fields} → FieldsFit js is → FieldsFit es fs → Fits (component is es) (component js fs)
    module_fits : {is js : List ((Name × Name) × CoreExtern)} {es fs : List (Name × CoreExtern)} → Covers js is → Covers es fs
        → Fits (core_module is es) (core_module js fs)
    type_fits : {t u : Tree} → Fits t u → Fits (type_item t) (type_item u)

  -- each field of the second is one of the first, that fits
  pub data FieldsFit : Fields → Fields → Type 0 where
    none_asked : {xs : Fields} → FieldsFit xs no_fields
    one_asked : {xs ys : Fields} {n : Name} {t u : Tree} → HasField n t xs → Fits t u → FieldsFit xs ys
        → FieldsFit xs (field n u ys)
