-- A cache of pairs that is true, and what a check says of the items of two maps.
use Rattle.std.specs.Prelude.{◌≡◌, ℕ, List, [], ◌∷◌, Option, Some, None, ◌⊎◌, slice_get, map, if◌then◌else◌, ◌==◌, ◌&&◌}
use Rattle.std.specs.Cmp.Lexicographic.{pointwise}
use Rattle.std.specs.Option.{option_map}
use Rattle.wac_types_base.specs.declared.item.ItemKind.{ItemKind}
use Rattle.wac_types_base.specs.declared.item.ExternKind.{ExternKind}
use Rattle.wac_types_base.specs.declared.item.«Type».{«Type» as TypeKind}
use Rattle.wac_types_base.specs.declared.item.ValueType.{ValueType}
use Rattle.wac_types_base.specs.declared.core_types.ModuleType.{ModuleType}
use Rattle.wac_types_base.specs.declared.core_types.CoreExtern.{CoreExtern}
use Rattle.wac_types_base.specs.Record.{Collection}
use Rattle.wac_types_base.specs.Graph.{Among}
use Rattle.wac_types_base.specs.Entries.{Name, value_at}
use Rattle.wac_types_base.specs.Collection.{Slot, Stands, slots_of, option_slot}
use Rattle.wac_types_base.specs.Tree.{Tree, core_module, ascending, pair_cmp, name_cmp}
use Rattle.wac_types_fit.specs.Frames.{Step, Disagree}
use Rattle.wac_types_fit.specs.Trees.{tree_in, Fit, IsInside}

-- (j, k) is in the cache
abbrev pub HasPair : List (ItemKind × ItemKind) → ItemKind → ItemKind → Type 0
HasPair ps j k = Among (j, k) ps

-- j of c stands, and fits k of d, which stands
pub record IsTruePair (c : Collection) (j : ItemKind) (d : Collection) (k : ItemKind) : Type 0 where
  pub given : Stands c j
  pub asked : Stands d k
  pub fits : Fit c j d k

-- each pair of the cache that stands in the two collections, either way round, fits
pub record IsTrueOf (c d : Collection) (ps : List (ItemKind × ItemKind)) : Type 0 where
  pub along : (j k : ItemKind) → HasPair ps j k → Stands c j → Stands d k → Fit c j d k
  pub back : (j k : ItemKind) → HasPair ps j k → Stands d j → Stands c k → Fit d j c k

-- what the cache has now it had before, or it is a true pair of the two collections
abbrev pub OnlyTrue : Collection → Collection → List (ItemKind × ItemKind) → List (ItemKind × ItemKind) → Type 0
OnlyTrue c d old new = (j k : ItemKind) → HasPair new j k → HasPair old j k ⊎ (IsTruePair c j d k ⊎ IsTruePair d j c k)

-- what is in the new cache was in the old one, or is (a, b)
abbrev pub OnlyMore : List (ItemKind × ItemKind) → List (ItemKind × ItemKind) → ItemKind → ItemKind → Type 0
OnlyMore old new a b = (j k : ItemKind) → HasPair new j k → HasPair old j k ⊎ ((j ≡ a) × (k ≡ b))

-- ---- items

-- each item is inside the kind
abbrev pub AreInside : Collection → ItemKind → List (Name × ItemKind) → Type 0
AreInside c k es = (n : Name) (j : ItemKind) → Among (n, j) es → IsInside c j k

-- under this name stands an item that fits k
abbrev pub GivesName : Collection → List (Name × ItemKind) → Collection → Name → ItemKind → Type 0
GivesName c es d n k = (j : ItemKind) × (value_at es n ≡ Some j) × Fit c j d k

-- each item of the second list has one of its name in the first, that fits
abbrev pub GivesAll : Collection → List (Name × ItemKind) → Collection → List (Name × ItemKind) → Type 0
GivesAll c es d fs = (n : Name) (k : ItemKind) → Among (n, k) fs → GivesName c es d n k

-- nothing stands under the name, or something that disagrees with k
pub data NameDisagrees (side : ExternKind) (c : Collection) (es : List (Name × ItemKind)) (d : Collection) (n : Name)
    (k : ItemKind) : List Step → Type 0 where
  name_missing : value_at es n ≡ None → NameDisagrees side c es d n k ((side, n) ∷ [])
  name_differs : (j : ItemKind) (ss : List Step) → value_at es n ≡ Some j → Disagree ss (tree_in c j) (tree_in d k)
      → NameDisagrees side c es d n k ((side, n) ∷ ss)

-- an item of the second list is missing in the first, or disagrees with the one there
pub record ItemsDisagree (side : ExternKind) (c : Collection) (es : List (Name × ItemKind)) (d : Collection)
    (fs : List (Name × ItemKind)) (ss : List Step) : Type 0 where
  pub name : Name
  pub kind : ItemKind
  pub asked : value_at fs name ≡ Some kind
  pub disagrees : NameDisagrees side c es d name kind ss

-- ---- core items

-- the tree of a module type
abbrev pub module_tree : ModuleType → Tree
module_tree m = core_module (ascending pair_cmp m.imports) (ascending name_cmp m.exports)

-- the first import of two names
abbrev pub import_at : List ((Name × Name) × CoreExtern) → Name × Name → Option CoreExtern
import_at [] k = None
import_at (e ∷ es) k = if pointwise ◌==◌ e.0.0 k.0 && pointwise ◌==◌ e.0.1 k.1 then Some e.1 else import_at es k

-- under the name of each item of the second list, the first has just that item
abbrev pub HasAll : {K : Type 0} → (List (K × CoreExtern) → K → Option CoreExtern) → List (K × CoreExtern)
    → List (K × CoreExtern) → Type 0
HasAll {K} at es fs = (k : K) (x : CoreExtern) → Among (k, x) fs → at es k ≡ Some x

-- an item of the second list, of this name, is not in the first
pub record LacksOne {K : Type 0} (at : List (K × CoreExtern) → K → Option CoreExtern) (side : ExternKind) (name : K → Name)
    (es fs : List (K × CoreExtern)) (ss : List Step) : Type 0 where
  pub key : K
  pub item : CoreExtern
  pub asked : Among (key, item) fs
  pub lacking : at es key ≡ Some item → ⊥
  pub steps : ss ≡ (side, name key) ∷ []

abbrev pub IsTable : CoreExtern → Type 0
IsTable (CoreExtern.Table e i m t s) = Unit {0}
IsTable x = ⊥

abbrev pub IsMemory : CoreExtern → Type 0
IsMemory (CoreExtern.Memory m s i a p) = Unit {0}
IsMemory x = ⊥

abbrev pub IsGlobal : CoreExtern → Type 0
IsGlobal (CoreExtern.Global v m s) = Unit {0}
IsGlobal x = ⊥

-- ---- values

-- the value type in a place
abbrev pub value_in : Slot → Option ValueType
value_in (Some (ItemKind.Value v)) = Some v
value_in s = None

-- each place of the kind has a value type or nothing
abbrev pub HoldsValues : Collection → ItemKind → Type 0
HoldsValues c k = (i : ℕ) (s : Slot) → slice_get (slots_of c k) i ≡ Some s → s ≡ option_slot (value_in s)

abbrev pub value_tree : Collection → Option ValueType → Option Tree
value_tree c v = option_map (tree_in c) (option_slot v)

-- the trees in the places of a kind
abbrev pub place_trees : Collection → ItemKind → List (Option Tree)
place_trees c k = map (option_map (tree_in c)) (slots_of c k)

-- a function, a value, a resource, or the type of a function or value
abbrev pub IsFlat : ItemKind → Type 0
IsFlat (ItemKind.Func f) = Unit {0}
IsFlat (ItemKind.Value v) = Unit {0}
IsFlat (ItemKind.Ty (TypeKind.Resource r)) = Unit {0}
IsFlat (ItemKind.Ty (TypeKind.Func f)) = Unit {0}
IsFlat (ItemKind.Ty (TypeKind.Value v)) = Unit {0}
IsFlat k = ⊥
