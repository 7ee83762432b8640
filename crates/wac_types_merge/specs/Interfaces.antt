-- The interface that merging makes of two.
use Rattle.std.specs.Prelude.{◌≡◌, List, [], ◌∷◌, ◌++◌, Option, Some, None, if◌then◌else◌, is_some, slice_get}
use Rattle.wac_types_base.specs.declared.item.ItemKind.{ItemKind}
use Rattle.wac_types_base.specs.declared.defined.UsedType.{UsedType}
use Rattle.wac_types_base.specs.declared.defined.Interface.{Interface}
use Rattle.wac_types_base.specs.declared.ids.InterfaceId.{InterfaceId}
use Rattle.wac_types_base.specs.Record.{Collection}
use Rattle.wac_types_base.specs.Graph.{Among}
use Rattle.wac_types_base.specs.Entries.{Name, value_at}
use Rattle.wac_types_base.specs.Collection.{Shape, interface, Stands}
use Rattle.wac_types_base.specs.Graph.{node}
use Rattle.wac_types_base.specs.Stated.{Stated, stated_of, identifier_of}
use Rattle.wac_types_fit.specs.Trees.{tree_in, Fit, IsInside}
use Rattle.wac_types_fit.specs.Meets.{IsMeet, IsPlain, Clash}
use Rattle.wac_types_base.specs.declared.item.ExternKind.{ExternKind}
use Rattle.wac_types_fit.specs.Frames.{Step, Disagree}

-- the entry, where the map does not have its name
abbrev pub if_new : {T : Type 0} → List (Name × T) → Name → T → List (Name × T)
if_new es n v = if is_some (value_at es n) then [] else (n, v) ∷ []

-- the entries whose names the first map does not have
abbrev pub new_in : {T : Type 0} → List (Name × T) → List (Name × T) → List (Name × T)
new_in es [] = []
new_in es (f ∷ fs) = if is_some (value_at es f.0) then new_in es fs else f ∷ new_in es fs

-- the entries of both, those of the first where both have the name
abbrev pub joined : {T : Type 0} → List (Name × T) → List (Name × T) → List (Name × T)
joined es fs = es ++ new_in es fs

-- the first interface, with the uses and the exports that the second has more; the exports of both merged
abbrev pub merged_interface : Interface → Interface → List (Name × ItemKind) → Interface
merged_interface x y both = record { id = x.id; uses = joined x.uses y.uses; exports = both ++ new_in x.exports y.exports }

-- the interface of an id
pub record IsAt (c : Collection) (i : InterfaceId) (x : Interface) : Type 0 where
  pub at : slice_get c.interfaces i.index ≡ Some x
  pub own : i.collection ≡ c.number

-- a label with another identifier, where it is that of an instance
abbrev pub renamed_shape : Name → Shape → Shape
renamed_shape n (interface i us es) = interface (Some n) us es
renamed_shape n s = s

-- the same stated type, an instance with this identifier
abbrev pub renamed : Name → Stated → Stated
renamed n (node s ts) = node (renamed_shape n s) ts

-- j of d is i of c again, under another identifier: the same tree, uses, owners and order
pub record IsRenamed (c : Collection) (i : InterfaceId) (d : Collection) (j : InterfaceId) (n : Name) : Type 0 where
  pub stands : Stands d (ItemKind.Instance j)
  pub tree : tree_in d (ItemKind.Instance j) ≡ tree_in c (ItemKind.Instance i)
  pub identifier : identifier_of (stated_of d (ItemKind.Instance j)) ≡ Some n
  pub stated : stated_of d (ItemKind.Instance j) ≡ renamed n (stated_of c (ItemKind.Instance i))

abbrev pub UsesStand : Collection → List (Name × UsedType) → Type 0
UsesStand c us = (n : Name) (u : UsedType) → Among (n, u) us → Stands c (ItemKind.Instance u.interface)

-- k of d is the meet of a and b of c
pub record MeetIn (c : Collection) (a b : ItemKind) (d : Collection) (k : ItemKind) : Type 0 where
  pub stands : Stands d k
  pub meet : IsMeet (tree_in d k) (tree_in c a ∷ tree_in c b ∷ [])

-- no tree fits both, where a is plain
abbrev pub ClashIn : Collection → ItemKind → ItemKind → Type 0
ClashIn c a b = IsPlain (tree_in c a) → Clash (tree_in c a) (tree_in c b)

-- where a does not fit b, no tree fits both
abbrev pub ClashUnlessFit : Collection → ItemKind → ItemKind → Type 0
ClashUnlessFit c a b = (Fit c a c b → ⊥) → ClashIn c a b

abbrev pub SlotInside : Collection → Option ItemKind → ItemKind → Type 0
SlotInside c None k = Unit {0}
SlotInside c (Some j) k = IsInside c j k

-- k of d is a, or the meet of a and the other
abbrev pub JoinedIn : Collection → ItemKind → Option ItemKind → Collection → ItemKind → Type 0
JoinedIn c a None d k = Stands d k × (tree_in d k ≡ tree_in c a)
JoinedIn c a (Some b) d k = MeetIn c a b d k

abbrev pub OtherClash : Collection → ItemKind → Option ItemKind → Type 0
OtherClash c a None = ⊥
OtherClash c a (Some b) = ClashIn c a b

-- name by name, the third list has what the first has, joined with what the second has under the name
abbrev pub AreJoined : Collection → List (Name × ItemKind) → Collection → List (Name × ItemKind) → List (Name × ItemKind)
    → Type 0
AreJoined c fs d [] [] = Unit {0}
AreJoined c fs d [] (g ∷ gs) = ⊥
AreJoined c fs d (e ∷ es) [] = ⊥
AreJoined c fs d (e ∷ es) (g ∷ gs) = (g.0 ≡ e.0) × JoinedIn c e.1 (value_at fs e.0) d g.1 × AreJoined c fs d es gs

-- under some name both have items, and these clash
pub record ItemsClash (c : Collection) (es fs : List (Name × ItemKind)) : Type 0 where
  pub name : Name
  pub first : ItemKind
  pub second : ItemKind
  pub first_at : value_at es name ≡ Some first
  pub second_at : value_at fs name ≡ Some second
  pub clash : ClashIn c first second

-- the steps lead to where the trees of a and b disagree
abbrev pub LeadsIn : Collection → ItemKind → ItemKind → List Step → Type 0
LeadsIn c a b ss = Disagree ss (tree_in c a) (tree_in c b)

-- they lead through the export of this name
abbrev pub OtherLeads : Collection → Name → ItemKind → Option ItemKind → List Step → Type 0
OtherLeads c n a None ss = ⊥
OtherLeads c n a (Some b) ss = (rest : List Step) × (ss ≡ (ExternKind.Export, n) ∷ rest) × LeadsIn c a b rest
