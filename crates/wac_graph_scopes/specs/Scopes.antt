-- What holds of a scope of written types while it is being written: an instance type, a component type, or the root of a
-- component before anything is instantiated.
use Rattle.std.specs.Prelude.{◌≡◌, ℕ, List, [], ◌∷◌, ◌++◌, length, Option, Result, Some, None, slice_get, IfSome, IfNone, IfOk, OnOk, true}
use Rattle.std.specs.declared.alloc.Global.{Global}
use Rattle.std.specs.declared.vec.Vec.{Vec}
use Rattle.std.specs.Map.{lookup}
use Rattle.wac_types_base.specs.contracts.ids.ResourceIdPartialEq.TheImpl.{eq-value}
use Rattle.wac_types_base.specs.declared.ids.DefinedTypeId.{DefinedTypeId}
use Rattle.wac_types_base.specs.declared.ids.ResourceId.{ResourceId}
use Rattle.wac_types_base.specs.declared.item.ValueType.{ValueType}
use Rattle.wac_types_base.specs.declared.item.«Type».{«Type» as TypeKind}
use Rattle.wac_types_base.specs.declared.item.ItemKind.{ItemKind}
use Rattle.wac_types_base.specs.Record.{Collection}
use Rattle.wac_types_base.specs.Graph.{Among}
use Rattle.wac_types_base.specs.Entries.{Name, value_at}
use Rattle.wac_types_base.specs.Collection.{resource}
use Rattle.wac_types_base.specs.Resolving.{IsNoAlias}
use Rattle.wac_types_base.specs.Tree.{Tree, rigid, end}
use Rattle.wac_types_fit.specs.Trees.{tree_in}
use Rattle.wac_graph_bytes.specs.declared.value.Sort.{Sort}
use Rattle.wac_graph_bytes.specs.declared.value.ValueType.{ValueType as Written}
use Rattle.wac_graph_bytes.specs.declared.value.ValueType.TheVariants.{Index}
use Rattle.wac_graph_bytes.specs.Typing.{Worlds, Meaning, Known, Scope, space, Inside, nothing_inside, adds_inside, declared, defined, item_of, type_at, value_of}
use Rattle.wac_graph_bytes.specs.declared.entry.DefinedType.{DefinedType}
use Rattle.wac_graph_bytes.specs.declared.entry.Declaration.{Declaration}
use Rattle.wac_graph_bytes.specs.declared.value.Sort.TheVariants as sort
use Rattle.wac_graph_bytes.specs.Entries.{End}
use Rattle.wac_graph_bytes.specs.Views.{before, declarations_of, defined_view}
use Rattle.wac_graph_scopes.specs.declared.scope.KnownType.{KnownType}
use Rattle.wac_graph_scopes.specs.declared.scope.KnownTypes.{KnownTypes}
use Rattle.wac_graph_scopes.specs.declared.scope.TypeScope.{TypeScope}
use Rattle.wac_graph_scopes.specs.Known.{ArePlaces, HasPrint, HasTree, DiffersAt, IsIndexOf}

-- more may stand, and what stood stands
pub record Extends (old new : Scope) : Type 0 where
  pub indexes : (s : Sort) (k : ℕ) (m : Meaning) → slice_get (space s old) k ≡ Some m → slice_get (space s new) k ≡ Some m
  pub cores : (k : ℕ) (t : Tree) → slice_get old.cores k ≡ Some t → slice_get new.cores k ≡ Some t

-- of the other sorts there stands the same
pub record OnlyTypes (old new : Scope) : Type 0 where
  pub funcs : new.funcs ≡ old.funcs
  pub components : new.components ≡ old.components
  pub instances : new.instances ≡ old.instances
  pub modules : new.modules ≡ old.modules
  pub cores : new.cores ≡ old.cores

-- more may stand, and what stood stands; the same is imported and exported
pub record GoesOn (old new : Inside) : Type 0 where
  pub extends : Extends old.here new.here
  pub imports : new.imports ≡ old.imports
  pub exports : new.exports ≡ old.exports

-- the index of a type that is remembered stands for it
pub record IsKnown (w : Worlds) (ss : List Scope) (c : Collection) (k : KnownType) : Type 0 where
  pub reads : value_of w ss (Index k.index) ≡ Some (tree_in c (ItemKind.Value k.ty))

-- the index stands for the resource of that id
pub record IsEntry (w : Worlds) (ss : List Scope) (c : Collection) (r : ResourceId) (k : ℕ) : Type 0 where
  pub reads : type_at w ss k ≡ Some (tree_in c (ItemKind.Ty (TypeKind.Resource r)))

-- all of them are true there, and each is found
pub record AreKnown (w : Worlds) (ss : List Scope) (c : Collection) (ks : KnownTypes) : Type 0 where
  pub each : (k : KnownType) → Among k ks.all.items → IsKnown w ss c k
  pub places : ArePlaces c ks
  pub resources : (r : ResourceId) (k : ℕ) → lookup (eq-value.it r) ks.resources.entries ≡ Some k → IsEntry w ss c r k

-- an index that stands for the type is known with the others
abbrev pub PutsKnown : {U E : Type 0} → DefinedTypeId → ℕ → KnownTypes → KnownTypes → Result U E → Type 0
PutsKnown id k old new r = (w : Worlds) (ss : List Scope) (c : Collection) → AreKnown w ss c old
    → value_of w ss (Index k) ≡ Some (tree_in c (ItemKind.Value (ValueType.Defined id))) → OnOk r (AreKnown w ss c new)

-- the index of a resource that stands there stands for the resource of that name
pub record IsResource (w : Worlds) (ss : List Scope) (n : Name) (k : ℕ) : Type 0 where
  pub reads : type_at w ss k ≡ Some (rigid (resource n) end)

-- The declarations can be read inside those scopes, the counters are true, and so is what is remembered of the collection.
pub record IsScope (w : Worlds) (c : Collection) (outer : List Scope) (i : Inside) (s : TypeScope) : Type 0 where
  pub reads : declared w outer nothing_inside (declarations_of s.declarations.items) ≡ Some i
  pub types : s.types ≡ length i.here.types
  pub known : AreKnown w (i.here ∷ outer) c s.known
  pub resources : (n : Name) (k : ℕ) → value_at s.resources n ≡ Some k → IsResource w (i.here ∷ outer) n k

-- in some scopes it is a scope of the collection
abbrev pub IsScopeOf : Collection → TypeScope → Type 0
IsScopeOf c s = (w : Worlds) × (outer : List Scope) × (i : Inside) × IsScope w c outer i s

-- whatever scope of the collection it was, it is again
abbrev pub KeepsScope : Collection → TypeScope → TypeScope → Type 0
KeepsScope c s u = (w : Worlds) (outer : List Scope) (i : Inside) → IsScope w c outer i s → IsScope w c outer i u

-- a scope of one collection becomes one of another, of which those types are known
abbrev pub Exchanges : TypeScope → KnownTypes → TypeScope → KnownTypes → Type 0
Exchanges s ks u ls =
    (w : Worlds) (c d : Collection) (outer : List Scope) (i : Inside) → IsScope w c outer i s → AreKnown w (i.here ∷ outer) d ks
    → IsScope w d outer i u × AreKnown w (i.here ∷ outer) c ls

-- the index of a defined type
abbrev pub StandsFor : Worlds → List Scope → Collection → DefinedTypeId → ℕ → Type 0
StandsFor w ss c id k = value_of w ss (Index k) ≡ Some (tree_in c (ItemKind.Value (ValueType.Defined id)))

-- the index of a defined type, if there is one
abbrev pub FindsType : Collection → TypeScope → DefinedTypeId → Option ℕ → Type 0
FindsType c s id o =
    (w : Worlds) (outer : List Scope) (i : Inside) → IsScope w c outer i s → IfSome o (StandsFor w (i.here ∷ outer) c id)

-- The scope stands again, extended with types alone; nothing is imported and nothing exported.
pub record Goes (w : Worlds) (c : Collection) (outer : List Scope) (i after : Inside) (s : TypeScope) : Type 0 where
  pub stands : IsScope w c outer after s
  pub extends : Extends i.here after.here
  pub others : OnlyTypes i.here after.here
  pub imports : after.imports ≡ i.imports
  pub exports : after.exports ≡ i.exports

-- and the index stands for the type with that tree
pub record AnswersType (w : Worlds) (c : Collection) (outer : List Scope) (i : Inside) (t : Tree) (s : TypeScope)
    (k : ℕ) : Type 0 where
  pub after : Inside
  pub goes : Goes w c outer i after s
  pub index : type_at w (after.here ∷ outer) k ≡ Some t

-- and the value type is the one with that tree
pub record AnswersValue (w : Worlds) (c : Collection) (outer : List Scope) (i : Inside) (t : Tree) (s : TypeScope)
    (b : Written) : Type 0 where
  pub after : Inside
  pub goes : Goes w c outer i after s
  pub value : value_of w (after.here ∷ outer) b ≡ Some t

-- ---- the places of a type

abbrev pub PlaceReads : Worlds → List Scope → Option Written → Option Tree → Type 0
PlaceReads w ss None None = Unit {0}
PlaceReads w ss (Some b) (Some t) = value_of w ss b ≡ Some t
PlaceReads w ss _ _ = ⊥

-- place by place, the value types have these trees
abbrev pub PlacesRead : Worlds → List Scope → List (Option Written) → List (Option Tree) → Type 0
PlacesRead w ss [] [] = Unit {0}
PlacesRead w ss (b ∷ bs) (t ∷ ts) = PlaceReads w ss b t × PlacesRead w ss bs ts
PlacesRead w ss _ _ = ⊥

-- and the value types in the places have those trees
pub record AnswersPlaces (w : Worlds) (c : Collection) (outer : List Scope) (i : Inside) (ts : List (Option Tree))
    (s : TypeScope) (bs : List (Option Written)) : Type 0 where
  pub after : Inside
  pub goes : Goes w c outer i after s
  pub values : PlacesRead w (after.here ∷ outer) bs ts

-- and the value type in the place has that tree, or nothing stands there
pub record AnswersPlace (w : Worlds) (c : Collection) (outer : List Scope) (i : Inside) (t : Option Tree) (s : TypeScope)
    (b : Option Written) : Type 0 where
  pub after : Inside
  pub goes : Goes w c outer i after s
  pub value : PlaceReads w (after.here ∷ outer) b t

-- After an export the scope stands, extended, with the item behind the other exports.
pub record Exports (w : Worlds) (c : Collection) (outer : List Scope) (i : Inside) (n : Name) (t : Tree)
    (s : TypeScope) : Type 0 where
  pub after : Inside
  pub stands : IsScope w c outer after s
  pub extends : Extends i.here after.here
  pub imports : after.imports ≡ i.imports
  pub exports : after.exports ≡ i.exports ++ (n, t) ∷ []

-- And the export's own index stands for the type.
pub record ExportsType (w : Worlds) (c : Collection) (outer : List Scope) (i : Inside) (n : Name) (t : Tree) (s : TypeScope)
    (k : ℕ) : Type 0 where
  pub exported : Exports w c outer i n (item_of t) s
  pub others : OnlyTypes i.here exported.after.here
  pub index : type_at w (exported.after.here ∷ outer) k ≡ Some t

-- ---- whatever scope of the collection it was, this is answered

abbrev pub WritesValue : {E : Type 0} → Collection → Tree → TypeScope → TypeScope → Result Written E → Type 0
WritesValue c t old new r =
    (w : Worlds) (outer : List Scope) (i : Inside) → IsScope w c outer i old → IfOk r (λ b. AnswersValue w c outer i t new b)

abbrev pub WritesDefined : {E : Type 0} → Collection → DefinedTypeId → TypeScope → TypeScope → Result Written E → Type 0
WritesDefined c id old new r = WritesValue c (tree_in c (ItemKind.Value (ValueType.Defined id))) old new r

abbrev pub WritesType : {E : Type 0} → Collection → Tree → TypeScope → TypeScope → Result ℕ E → Type 0
WritesType c t old new r =
    (w : Worlds) (outer : List Scope) (i : Inside) → IsScope w c outer i old → IfOk r (λ k. AnswersType w c outer i t new k)

abbrev pub WritesPlaces : {E : Type 0} → Collection → List (Option Tree) → TypeScope → TypeScope
    → Result (Vec (Option Written) Global) E → Type 0
WritesPlaces c ts old new r = (w : Worlds) (outer : List Scope) (i : Inside) → IsScope w c outer i old
    → IfOk r (λ v. AnswersPlaces w c outer i ts new v.items)

abbrev pub WritesPlace : {E : Type 0} → Collection → Option Tree → TypeScope → TypeScope → Result (Option Written) E → Type 0
WritesPlace c t old new r =
    (w : Worlds) (outer : List Scope) (i : Inside) → IsScope w c outer i old → IfOk r (λ b. AnswersPlace w c outer i t new b)

-- the index of a defined type that is no alias
abbrev pub WritesEntry : {E : Type 0} → Collection → DefinedTypeId → TypeScope → TypeScope → Result ℕ E → Type 0
WritesEntry c id old new r =
    (w : Worlds) (outer : List Scope) (i : Inside) → IsNoAlias c (ValueType.Defined id) → IsScope w c outer i old
    → IfOk r (λ k. AnswersValue w c outer i (tree_in c (ItemKind.Value (ValueType.Defined id))) new (Index k))

-- nothing is found only where no type with a name has its tree
abbrev pub FindsTree : Collection → TypeScope → ValueType → Option ℕ → Type 0
FindsTree c s v o = IsScopeOf c s → IfNone o (HasTree c s.known.all.items (tree_in c (ItemKind.Value v)) → ⊥)

-- the type at a place is not found only where it has another tree
abbrev pub FindsTreeAt : Collection → TypeScope → ValueType → (at : ℕ) → Option ℕ → Type 0
FindsTreeAt c s v at o = IfNone o (DiffersAt c s.known.all.items (tree_in c (ItemKind.Value v)) at)

-- a value type that is known by its own id is written as the index that is remembered of it
abbrev pub WritesOwn : {E : Type 0} → TypeScope → ValueType → Result Written E → Type 0
WritesOwn s v r = (d : DefinedTypeId) (k : ℕ) → v ≡ ValueType.Defined d → IsIndexOf s.known d k → IfOk r (λ b. b ≡ Index k)

-- a value type that is known by its own id has the index that is remembered of it
abbrev pub FindsOwn : TypeScope → ValueType → Option ℕ → Type 0
FindsOwn s v o = (d : DefinedTypeId) (k : ℕ) → v ≡ ValueType.Defined d → IsIndexOf s.known d k → o ≡ Some k

-- a type that is remembered at a place has the index there
abbrev pub FindsAt : TypeScope → ℕ → DefinedTypeId → Option ℕ → Type 0
FindsAt s place id o = (k : KnownType) → slice_get s.known.all.items place ≡ Some k → k.ty ≡ ValueType.Defined id
    → o ≡ Some k.index

-- the index of a value type, or of a resource, if there is one
abbrev pub FindsValue : Collection → TypeScope → ValueType → Option ℕ → Type 0
FindsValue c s v o = (w : Worlds) (outer : List Scope) (i : Inside) → IsScope w c outer i s
    → IfSome o (λ k. value_of w (i.here ∷ outer) (Index k) ≡ Some (tree_in c (ItemKind.Value v)))

abbrev pub FindsEntry : Collection → TypeScope → ResourceId → Option ℕ → Type 0
FindsEntry c s r o = (w : Worlds) (outer : List Scope) (i : Inside) → IsScope w c outer i s
    → IfSome o (IsEntry w (i.here ∷ outer) c r)

abbrev pub FindsResource : {E : Type 0} → Collection → Tree → TypeScope → Result ℕ E → Type 0
FindsResource c t s r =
    (w : Worlds) (outer : List Scope) (i : Inside) → IsScope w c outer i s → IfOk r (λ k. type_at w (i.here ∷ outer) k ≡ Some t)

-- ---- types of their own

-- the index stands for a type entry of its own
abbrev pub IsEntryIn : Worlds → List Scope → List Declaration → ℕ → Type 0
IsEntryIn w outer ds k = (i : Inside) → declared w outer nothing_inside (declarations_of ds) ≡ Some i
    → (t : Tree) × (slice_get i.here.types k ≡ Some (Known t))

-- wherever the declaration is read, it states a type
abbrev pub IsTypeDeclaration : Declaration → Type 0
IsTypeDeclaration d = (w : Worlds) (outer : List Scope) (i j : Inside) → declared w outer i (before d End) ≡ Some j
    → (t : Tree) × (adds_inside sort.Ty (Known t) i ≡ j)

abbrev pub MakesEntry : {E : Type 0} → Collection → TypeScope → TypeScope → Result ℕ E → Type 0
MakesEntry c old new r =
    (w : Worlds) (outer : List Scope) (i : Inside) → IsScope w c outer i old → IfOk r (IsEntryIn w outer new.declarations.items)

abbrev pub WritesIndex : {E : Type 0} → Collection → Tree → TypeScope → TypeScope → Result ℕ E → Type 0
WritesIndex c t old new r = (w : Worlds) (outer : List Scope) (i : Inside) → IsScope w c outer i old
    → IfOk r (λ k. AnswersValue w c outer i t new (Index k))

-- ---- of whatever collection the scope was

abbrev pub Defines : {E : Type 0} → DefinedType → TypeScope → TypeScope → Result ℕ E → Type 0
Defines ty old new r = (w : Worlds) (c : Collection) (outer : List Scope) (i : Inside) (t : Tree) → IsScope w c outer i old
    → defined w (i.here ∷ outer) (defined_view ty) ≡ Some t
    → IfOk r (λ k. AnswersType w c outer i t new k)

abbrev pub ExportsNewType : {E : Type 0} → Name → ℕ → TypeScope → TypeScope → Result ℕ E → Type 0
ExportsNewType n ty old new r = (w : Worlds) (c : Collection) (outer : List Scope) (i : Inside) (t : Tree)
    → IsScope w c outer i old → type_at w (i.here ∷ outer) ty ≡ Some t
    → IfOk r (λ k. ExportsType w c outer i n t new k)

-- a type without a name is known by its index, and one with a name has a number that is found
abbrev pub MayBeNamed : Collection → TypeScope → KnownType → Type 0
MayBeNamed c s k = k.named ≡ true → HasPrint c s.known.places.by_print.entries k.ty

-- the index is remembered for the type that it stands for
abbrev pub Remembers : {U E : Type 0} → KnownType → TypeScope → TypeScope → Result U E → Type 0
Remembers k old new r = (w : Worlds) (c : Collection) (outer : List Scope) (i : Inside) → IsScope w c outer i old
    → IsKnown w (i.here ∷ outer) c k → MayBeNamed c old k → IfOk r (λ _. IsScope w c outer i new)

abbrev pub FindsKnown : TypeScope → Option KnownType → Type 0
FindsKnown s o = (w : Worlds) (c : Collection) (outer : List Scope) (i : Inside) → IsScope w c outer i s
    → IfSome o (IsKnown w (i.here ∷ outer) c)

abbrev pub KnowsResource : TypeScope → Name → Option ℕ → Type 0
KnowsResource s n o = (w : Worlds) (c : Collection) (outer : List Scope) (i : Inside) → IsScope w c outer i s
    → IfSome o (λ k. type_at w (i.here ∷ outer) k ≡ Some (rigid (resource n) end))

abbrev pub RemembersValue : {U E : Type 0} → Collection → ValueType → ℕ → TypeScope → TypeScope → Result U E → Type 0
RemembersValue c v k old new r = (w : Worlds) (outer : List Scope) (i : Inside) → IsScope w c outer i old
    → value_of w (i.here ∷ outer) (Index k) ≡ Some (tree_in c (ItemKind.Value v)) → IfOk r (λ _. IsScope w c outer i new)

abbrev pub NotesResource : {U E : Type 0} → Name → ℕ → TypeScope → TypeScope → Result U E → Type 0
NotesResource n k old new r = (w : Worlds) (c : Collection) (outer : List Scope) (i : Inside) → IsScope w c outer i old
    → IsResource w (i.here ∷ outer) n k → IfOk r (λ _. IsScope w c outer i new)

abbrev pub NotesEntry : {U E : Type 0} → Collection → ResourceId → ℕ → TypeScope → TypeScope → Result U E → Type 0
NotesEntry c id k old new r = (w : Worlds) (outer : List Scope) (i : Inside) → IsScope w c outer i old
    → IsEntry w (i.here ∷ outer) c id k → IfOk r (λ _. IsScope w c outer i new)

abbrev pub NotesValue : {U E : Type 0} → Collection → ValueType → ℕ → TypeScope → TypeScope → Result U E → Type 0
NotesValue c v k old new r = (w : Worlds) (outer : List Scope) (i : Inside) → IsScope w c outer i old
    → type_at w (i.here ∷ outer) k ≡ Some (tree_in c (ItemKind.Value v)) → IfOk r (λ _. IsScope w c outer i new)
