-- What a collection holds of what is stated, and what a map of the code says.
use Rattle.std.specs.Prelude.{◌≡◌, Bool, true, false, List, [], ◌∷◌, ◌++◌, map, Option, Some, None, is_some, option_map, codes}
use Rattle.wac_types_base.specs.declared.item.ValueType.{ValueType}
use Rattle.wac_types_base.specs.declared.item.ItemKind.{ItemKind}
use Rattle.wac_types_base.specs.declared.item.«Type».{«Type» as TypeKind}
use Rattle.wac_types_base.specs.declared.defined.UsedType.{UsedType}
use Rattle.wac_types_base.specs.declared.ids.FuncTypeId.{FuncTypeId}
use Rattle.wac_types_base.specs.Record.{Collection}
use Rattle.wac_types_base.specs.Collection.{Stands, StandsIf}
use Rattle.wac_types_base.specs.Entries.{Name, with_values, value_at}
use Rattle.wac_types_base.specs.Stated.{Stated, stated_of}
use Rattle.wac_parser_declare.specs.declared.scope.Binding.{Binding}
use Rattle.wac_parser_declare.specs.Scope.{Meant, Scope}

-- ---- items

-- the item stands in the collection, and this is stated there
pub record Holds (c : Collection) (t : Stated) (k : ItemKind) : Type 0 where
  pub stands : Stands c k
  pub same : stated_of c k ≡ t

abbrev pub IsValue : Collection → Stated → ValueType → Type 0
IsValue c t v = Holds c t (ItemKind.Value v)

-- what a value type states
abbrev pub stated_value : Collection → ValueType → Stated
stated_value c v = stated_of c (ItemKind.Value v)

abbrev pub stated_if : Collection → Option ValueType → Option Stated
stated_if c o = option_map (stated_value c) o

-- an optional type that stands
pub record IsValueIf (c : Collection) (t : Option Stated) (o : Option ValueType) : Type 0 where
  pub stands : StandsIf c o
  pub same : stated_if c o ≡ t

abbrev pub AllStand : Collection → List ValueType → Type 0
AllStand c [] = Unit {0}
AllStand c (v ∷ vs) = Stands c (ItemKind.Value v) × AllStand c vs

abbrev pub stated_row : Collection → List ValueType → List (Option Stated)
stated_row c vs = map (λ v. Some (stated_value c v)) vs

-- types that stand
pub record AreValues (c : Collection) (ts : List (Option Stated)) (vs : List ValueType) : Type 0 where
  pub stand : AllStand c vs
  pub same : stated_row c vs ≡ ts

-- ---- maps

-- each value stands
abbrev pub EachStands : {V : Type 0} → (V → Type 0) → List (Name × V) → Type 0
EachStands P [] = Unit {0}
EachStands P (e ∷ es) = P e.1 × EachStands P es

-- a map whose values stand, and state this
pub record AreEntries {V T : Type 0} (P : V → Type 0) (f : V → T) (ts : List (Name × T)) (es : List (Name × V)) : Type 0 where
  pub stand : EachStands P es
  pub same : with_values f es ≡ ts

abbrev pub ValueStands : Collection → ValueType → Type 0
ValueStands c v = Stands c (ItemKind.Value v)

abbrev pub AreNamedValues : Collection → List (Name × Stated) → List (Name × ValueType) → Type 0
AreNamedValues c = AreEntries (ValueStands c) (stated_value c)

abbrev pub AreCases : Collection → List (Name × Option Stated) → List (Name × Option ValueType) → Type 0
AreCases c = AreEntries (StandsIf c) (stated_if c)

abbrev pub ItemsStand : Collection → List (Name × ItemKind) → Type 0
ItemsStand c = EachStands (Stands c)

abbrev pub UsesStand : Collection → List (Name × UsedType) → Type 0
UsesStand c = EachStands (λ u. Stands c (ItemKind.Instance u.interface))

-- ---- scopes

abbrev pub BindingStands : Collection → Binding → Type 0
BindingStands c b = Stands c b.kind

abbrev pub NamesStand : Collection → List (Name × Binding) → Type 0
NamesStand c bs = EachStands (BindingStands c) bs

abbrev pub meant_by : Collection → Binding → Meant
meant_by c b = record { item = stated_of c b.kind; span = b.span }

-- what names mean
abbrev pub scope_of : Collection → List (Name × Binding) → Scope
scope_of c bs = with_values (meant_by c) bs

-- an entry is added where its name is new; else nothing changes
abbrev pub AddsNew : {V : Type 0} → List (Name × V) → Name → V → List (Name × V) → Bool → Type 0
AddsNew es n v fs true = (is_some (value_at es n) ≡ false) × (fs ≡ es ++ (n, v) ∷ [])
AddsNew es n v fs false = (is_some (value_at es n) ≡ true) × (fs ≡ es)

-- ---- functions

-- what a method takes first
abbrev pub self_params : {T : Type 0} → Option T → List (Name × T)
self_params None = []
self_params (Some t) = (codes "self", t) ∷ []

abbrev pub IsFunc : Collection → Stated → FuncTypeId → Type 0
IsFunc c t f = Holds c t (ItemKind.Func f)

abbrev pub IsType : Collection → Stated → TypeKind → Type 0
IsType c t ty = Holds c t (ItemKind.Ty ty)
