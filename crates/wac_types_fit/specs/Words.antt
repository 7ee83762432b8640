-- How a mismatch calls the two items to which its steps lead.
use Rattle.std.specs.Prelude.{◌≡◌, List, [], ◌∷◌, Bool, true, false, Option, Some, None, ◌⊎◌, slice_get, option_map, codes}
use Rattle.wac_types_base.specs.declared.item.ItemKind.{ItemKind}
use Rattle.wac_types_base.specs.declared.item.ExternKind.{ExternKind}
use Rattle.wac_types_base.specs.declared.item.«Type».{«Type» as TypeKind}
use Rattle.wac_types_base.specs.declared.ids.InterfaceId.{InterfaceId}
use Rattle.wac_types_base.specs.declared.ids.WorldId.{WorldId}
use Rattle.wac_types_base.specs.declared.ids.ModuleTypeId.{ModuleTypeId}
use Rattle.wac_types_base.specs.declared.defined.Interface.{Interface}
use Rattle.wac_types_base.specs.declared.defined.World.{World}
use Rattle.wac_types_base.specs.declared.core_types.ModuleType.{ModuleType}
use Rattle.wac_types_base.specs.declared.core_types.CoreExtern.{CoreExtern}
use Rattle.wac_types_base.specs.Record.{Collection}
use Rattle.wac_types_base.specs.Entries.{Name, value_at}
use Rattle.wac_types_base.specs.Stated.{stated_of, desc}
use Rattle.wac_types_fit.specs.declared.checker.SubtypeCheck.{SubtypeCheck}
use Rattle.wac_types_fit.specs.Frames.{Step, joined_name}
use Rattle.wac_types_fit.specs.Checking.{import_at}

-- how a core item is called
abbrev pub core_word : CoreExtern → Name
core_word (CoreExtern.Func f) = codes "core function"
core_word (CoreExtern.Table e i m t s) = codes "core table"
core_word (CoreExtern.Memory m s i a p) = codes "core memory"
core_word (CoreExtern.Global v m s) = codes "core global"
core_word (CoreExtern.Tag f) = codes "core tag"

-- the steps lead to an import, or to nothing, that is called so
abbrev pub ImportCalled : List ((Name × Name) × CoreExtern) → List Step → Option Name → Type 0
ImportCalled es ss w =
    (k : Name × Name) × (ss ≡ (ExternKind.Import, joined_name k) ∷ []) × (w ≡ option_map core_word (import_at es k))

abbrev pub ExportCalled : List (Name × CoreExtern) → List Step → Option Name → Type 0
ExportCalled es ss w = (n : Name) × (ss ≡ (ExternKind.Export, n) ∷ []) × (w ≡ option_map core_word (value_at es n))

abbrev pub CoreCalled : ModuleType → List Step → Option Name → Type 0
CoreCalled m ss w = ImportCalled m.imports ss w ⊎ ExportCalled m.exports ss w

mutual
  -- the steps lead from the kind to an item that is called so, or to where nothing stands
  pub data Called (c : Collection) : ItemKind → List Step → Option Name → Type 0 where
    itself : (k : ItemKind) → Called c k [] (Some (desc (stated_of c k)))
    in_instance : (i : InterfaceId) (x : Interface) (ss : List Step) (w : Option Name) →
        slice_get c.interfaces i.index ≡ Some x → ItemsCalled c ExternKind.Export x.exports ss w
        → Called c (ItemKind.Instance i) ss w
    in_interface : (i : InterfaceId) (x : Interface) (ss : List Step) (w : Option Name) →
        slice_get c.interfaces i.index ≡ Some x → ItemsCalled c ExternKind.Export x.exports ss w
        → Called c (ItemKind.Ty (TypeKind.Interface i)) ss w
    in_component_exports : (i : WorldId) (x : World) (ss : List Step) (w : Option Name) →
        slice_get c.worlds i.index ≡ Some x → ItemsCalled c ExternKind.Export x.exports ss w
        → Called c (ItemKind.Component i) ss w
    in_component_imports : (i : WorldId) (x : World) (ss : List Step) (w : Option Name) →
        slice_get c.worlds i.index ≡ Some x → ItemsCalled c ExternKind.Import x.imports ss w
        → Called c (ItemKind.Component i) ss w
    in_world_exports : (i : WorldId) (x : World) (ss : List Step) (w : Option Name) →
        slice_get c.worlds i.index ≡ Some x → ItemsCalled c ExternKind.Export x.exports ss w
        → Called c (ItemKind.Ty (TypeKind.World i)) ss w
    in_world_imports : (i : WorldId) (x : World) (ss : List Step) (w : Option Name) →
        slice_get c.worlds i.index ≡ Some x → ItemsCalled c ExternKind.Import x.imports ss w
        → Called c (ItemKind.Ty (TypeKind.World i)) ss w
    in_module : (i : ModuleTypeId) (m : ModuleType) (ss : List Step) (w : Option Name) →
        slice_get c.modules i.index ≡ Some m → CoreCalled m ss w → Called c (ItemKind.Module i) ss w
    in_module_type : (i : ModuleTypeId) (m : ModuleType) (ss : List Step) (w : Option Name) →
        slice_get c.modules i.index ≡ Some m → CoreCalled m ss w → Called c (ItemKind.Ty (TypeKind.Module i)) ss w

  -- the same through the items of one side
  pub data ItemsCalled (c : Collection) : ExternKind → List (Name × ItemKind) → List Step → Option Name → Type 0 where
    nothing_called : (side : ExternKind) (es : List (Name × ItemKind)) (n : Name) → value_at es n ≡ None
        → ItemsCalled c side es ((side, n) ∷ []) None
    item_called : (side : ExternKind) (es : List (Name × ItemKind)) (n : Name) (j : ItemKind) (ss : List Step) (w : Option Name)
        →
        value_at es n ≡ Some j → Called c j ss w → ItemsCalled c side es ((side, n) ∷ ss) w

-- the first is the word for what is asked and the second for what is given; the other way round where a checker is turned
abbrev pub AreCalled : Bool → (Option Name → Type 0) → (Option Name → Type 0) → Option Name → Option Name → Type 0
AreCalled false given asked expected found = asked expected × given found
AreCalled true given asked expected found = given expected × asked found

abbrev pub CalledUnder : SubtypeCheck → (Option Name → Type 0) → (Option Name → Type 0) → Option Name → Option Name → Type 0
CalledUnder SubtypeCheck.Covariant given asked expected found = asked expected × given found
CalledUnder SubtypeCheck.Contravariant given asked expected found = given expected × asked found

-- expected and found, of the words for what is asked and what is given
abbrev pub in_turn : Bool → Option Name → Option Name → Option Name × Option Name
in_turn false asked given = (asked, given)
in_turn true asked given = (given, asked)

-- ---- single steps

-- through an interface, a world or a module type, in whichever form it is asked
abbrev pub InstanceCalled : Collection → InterfaceId → List Step → Option Name → Type 0
InstanceCalled c i ss w =
    (x : Interface) × (slice_get c.interfaces i.index ≡ Some x) × ItemsCalled c ExternKind.Export x.exports ss w

abbrev pub WorldCalled : Collection → WorldId → List Step → Option Name → Type 0
WorldCalled c i ss w = (x : World) × (slice_get c.worlds i.index ≡ Some x)
    × (ItemsCalled c ExternKind.Import x.imports ss w ⊎ ItemsCalled c ExternKind.Export x.exports ss w)

-- through an item of this name
abbrev pub NamedCalled : Collection → ExternKind → Name → ItemKind → List Step → Option Name → Type 0
NamedCalled c side n k ss w = (rest : List Step) × (ss ≡ (side, n) ∷ rest) × Called c k rest w
