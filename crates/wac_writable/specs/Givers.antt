-- What is remembered of interfaces while the uses of a component type are tested, and what is answered of them.
use Rattle.std.specs.Prelude.{◌≡◌, ◌⊎◌, ℕ, ◌<◌, ◌+◌, Bool, false, List, [], ◌++◌}
use Rattle.std.specs.Bool.{Decides}
use Rattle.wac_types_base.specs.declared.ids.InterfaceId.{InterfaceId}
use Rattle.wac_types_base.specs.declared.ids.WorldId.{WorldId}
use Rattle.wac_types_base.specs.declared.item.ItemKind.{ItemKind}
use Rattle.wac_types_base.specs.Record.{Collection}
use Rattle.wac_types_base.specs.Entries.{Name}
use Rattle.wac_types_base.specs.Graph.{Among}
use Rattle.wac_types_base.specs.Collection.{size_of}
use Rattle.wac_types_base.specs.Stated.{Stated, stated_of, uses_of, imports_of, exports_of, stated_world}
use Rattle.wac_composition.specs.NotWritten.{IsImported, given_to_exports}
use Rattle.wac_types_parts.specs.Parts.{imports_of as imports_in, world_exports_of as exports_in}
use Rattle.wac_types_parts.specs.declared.parts.Use.{Use}
use Rattle.wac_writable.specs.declared.writable.Test.{Test}
use Rattle.wac_writable.specs.declared.writable.Giver.{Giver}
use Rattle.wac_writable.specs.declared.writable.GivenBy.{GivenBy}
use Rattle.wac_writable.specs.Unnamed.{KnowsAll}
use Rattle.wac_writable.specs.Tests.{used_of}
use Rattle.wac_writable.specs.Uses.{TypesFail, AddedFails, UseFails, SomeNeeded, NeededBy, FailsAt, SomeUse, SomeItem}

abbrev pub instance_of : Collection → InterfaceId → Stated
instance_of c i = stated_of c (ItemKind.Instance i)

-- the items that give what is used: of several under one name the first
abbrev pub items_by : Collection → GivenBy → List (Name × ItemKind)
items_by c GivenBy.Nothing = []
items_by c (GivenBy.Imports w) = imports_in c w
items_by c (GivenBy.Exports w) = exports_in c w ++ imports_in c w

abbrev pub givers_by : Collection → GivenBy → List (Name × Stated)
givers_by c GivenBy.Nothing = []
givers_by c (GivenBy.Imports w) = imports_of (stated_world c w)
givers_by c (GivenBy.Exports w) = given_to_exports (stated_world c w)

-- ---- what is remembered

module _ (t : Test) where
  abbrev pub size_in : InterfaceId → ℕ
  size_in i = size_of t.types.now (ItemKind.Instance i)

  -- a use fails that this interface needs, beside what is given
  abbrev pub NeedsFailing : GivenBy → InterfaceId → Type 0
  NeedsFailing w i = NeededBy t.is_outer (givers_by t.types.now w) (instance_of t.types.now i)

  -- the types of none of these fail
  pub record AllFine (ids : List InterfaceId) : Type 0 where
    pub each : (i : InterfaceId) → Among i ids → TypesFail t.is_outer (instance_of t.types.now i) → ⊥

  -- the types of what is called fine do not fail, and nothing that was seen, below this size, needs a use that fails
  pub record KnowsBelow (size : ℕ) (g : Giver) : Type 0 where
    pub fine : AllFine g.fine.keys
    pub seen : (i : InterfaceId) → Among i g.seen.keys → size_in i < size → NeedsFailing g.given_by i → ⊥

  -- each that was seen meanwhile needs none that fails
  pub record Goes (old new : Giver) : Type 0 where
    pub given_by : new.given_by ≡ old.given_by
    pub fine : AllFine new.fine.keys
    pub seen : (i : InterfaceId) → Among i new.seen.keys → Among i old.seen.keys ⊎ (NeedsFailing old.given_by i → ⊥)

-- ---- answers

-- Whether this is so beside what is given, where what it remembers is true below a size. If it is not so, all that it learnt
-- meanwhile is true.
abbrev pub TellsBeside : Test → Giver → Giver → ℕ → (List (Name × Stated) → Type 0) → Bool → Type 0
TellsBeside t old new size P b =
    KnowsAll t.types.now t.unnamed.now → KnowsBelow t size old
    → Decides b (P (givers_by t.types.now old.given_by)) × (b ≡ false → Goes t old new)

-- whether a use is given
abbrev pub TellsImported : Test → GivenBy → Name → Use → Bool → Type 0
TellsImported t w n u b = Decides b (IsImported (givers_by t.types.now w) n (used_of t.types.now u))

-- whether a used interface fails that is not given
abbrev pub TellsAdded : Test → Giver → Giver → InterfaceId → Bool → Type 0
TellsAdded t old new i b = TellsBeside t old new 0 (λ is. AddedFails t.is_outer (instance_of t.types.now i)) b

-- whether a use fails
abbrev pub TellsUse : Test → Giver → Giver → Use → Bool → Type 0
TellsUse t old new u b = TellsBeside t old new 0 (λ is. UseFails t.is_outer is (used_of t.types.now u)) b

-- or one that its interface needs
abbrev pub TellsAt : Test → Giver → Giver → Use → Bool → Type 0
TellsAt t old new u b =
    TellsBeside t old new (size_in t u.interface + 1) (λ is. FailsAt t.is_outer is (used_of t.types.now u)) b

-- whether one fails that an interface uses, or that such a one needs
abbrev pub TellsDirect : Test → Giver → Giver → InterfaceId → Bool → Type 0
TellsDirect t old new i b =
    TellsBeside t old new (size_in t i) (λ is. SomeUse t.is_outer is (uses_of (instance_of t.types.now i))) b

-- whether one fails that an item needs
abbrev pub TellsNeeded : Test → Giver → Giver → ItemKind → Bool → Type 0
TellsNeeded t old new k b =
    TellsBeside t old new (size_of t.types.now k) (λ is. NeededBy t.is_outer is (stated_of t.types.now k)) b

-- ---- of a world

-- of what a world has
abbrev pub TellsOfWorld : Test → Giver → Giver → WorldId → (List (Name × Stated) → Stated → Type 0) → Bool → Type 0
TellsOfWorld t old new w P b =
    TellsBeside t old new (size_of t.types.now (ItemKind.Component w)) (λ is. P is (stated_world t.types.now w)) b

abbrev pub TellsWorldUses : Test → Giver → Giver → WorldId → Bool → Type 0
TellsWorldUses t old new w b = TellsOfWorld t old new w (λ is x. SomeUse t.is_outer is (uses_of x)) b

abbrev pub TellsUsesOfImports : Test → Giver → Giver → WorldId → Bool → Type 0
TellsUsesOfImports t old new w b = TellsOfWorld t old new w (λ is x. SomeItem t.is_outer is (imports_of x)) b

abbrev pub TellsUsesOfExports : Test → Giver → Giver → WorldId → Bool → Type 0
TellsUsesOfExports t old new w b = TellsOfWorld t old new w (λ is x. SomeItem t.is_outer is (exports_of x)) b

-- a use fails that a component type and its items need, beside these imports
abbrev pub WorldNeeds : Bool → List (Name × Stated) → Stated → Type 0
WorldNeeds outer is x = SomeNeeded outer is (uses_of x) (imports_of x ++ exports_of x)

abbrev pub TellsAllUses : Test → Giver → Giver → WorldId → Bool → Type 0
TellsAllUses t old new w b = TellsOfWorld t old new w (WorldNeeds t.is_outer) b

-- beside its own
abbrev pub TellsUsesOfWorld : Test → WorldId → Bool → Type 0
TellsUsesOfWorld t w b =
    KnowsAll t.types.now t.unnamed.now
    → Decides b (WorldNeeds t.is_outer (imports_of (stated_world t.types.now w)) (stated_world t.types.now w))

-- whether one fails that an interface needs where nothing is imported
abbrev pub TellsWrappedUses : Test → InterfaceId → Bool → Type 0
TellsWrappedUses t i b = KnowsAll t.types.now t.unnamed.now → Decides b (NeededBy t.is_outer [] (instance_of t.types.now i))

-- ---- of a package's world

-- whether a use fails that it or one of its imports needs
abbrev pub TellsUsesOfPackage : Test → WorldId → Bool → Type 0
TellsUsesOfPackage t w b =
    KnowsAll t.types.now t.unnamed.now
    → Decides b (SomeNeeded t.is_outer (imports_of (stated_world t.types.now w)) (uses_of (stated_world t.types.now w))
    (imports_of (stated_world t.types.now w)))

-- or one of its exports, beside its exports
abbrev pub TellsUsesOfPackageExports : Test → WorldId → Bool → Type 0
TellsUsesOfPackageExports t w b =
    KnowsAll t.types.now t.unnamed.now
    → Decides b (SomeNeeded t.is_outer (given_to_exports (stated_world t.types.now w)) [] (exports_of (stated_world t.types.now w)))
