-- Entries that are kept once.
use Rattle.std.specs.Prelude.{◌≡◌, ◌<◌, ◌+◌, ℕ, List, [], ◌∷◌, ◌++◌, length, slice_get, filter_map}
use Rattle.std.specs.List.{AllByRecursion}
use Rattle.wac_types_base.specs.Graph.{Among}
use Rattle.wac_types_base.specs.Entries.{AreDistinct, EachAmong}
use Rattle.wac_types_base.specs.Record.{Collection, Kept}
use Rattle.wac_types_base.specs.declared.defined.DefinedType.{DefinedType}
use Rattle.wac_types_base.specs.declared.defined.Resource.{Resource}
use Rattle.wac_types_base.specs.declared.defined.FuncType.{FuncType}
use Rattle.wac_types_base.specs.declared.defined.Interface.{Interface}
use Rattle.wac_types_base.specs.declared.defined.World.{World}
use Rattle.wac_types_base.specs.declared.core_types.ModuleType.{ModuleType}

-- what was given, index by index, and what is kept
pub record Listed (T : Type 0) : Type 0 where
  pub given : List T
  pub kept : List T

-- each place is one of a kept entry
abbrev pub ArePlaces : {T : Type 0} → List T → List ℕ → Type 0
ArePlaces ks ps = AllByRecursion (λ p. p < length ks) ps

abbrev pub listed : {T : Type 0} → List T → List ℕ → Listed T
listed ks ps = record { given = filter_map (slice_get ks) ps; kept = ks }

-- the entry is kept already, or is kept behind the others
pub data KeepsOnce {T : Type 0} (x : T) : List T → List T → Type 0 where
  was_kept : {xs : List T} → Among x xs → KeepsOnce x xs xs
  is_new : {xs : List T} → (Among x xs → ⊥) → KeepsOnce x xs (xs ++ x ∷ [])

-- ---- in a collection

-- the same lists, where something else is kept
abbrev pub keeping : Kept → Collection → Collection
keeping k c = record c { kept = k }

-- a defined type is kept once, and nothing else is kept anew
abbrev pub KeepsDefinedType : Kept → Kept → DefinedType → Type 0
KeepsDefinedType old new x =
    KeepsOnce x old.defined_types new.defined_types × (new ≡ record old { defined_types = new.defined_types })

-- a resource is kept once, and nothing else is kept anew
abbrev pub KeepsResource : Kept → Kept → Resource → Type 0
KeepsResource old new x = KeepsOnce x old.resources new.resources × (new ≡ record old { resources = new.resources })

-- a function type is kept once, and nothing else is kept anew
abbrev pub KeepsFuncType : Kept → Kept → FuncType → Type 0
KeepsFuncType old new x = KeepsOnce x old.func_types new.func_types × (new ≡ record old { func_types = new.func_types })

-- an interface is kept once, and nothing else is kept anew
abbrev pub KeepsInterface : Kept → Kept → Interface → Type 0
KeepsInterface old new x = KeepsOnce x old.interfaces new.interfaces × (new ≡ record old { interfaces = new.interfaces })

-- a world is kept once, and nothing else is kept anew
abbrev pub KeepsWorld : Kept → Kept → World → Type 0
KeepsWorld old new x = KeepsOnce x old.worlds new.worlds × (new ≡ record old { worlds = new.worlds })

-- a module type is kept once, and nothing else is kept anew
abbrev pub KeepsModuleType : Kept → Kept → ModuleType → Type 0
KeepsModuleType old new x = KeepsOnce x old.modules new.modules × (new ≡ record old { modules = new.modules })

-- how many entries are kept
abbrev pub kept_count : Kept → ℕ
kept_count k =
    length k.defined_types + length k.resources + length k.func_types + length k.interfaces + length k.worlds + length k.modules

-- no two kept entries are equal
pub record AreApart (k : Kept) : Type 0 where
  pub defined_types : AreDistinct k.defined_types
  pub resources : AreDistinct k.resources
  pub func_types : AreDistinct k.func_types
  pub interfaces : AreDistinct k.interfaces
  pub worlds : AreDistinct k.worlds
  pub modules : AreDistinct k.modules

-- each entry of the six lists is kept
pub record HoldsAll (c : Collection) : Type 0 where
  pub defined_types : EachAmong c.kept.defined_types c.defined_types
  pub resources : EachAmong c.kept.resources c.resources
  pub func_types : EachAmong c.kept.func_types c.func_types
  pub interfaces : EachAmong c.kept.interfaces c.interfaces
  pub worlds : EachAmong c.kept.worlds c.worlds
  pub modules : EachAmong c.kept.modules c.modules
