-- What an aggregator holds: an import for each track.
use Rattle.std.specs.Prelude.{◌≡◌, ◌⊎◌, ℕ, Bool, true, false, IsTrue, List, [], ◌∷◌, Option, Some, None, is_some, slice_get}
use Rattle.wac_types_base.specs.declared.item.ItemKind.{ItemKind}
use Rattle.wac_types_base.specs.Record.{Collection}
use Rattle.wac_types_base.specs.Graph.{Among}
use Rattle.wac_types_base.specs.Entries.{Name}
use Rattle.wac_types_base.specs.Collection.{Stands}
use Rattle.wac_types_base.specs.Stated.{Stated, stated_of, identifier_of}
use Rattle.wac_types_base.specs.Tree.{tree}
use Rattle.wac_types_base.specs.Fits.{Fits}
use Rattle.wac_types_merge.specs.Interfaces.{renamed}
use Rattle.wac_types_names.specs.Tracks.{lookup_key, AreCompatible, IsLater}
use Rattle.wac_types_fit.specs.Trees.{tree_in, Fit}
use Rattle.wac_types_fit.specs.Meets.{IsPlain}
use Rattle.wac_types_merge.specs.declared.family.Family.{Family}
use Rattle.wac_types_merge.specs.declared.family.Import.{Import}

-- the own collection, and the imports
pub record Imports : Type 0 where
  pub types : Collection
  pub kept : List Import

abbrev pub imports_in : Collection → List Import → Imports
imports_in c ms = record { types = c; kept = ms }

abbrev pub import_of : Name → ItemKind → Family → Import
import_of n k f = record { name = n; kind = k; family = f }

-- no two names are equal or on one track
abbrev pub AreApart : List Import → Type 0
AreApart [] = Unit {0}
AreApart (m ∷ ms) = ((l : Import) → Among l ms → AreCompatible m.name l.name → ⊥) × AreApart ms

-- of an import of a family there is a greatest common tree with any other that has a common one
abbrev pub IsMergeable : Collection → Import → Type 0
IsMergeable c m = (m.family ≡ Family.Neither → ⊥) → IsPlain (tree_in c m.kind)

-- each import stands, and no two are on one track
pub record AreSound (g : Imports) : Type 0 where
  pub stand : (m : Import) → Among m g.kept → Stands g.types m.kind
  pub mergeable : (m : Import) → Among m g.kept → IsMergeable g.types m
  pub apart : AreApart g.kept

-- where the track of a name stands
abbrev pub IsPlace : List Import → Name → Option ℕ → Type 0
IsPlace ms n None = (m : Import) → Among m ms → AreCompatible m.name n → ⊥
IsPlace ms n (Some i) = (m : Import) × (slice_get ms i ≡ Some m) × AreCompatible m.name n

-- the name that stands on the name's track, else the name
abbrev pub IsCanonical : List Import → Name → Name → Type 0
IsCanonical ms n s = ((m : Import) × Among m ms × AreCompatible m.name n × (s ≡ m.name))
    ⊎ (((m : Import) → Among m ms → AreCompatible m.name n → ⊥) × (s ≡ n))

-- the later of two names
abbrev pub IsGreater : Name → Name → Name → Type 0
IsGreater old name s = (IsLater name old × (s ≡ name)) ⊎ ((IsLater name old → ⊥) × (s ≡ old))

-- the identifier of an instance is the name
abbrev pub IsIdentified : Collection → ItemKind → Name → Type 0
IsIdentified c (ItemKind.Instance i) n = identifier_of (stated_of c (ItemKind.Instance i)) ≡ Some n
IsIdentified c k n = Unit {0}

-- the narrower of two, of two equal ones the first
abbrev pub IsNarrower : Collection → ItemKind → ItemKind → ItemKind → Type 0
IsNarrower c a b k = (Fit c a c b × (k ≡ a)) ⊎ ((Fit c a c b → ⊥) × Fit c b c a × (k ≡ b))

abbrev pub NeitherFits : Collection → ItemKind → ItemKind → Type 0
NeitherFits c a b = (Fit c a c b → ⊥) × (Fit c b c a → ⊥)

-- a stated type under this identifier, where that is asked for
abbrev pub spelled_if : Bool → Name → Stated → Stated
spelled_if true n t = renamed n t
spelled_if false n t = t

-- k of d is j of c with its tree, and of an instance the name is the identifier
pub record IsSpelled (c : Collection) (j : ItemKind) (d : Collection) (n : Name) (k : ItemKind) : Type 0 where
  pub stands : Stands d k
  pub tree : tree_in d k ≡ tree_in c j
  pub identified : IsIdentified d k n
  pub stated : stated_of d k ≡ renamed n (stated_of c j)

-- the same, where that is asked for
pub record IsSpelledIf (c : Collection) (j : ItemKind) (d : Collection) (n : Name) (asked : Bool) (k : ItemKind) : Type 0 where
  pub stands : Stands d k
  pub tree : tree_in d k ≡ tree_in c j
  pub identified : IsTrue asked → IsIdentified d k n
  pub stated : stated_of d k ≡ spelled_if asked n (stated_of c j)

-- of two stated types the narrower, of two that fit each other the first
abbrev pub IsNarrowerOf : Stated → Stated → Stated → Type 0
IsNarrowerOf a b t = (Fits (tree a) (tree b) × (t ≡ a)) ⊎ ((Fits (tree a) (tree b) → ⊥) × Fits (tree b) (tree a) × (t ≡ b))

-- k is the narrower of two; where the name asked is on a track, an instance under this spelling as its identifier
pub record KeepsNarrower (a b : Stated) (name spelling : Name) (k : Stated) : Type 0 where
  pub narrower : Stated
  pub is : IsNarrowerOf a b narrower
  pub spelled : k ≡ spelled_if (is_some (lookup_key name)) spelling narrower
