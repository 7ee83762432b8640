-- What one ask does to an aggregator, and when it is refused.
use Rattle.std.specs.Prelude.{◌≡◌, ◌≢◌, ◌⊎◌, ℕ, List, [], ◌∷◌, ◌++◌, Some, IsSome, slice_get, slice_set}
use Rattle.wac_types_base.specs.declared.item.ItemKind.{ItemKind}
use Rattle.wac_types_base.specs.Record.{Collection}
use Rattle.wac_types_base.specs.Graph.{Among}
use Rattle.wac_types_base.specs.Entries.{Name}
use Rattle.wac_types_base.specs.Collection.{Grows}
use Rattle.wac_types_base.specs.Stated.{stated_of}
use Rattle.wac_types_base.specs.Copying.{IsCopy}
use Rattle.wac_types_base.specs.Tree.{Tree}
use Rattle.wac_types_base.specs.Fits.{Fits}
use Rattle.wac_types_names.specs.Tracks.{lookup_key, AreCompatible}
use Rattle.wac_types_fit.specs.Trees.{tree_in}
use Rattle.wac_types_fit.specs.Meets.{IsMeet, Clash}
use Rattle.wac_types_fit.specs.Frames.{Step, Disagree}
use Rattle.wac_types_merge.specs.declared.error.AggregateError.{AggregateError}
use Rattle.wac_types_merge.specs.declared.family.Family.{Family}
use Rattle.wac_types_merge.specs.declared.family.Import.{Import}
use Rattle.wac_types_merge.specs.Families.{IsFamily, UsesUnnamed, joint}
use Rattle.wac_types_merge.specs.Errors.{Refuses}
use Rattle.wac_types_merge.specs.United.{KeepsUnited}
use Rattle.wac_types_merge.specs.Imports.{Imports, IsGreater, IsIdentified, KeepsNarrower}

-- an ask: a name, and an item of a collection
pub record Ask : Type 0 where
  pub name : Name
  pub types : Collection
  pub kind : ItemKind

abbrev pub ask_for : Name → Collection → ItemKind → Ask
ask_for n c k = record { name = n; types = c; kind = k }

-- the tree that is asked
abbrev pub tree_asked : Ask → Tree
tree_asked a = tree_in a.types a.kind

abbrev pub HasFamily : Ask → Family → Type 0
HasFamily a f = IsFamily a.types a.name a.kind f

-- the import that stands on the ask's track
pub record IsBeside (ms : List Import) (a : Ask) (at : ℕ) (m : Import) : Type 0 where
  pub there : slice_get ms at ≡ Some m
  pub track : AreCompatible m.name a.name

-- the ask is the first on its track: it is a new import
pub record FirstAsked (old new : Imports) (a : Ask) : Type 0 where
  pub alone : (m : Import) → Among m old.kept → AreCompatible m.name a.name → ⊥
  pub added : Import
  pub kept : new.kept ≡ old.kept ++ added ∷ []
  pub name : added.name ≡ a.name
  pub copied : IsCopy a.types new.types a.kind added.kind
  pub family : HasFamily a added.family

-- its track has an import already: that becomes the meet of the two, under the greater name
pub record AskedAgain (old new : Imports) (a : Ask) : Type 0 where
  pub at : ℕ
  pub before : Import
  pub after : Import
  pub beside : IsBeside old.kept a at before
  pub kept : new.kept ≡ slice_set old.kept at after
  pub name : IsGreater before.name a.name after.name
  pub own_family : Family
  pub has : HasFamily a own_family
  pub family : after.family ≡ joint before.family own_family
  pub meet : IsMeet (tree_in new.types after.kind) (tree_in old.types before.kind ∷ tree_asked a ∷ [])
  -- in one family, what merging makes of the two
  pub united : (after.family ≡ Family.Neither → ⊥)
      → KeepsUnited (stated_of old.types before.kind) (stated_of a.types a.kind) a.name after.name
      (stated_of new.types after.kind)
  -- in no one family, the narrower of the two
  pub narrower : after.family ≡ Family.Neither
      → KeepsNarrower (stated_of old.types before.kind) (stated_of a.types a.kind) a.name after.name
      (stated_of new.types after.kind)
  pub identified : IsSome (lookup_key a.name) → IsIdentified new.types after.kind after.name

-- what an accepted ask does; the other imports keep their trees
pub record IsAsked (old : Imports) (a : Ask) (new : Imports) : Type 0 where
  pub named : UsesUnnamed a.types a.kind → ⊥
  pub one : FirstAsked old new a ⊎ AskedAgain old new a
  pub grows : Grows old.types new.types

-- all asks on the track lie in one family, and no tree fits them
pub record HaveNoCommon (old : Imports) (a : Ask) : Type 0 where
  pub at : ℕ
  pub before : Import
  pub beside : IsBeside old.kept a at before
  pub own_family : Family
  pub has : HasFamily a own_family
  pub one_family : joint before.family own_family ≢ Family.Neither
  pub clash : Clash (tree_in old.types before.kind) (tree_asked a)

-- the asks on the track lie in no one family, and neither of the two fits the other
pub record AreOutside (old : Imports) (a : Ask) : Type 0 where
  pub at : ℕ
  pub before : Import
  pub beside : IsBeside old.kept a at before
  pub own_family : Family
  pub has : HasFamily a own_family
  pub no_family : joint before.family own_family ≡ Family.Neither
  pub kept_wider : Fits (tree_in old.types before.kind) (tree_asked a) → ⊥
  pub asked_wider : Fits (tree_asked a) (tree_in old.types before.kind) → ⊥

-- the steps lead to where what is kept on the ask's track and what is asked disagree
pub record LeadApart (old : Imports) (a : Ask) (ss : List Step) : Type 0 where
  pub at : ℕ
  pub before : Import
  pub beside : IsBeside old.kept a at before
  pub apart : Disagree ss (tree_in old.types before.kind) (tree_asked a)

-- why an ask is refused
abbrev pub IsRefused : Imports → Ask → AggregateError → Type 0
IsRefused old a e = Refuses e (HaveNoCommon old a) (AreOutside old a) (UsesUnnamed a.types a.kind)
