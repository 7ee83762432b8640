-- What an aggregator holds after a list of asks.
use Rattle.std.specs.Prelude.{◌≡◌, ◌≤◌, ℕ, List, [], ◌∷◌, ◌++◌, map, length, IsSome}
use Rattle.std.specs.Borrow.{Bor}
use Rattle.wac_types_base.specs.declared.item.ItemKind.{ItemKind}
use Rattle.wac_types_base.specs.Record.{Collection}
use Rattle.wac_types_base.specs.Graph.{Among}
use Rattle.wac_types_base.specs.Entries.{Name}
use Rattle.wac_types_base.specs.Collection.{Stands, empty}
use Rattle.wac_types_names.specs.Tracks.{lookup_key, AreCompatible, IsLater}
use Rattle.wac_types_fit.specs.Trees.{tree_in}
use Rattle.wac_types_fit.specs.Meets.{IsMeet}
use Rattle.wac_types_fit.specs.Targets.{AreThose}
use Rattle.wac_types_merge.specs.declared.error.AggregateError.{AggregateError}
use Rattle.wac_types_merge.specs.declared.family.Family.{Family}
use Rattle.wac_types_merge.specs.declared.family.Import.{Import}
use Rattle.wac_types_merge.specs.Families.{IsPlainItem, IsWitItem}
use Rattle.wac_types_merge.specs.Imports.{Imports, AreApart, IsIdentified, imports_in}
use Rattle.wac_types_merge.specs.Errors.{LeadsTo}
use Rattle.wac_types_merge.specs.Merging.{Ask, ask_for, tree_asked, IsAsked, IsRefused, LeadApart}

abbrev pub AllPlain : List Ask → Type 0
AllPlain on = (a : Ask) → Among a on → IsPlainItem a.types a.kind

abbrev pub AllWit : List Ask → Type 0
AllWit on = (a : Ask) → Among a on → IsWitItem a.types a.name a.kind

-- the one family that all lie in
abbrev pub LieIn : List Ask → Family → Type 0
LieIn on Family.Plain = AllPlain on
LieIn on Family.Wit = AllWit on
LieIn on Family.Neither = (AllPlain on → ⊥) × (AllWit on → ⊥)

-- the import is that of these asks, all of those on its track
pub record IsImportOf (c : Collection) (asks : List Ask) (m : Import) (on : List Ask) : Type 0 where
  pub those : AreThose (λ (a : Ask). AreCompatible m.name a.name) asks on
  pub family : LieIn on m.family
  -- its tree is the greatest that fits all of them
  pub meet : IsMeet (tree_in c m.kind) (map tree_asked on)
  -- its name is asked, and none of them is later
  pub asked : (a : Ask) × Among a on × (m.name ≡ a.name)
  pub greatest : (a : Ask) → Among a on → IsLater a.name m.name → ⊥
  pub identified : 2 ≤ length on → IsSome (lookup_key m.name) → IsIdentified c m.kind m.name

-- each track that is asked has one import
pub record Merges (asks : List Ask) (g : Imports) : Type 0 where
  pub each : (m : Import) → Among m g.kept → (on : List Ask) × IsImportOf g.types asks m on
  pub none_lost : (a : Ask) → Among a asks → (m : Import) × Among m g.kept × AreCompatible m.name a.name
  pub apart : AreApart g.kept

-- an aggregator of this number with no imports
abbrev pub none_yet : ℕ → Imports
none_yet n = imports_in (empty n) []

-- each of the asks is accepted by what those before it left
pub data AreAsked (old : Imports) : List Ask → Imports → Type 0 where
  none_asked : AreAsked old [] old
  one_more_asked : (asks : List Ask) (a : Ask) (g h : Imports) → AreAsked old asks g → IsAsked g a h
      → AreAsked old (asks ++ a ∷ []) h

-- an ask of a caller
abbrev pub Lent : Type 0
Lent = Bor Name × Bor Collection × ItemKind

abbrev pub ask_of : Lent → Ask
ask_of x = ask_for x.0.now x.1.now x.2

abbrev pub asks_of : List Lent → List Ask
asks_of xs = map ask_of xs

abbrev pub AsksStand : List Ask → Type 0
AsksStand asks = (a : Ask) → Among a asks → Stands a.types a.kind

-- an ask is refused by what those before it left, which is what they merge to
pub record IsListRefused (number : ℕ) (asks : List Ask) (e : AggregateError) : Type 0 where
  pub before : List Ask
  pub ask : Ask
  pub rest : List Ask
  pub is : asks ≡ before ++ ask ∷ rest
  pub so_far : Imports
  pub asked : AreAsked (none_yet number) before so_far
  pub merged : Merges before so_far
  pub refused : IsRefused so_far ask e
  pub frames : LeadsTo e (LeadApart so_far ask)
