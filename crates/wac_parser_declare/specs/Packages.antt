-- What is known of packages, and what a package defines.
use base.Stored.{Gv}
use Rattle.std.specs.Prelude.{◌≡◌, ℕ, List, Option, option_map, Result}
use Rattle.wac_types_base.specs.declared.item.ItemKind.{ItemKind}
use Rattle.wac_types_base.specs.Record.{Collection}
use Rattle.wac_types_base.specs.Collection.{SlotStands}
use Rattle.wac_types_base.specs.Entries.{Name, value_at}
use Rattle.wac_types_base.specs.Stated.{Stated, stated_of}
use Rattle.wac_types_names.specs.Keys.{Key}
use Rattle.wac_parser_tree.specs.Trees as t
use Rattle.wac_parser_tree.specs.Segments.{package_name_span}
use Rattle.wac_parser_tree.specs.declared.import.PackagePath.{PackagePath}
use Rattle.wac_parser_tree.specs.Views.{view_package_path}
use Rattle.wac_parser_refusals.specs.declared.refusal.Refusal.{Refusal}
use Rattle.wac_parser_refusals.specs.Causes.{Answer, ◌>>=◌, UnknownPackage, present, pure}
use Rattle.wac_parser_refusals.specs.Outcomes.{IsOutcome}
use Rattle.wac_parser_declare.specs.Scope.{definitions}

-- what a package has: its world and its bytes
pub record Content : Type 0 where
  pub world : Stated
  pub bytes : List ℕ

-- what the package of each key has, if there is one, and a code of all else that holds the collection
pub record Known : Type 0 where
  pub packages : Key → Option Content
  pub rest : ℕ → Gv

abbrev pub world_if : Option Content → Option Stated
world_if o = option_map (λ (c : Content). c.world) o

-- the package of each key has what it had, and nothing else is touched
pub record SamePackages (f g : Known) : Type 0 where
  pub same : (k : Key) → g.packages k ≡ f.packages k
  pub rest : (k : ℕ) → g.rest k ≡ f.rest k

-- the world of the package that a path names
abbrev pub named_package : Known → t.PackagePath → Answer Stated
named_package known p = present (world_if (known.packages (p.name, p.version))) (UnknownPackage p.name) (package_name_span p)

-- what that package defines under a name, if it does
abbrev pub defined_in : Known → t.PackagePath → Name → Answer (Option Stated)
defined_in known p n = named_package known p >>= λ w. pure (value_at (definitions w) n)

-- an item that stands, and this is stated there; or there is none
pub record HoldsIf (c : Collection) (t : Option Stated) (o : Option ItemKind) : Type 0 where
  pub stands : SlotStands c o
  pub same : option_map (stated_of c) o ≡ t

abbrev pub IsDefinition : PackagePath → Name → Known → Collection → Result (Option ItemKind) Refusal → Type 0
IsDefinition p n known d r = IsOutcome (HoldsIf d) (defined_in known (view_package_path p) n) r
