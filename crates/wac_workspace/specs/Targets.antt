-- A component's world that meets a target.
use Rattle.std.specs.Prelude.{◌≡◌, Option, Some, None, slice_get}
use Rattle.wac_types_base.specs.declared.ids.WorldId.{WorldId}
use Rattle.wac_types_base.specs.declared.defined.World.{World}
use Rattle.wac_types_base.specs.Record.{Collection}
use Rattle.wac_types_base.specs.Entries.{Name, value_at}
use Rattle.wac_types_base.specs.Graph.{Among}
use Rattle.wac_types_base.specs.Stated.{Stated, exports_of, imports_of, promote, stated_world}
use Rattle.wac_types_base.specs.Tree.{tree}
use Rattle.wac_types_base.specs.Fits.{Fits}
use Rattle.wac_types_fit.specs.Targets.{IsEmptyReport, IsReport, Report}
use Rattle.wac_parser_resolve.specs.Meeting.{given_by}

-- the target gives something under the import's name that fits it
abbrev pub IsGiven : Stated → Name × Stated → Type 0
IsGiven target e = (x : Stated) × (given_by target e.0 ≡ Some x) × Fits (tree (promote x)) (tree e.1)

-- the world exports something under the export's name that fits it
abbrev pub IsExported : Stated → Name × Stated → Type 0
IsExported world e = (x : Stated) × (value_at (exports_of world) e.0 ≡ Some x) × Fits (tree x) (tree (promote e.1))

-- Each import of the world is given by the target, and each export of the target is exported by the world.
pub record Meets (target world : Stated) : Type 0 where
  pub imports : (e : Name × Stated) → Among e (imports_of world) → IsGiven target e
  pub exports : (e : Name × Stated) → Among e (exports_of target) → IsExported world e

-- so it is where a target is named
abbrev pub MeetsIf : Option Stated → Stated → Type 0
MeetsIf None world = Unit {0}
MeetsIf (Some t) world = Meets t world

-- The report of a world over a target: that of two worlds which state these, in one collection. It is not empty.
pub record Reports (target world : Stated) (r : Report) : Type 0 where
  pub types : Collection
  pub target_id : WorldId
  pub target_states : stated_world types target_id ≡ target
  pub target_entry : World
  pub target_there : slice_get types.worlds target_id.index ≡ Some target_entry
  pub world_id : WorldId
  pub world_states : stated_world types world_id ≡ world
  pub world_entry : World
  pub world_there : slice_get types.worlds world_id.index ≡ Some world_entry
  pub report : IsReport types target_entry world_entry r
  pub some : IsEmptyReport r → ⊥
