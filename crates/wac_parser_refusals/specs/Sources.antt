-- What stands behind a cause: that something given does not fit what is asked, and what the checker says of that.
use Rattle.std.specs.Prelude.{◌≡◌, Option, Some}
use Rattle.wac_types_base.specs.declared.item.ItemKind.{ItemKind}
use Rattle.wac_types_base.specs.Record.{Collection}
use Rattle.wac_types_base.specs.Stated.{Stated, stated_of}
use Rattle.wac_types_base.specs.Tree.{tree}
use Rattle.wac_types_fit.specs.declared.checker.SubtypeCheck.{SubtypeCheck}
use Rattle.wac_types_fit.specs.Errors.{Said}
use Rattle.wac_types_fit.specs.Frames.{Disagree}
use Rattle.wac_types_fit.specs.Words.{Called, CalledUnder}

pub data Source : Type 0 where
  nothing : Source
  -- what an error says: the steps and words of a mismatch, or none
  reported : Option Said → Source
  -- by the direction of a check, what is given and what is asked
  between : SubtypeCheck → Stated → Stated → Source

-- an item of a collection states this
pub record StatedIn (x : Stated) : Type 0 where
  pub types : Collection
  pub kind : ItemKind
  pub is : stated_of types kind ≡ x

-- The steps lead from what is given to what is asked, to two that disagree or to one that is missing, and the words are what
-- these two are called.
pub record TellsOf (way : SubtypeCheck) (given asked : Stated) (m : Said) : Type 0 where
  pub from : StatedIn given
  pub to : StatedIn asked
  pub steps : Disagree m.0 (tree given) (tree asked)
  pub words : CalledUnder way (Called from.types from.kind m.0) (Called to.types to.kind m.0) m.1.0 m.1.1

-- what an error says tells of the two
abbrev pub TellsBetween : SubtypeCheck → Stated → Stated → Source → Type 0
TellsBetween way given asked (reported (Some m)) = TellsOf way given asked m
TellsBetween way given asked s = ⊥
