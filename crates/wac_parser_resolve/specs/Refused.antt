-- Why a document whose statements are said is refused: a cause that stands against its composition, or names that are alike.
use Rattle.std.specs.Prelude.{◌≡◌, ◌⊎◌, Bool, true, List, Option, Some, Ok, Err}
use Rattle.wac_types_base.specs.Stated.{Stated}
use Rattle.wac_types_names.specs.Keys.{Key}
use Rattle.wac_composition.specs.Conflicts as cause
use Rattle.wac_composition.specs.Conflicts.{name_cause}
use Rattle.wac_composition.specs.Against.{StandsAgainst}
use Rattle.wac_parser_tree.specs.Trees as t
use Rattle.wac_parser_refusals.specs.Causes.{Cause}
use Rattle.wac_parser_declare.specs.Packages.{Content}
use Rattle.wac_parser_resolve.specs.Ascribing.{State}
use Rattle.wac_parser_resolve.specs.Meeting.{resolved}
use Rattle.wac_parser_resolve.specs.Ascribed.{Asker, composition, cause_said, ascribed}

pub data IsRefusedFor (define : Bool) (g : State) : Cause → Type 0 where
  standing : (x : cause.Cause Asker) → StandsAgainst define (composition g) x → IsRefusedFor define g (cause_said x)
  alike : (x : cause.Cause Asker) → name_cause define true (composition g) ≡ Some x → IsRefusedFor define g (cause_said x)

-- what its statements or its target are refused for, or such a cause
abbrev pub Refusals_stand : Type 0
Refusals_stand = (d : t.Document) (ps : List (Key × Content)) (define : Bool) (x : Cause) → ascribed define d ps ≡ Err x
    → (resolved d ps ≡ Err x) ⊎ ((r : State × Option Stated) × (resolved d ps ≡ Ok r) × IsRefusedFor define r.0 x)
