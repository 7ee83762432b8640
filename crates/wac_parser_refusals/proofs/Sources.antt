-- When steps and words tell of two items.
use Rattle.std.proofs.Common.{refl}
use Rattle.wac_types_base.specs.declared.item.ItemKind.{ItemKind}
use Rattle.wac_types_base.specs.Record.{Collection}
use Rattle.wac_types_base.specs.Stated.{stated_of}
use Rattle.wac_types_fit.specs.declared.checker.SubtypeCheck.{SubtypeCheck}
use Rattle.wac_types_fit.specs.Errors.{Said}
use Rattle.wac_types_fit.specs.Frames.{Disagree}
use Rattle.wac_types_fit.specs.Trees.{tree_in}
use Rattle.wac_types_fit.specs.Words.{Called, CalledUnder}
use Rattle.wac_parser_refusals.specs.Sources.{TellsOf}

-- of what two kinds state, where the steps lead from the one to the other and the words are theirs
pub tells_of : (way : SubtypeCheck) (c : Collection) (j : ItemKind) (d : Collection) (k : ItemKind) (m : Said) → Disagree m.0 (tree_in c j) (tree_in d k) → CalledUnder way (Called c j m.0) (Called d k m.0) m.1.0 m.1.1
    → TellsOf way (stated_of c j) (stated_of d k) m
unfolding tree_in
tells_of way c j d k m steps words = record {
  from = record { types = c; kind = j; is = refl };
  to = record { types = d; kind = k; is = refl };
  steps = steps;
  words = words;
}
