use Rattle.std.proofs.Common.{sym, ◌∙◌}
use Rattle.wac_types_merge.specs.Imports.{IsSpelled}
use Rattle.wac_types_merge.proofs.Keeping.{if_ok}
use Rattle.wac_merging.specs.Kept.{Spells}
use Rattle.wac_merging.proofs.Keeping.{spelled_kept}
use Rattle.wac_merging.proofs.kept.kept_import.Goals as goal

pub returns-then-on_track-clause-spells : goal.returns-then-on_track-clause-spells
returns-then-on_track-clause-spells c =
    if_ok c.spelled.result (IsSpelled c.args.types.now c.args.kept.item c.spelled.new.own c.args.spelling.now) (Spells c.args.types.now c.args.kept c.args.spelling.now c.spelled.new.own) c.spelled.ensures.spelled
    (spelled_kept c.args.types.now c.args.kept c.args.spelling.now c.see_acyclic.ensures c.spelled.new.own c.if-kept.true (sym c.requires.on_track ∙ c.if-on_track.true))
