use Rattle.std.proofs.Common.{◌+◌, map, sym, ap, ◌∙◌, subst}
use Rattle.wac_types_base.proofs.Loops.{map-get, get-place}
use Rattle.wac_types_names.specs.Spellings.{kept_track, place_view, later_of, IsBest}
use Rattle.wac_types_names.proofs.Latest.{best_step, best_init}
use Rattle.wac_types_names.proofs.spelling.latest_on.Goals as goal

pub loop-at-preserved : goal.loop-at-preserved
loop-at-preserved c =
    let names = c.args.names.now in
    let at = c.loop-at.at in
    let place = map-get kept_track names at c.index-names-at.result (get-place names at c.index-names-at.result c.loop-at-test.true c.index-names-at.is) in
    let step = best_step (map kept_track names) c.args.key.now at (place_view c.loop-at.latest) (kept_track c.index-names-at.result) c.loop-at.invariant place in
    subst (λ b. IsBest (map kept_track names) c.args.key.now (at + 1) b) (ap (λ f. later_of (place_view c.loop-at.latest) at f) (sym c.version_on.ensures) ∙ sym c.later-latest.ensures) step

pub loop-at-init : goal.loop-at-init
loop-at-init c = best_init (map kept_track c.args.names.now) c.args.key.now
