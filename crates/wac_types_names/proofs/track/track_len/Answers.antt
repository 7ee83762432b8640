use Rattle.std.proofs.Common.{arith, sym, ◌∙◌}
use Rattle.std.proofs.lemmas.Bool.{eqb-true}
use Rattle.semver.specs.Identifiers.{parts_of}
use Rattle.wac_types_names.proofs.TrackTexts.{track_first, track_second, two_long}
use Rattle.wac_types_names.proofs.track.track_len.Goals as goal

pub dot_from-requires-then-version-gt0-2 : goal.dot_from-requires-then-version-gt0-2
dot_from-requires-then-version-gt0-2 c = two_long c.args.text.now (parts_of c.args.version.now) c.requires (omega arith)

pub returns-then-version-gt0 : goal.returns-then-version-gt0
returns-then-version-gt0 c = track_first c.args.text.now (parts_of c.args.version.now) _ c.requires (eqb-true _ 0 (sym c.is_empty.ensures ∙ c.if-not-is_empty.false)) c.if-version-gt0.true c.dot_from.ensures

pub returns-then-version-gt0-2 : goal.returns-then-version-gt0-2
returns-then-version-gt0-2 c = track_second c.args.text.now (parts_of c.args.version.now) _ c.requires (eqb-true _ 0 (sym c.is_empty.ensures ∙ c.if-not-is_empty.false)) (omega arith) c.if-version-gt0-2.true c.dot_from-then-version-gt0-2.ensures
