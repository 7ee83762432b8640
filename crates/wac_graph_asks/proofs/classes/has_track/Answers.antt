use Rattle.std.proofs.Common.{sym, ap, ◌∙◌}
use Rattle.std.specs.Prelude.{is_some}
use Rattle.wac_types_names.specs.Tracks.{key_view}
use Rattle.wac_types_base.proofs.Standing.{is_some-option_map}
use Rattle.wac_graph_asks.proofs.Tracked.{has_key}
use Rattle.wac_graph_asks.proofs.classes.has_track.Goals as goal

pub returns : goal.returns
returns c = c.is_some.ensures ∙ sym (is_some-option_map key_view c.in_ok-key.key) ∙ ap is_some c.in_ok-key.ensures ∙ has_key c.args.name.now
