use Rattle.std.proofs.Common.{◌∙◌, sym}
use Rattle.wac_types_names.proofs.TrackTexts.{no_dot}
use Rattle.wac_types_names.proofs.track.dot_from.Goals as goal

pub returns-in-None : goal.returns-in-None
returns-in-None c = no_dot c.args.text.now c.args.from c.requires (sym c.place_of.ensures ∙ c.in-None.is)
