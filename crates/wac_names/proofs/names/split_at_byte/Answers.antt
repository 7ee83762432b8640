use Rattle.std.proofs.Common.{sym, ◌∙◌}
use Rattle.wac_names.proofs.NameForms.{none_len, place_le}
use Rattle.wac_names.proofs.names.split_at_byte.Goals as goal

pub returns-in-None : goal.returns-in-None
returns-in-None c = none_len _ _ (place_le c.args.byte c.args.text.now) (sym c.place_of.ensures ∙ c.in-None.is)
