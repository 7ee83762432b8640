use Rattle.wac.proofs.Refusing.{key_told, stops_map}
use Rattle.wac.proofs.sources.key_taken.Goals as goal

pub returns : goal.returns
returns c = stops_map c.taken_by.result (key_told c.args.source.now) c.taken_by.ensures
