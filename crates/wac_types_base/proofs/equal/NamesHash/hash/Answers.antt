use Rattle.std.proofs.Common.{◌∙◌, ap}
use Rattle.std.specs.Hash.{slice, str, fed_along}
use Rattle.wac_types_base.proofs.Sameness.{texts_fed}
use Rattle.wac_types_base.proofs.equal.NamesHash.hash.Goals as goal

pub returns : goal.returns
returns g c = fed_along g.H.Hasher.write c.args.state.now c.hash.new.state (texts_fed c.as_slice.result.now ∙ ap (slice str) c.as_slice.ensures) c.hash.ensures
