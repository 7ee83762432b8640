use Rattle.std.proofs.Common.{◌∙◌, ap}
use Rattle.std.specs.Hash.{slice, str, fed_then, fed_along}
use Rattle.wac_types_base.specs.Entries.{names_of, values_of}
use Rattle.wac_types_base.proofs.Sameness.{texts_fed}
use Rattle.wac_types_base.proofs.equal.NamedMapHash.hash.Goals as goal

pub returns : goal.returns
returns g c =
    let a = c.args.self.now in
    let first = fed_along g.H.Hasher.write c.args.state.now c.hash.new.state (texts_fed c.names.result.now ∙ ap (slice str) c.names.ensures) c.hash.ensures in
    let second = fed_along g.H.Hasher.write c.hash.new.state c.hash-2.new.state (ap (slice g.T.Hash.hash_input) c.values.ensures) c.hash-2.ensures in
    fed_then g.H.Hasher.write c.args.state.now c.hash.new.state c.hash-2.new.state (slice str (names_of a)) (slice g.T.Hash.hash_input (values_of a)) first second
