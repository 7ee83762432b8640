use Rattle.std.proofs.Common.{◌∙◌, ap}
use Rattle.std.specs.Hash.{slice, fed_then, fed_along}
use Rattle.wac_types_base.specs.Entries.{names_of, values_of}
use Rattle.wac_types_base.proofs.Sameness.{pairs_fed}
use Rattle.wac_types_base.specs.Equal.{fed_two}
use Rattle.wac_types_base.specs.contracts.core_types.CoreExternHash.TheImpl.{hash_input-value as extern_fed}
use Rattle.wac_types_base.proofs.equal.CoreImportsHash.hash.Goals as goal

pub returns : goal.returns
returns g c =
    let a = c.args.self.now in
    let first = fed_along g.H.Hasher.write c.args.state.now c.hash.new.state (pairs_fed c.names.result.now ∙ ap (slice fed_two) c.names.ensures) c.hash.ensures in
    let second = fed_along g.H.Hasher.write c.hash.new.state c.hash-2.new.state (ap (slice extern_fed.it) c.values.ensures) c.hash-2.ensures in
    fed_then g.H.Hasher.write c.args.state.now c.hash.new.state c.hash-2.new.state (slice fed_two (names_of a)) (slice extern_fed.it (values_of a)) first second
