use Rattle.std.proofs.Common.{sym, ap, subst, ◌∙◌}
use Rattle.std.specs.List.{IsDistinct}
use Rattle.std.specs.Map.{keys_of}
use Rattle.wac_types_names.specs.NameMaps.{by_key}
use Rattle.wac_types_names.proofs.Maps.{by_key-entries_with, names_apart}
use Rattle.wac_types_names.proofs.names.NameMap.raw_iter.Goals as goal

pub returns-clause-rest : goal.returns-clause-rest
returns-clause-rest g c = c.iter.ensures.rest ∙ sym (by_key-entries_with c.self.inside.names.items c.self.inside.definitions.entries c.self.invariant.lengths) ∙ ap by_key c.self.view_is

pub returns-clause-distinct : goal.returns-clause-distinct
returns-clause-distinct g c = λ text one known.
    let es = c.self.inside.definitions.entries in
    let seen = sym (by_key-entries_with c.self.inside.names.items es c.self.invariant.lengths) ∙ ap by_key c.self.view_is in
    names_apart g.K.PartialEq.eq text one c.args.self.now known (subst (λ l. IsDistinct g.K.PartialEq.eq (keys_of l)) seen c.len-count.ensures.unique)
