use Rattle.std.proofs.Common.{sym, ap, ◌∙◌, Ok}
use Rattle.std.specs.Map.{lookup}
use Rattle.wac_types_names.specs.NameMaps.{by_key}
use Rattle.wac_types_names.proofs.Maps.{by_key-entries_with, exact-found, new-unknown}
use Rattle.wac_types_names.proofs.names.NameMap.exact.Goals as goal

pub returns-in-None : goal.returns-in-None
returns-in-None g c = λ known. new-unknown (g.I.NameMapIntern.text_of c.args.cx.now) c.args.name.now c.args.self.now known (c.in_ok-lookup.ensures.absent (ap Ok c.in-None.is))

pub returns-in-Some : goal.returns-in-Some
returns-in-Some g c = λ known.
    let es = c.self.inside.definitions.entries in
    let ss = c.self.inside.names.items in
    let key = c.in-Some.key in
    let found = rw c.in-Some.is at c.in_ok-lookup.ensures.found in
    exact-found g.K.PartialEq.eq (g.I.NameMapIntern.text_of c.args.cx.now) (g.met.I.NameMapIntern.one_text c.args.cx.now) key c.args.name.now found c.args.self.now _ known
    (c.get.ensures.value ∙ ap (lookup (g.K.PartialEq.eq key)) (sym (by_key-entries_with ss es c.self.invariant.lengths) ∙ ap by_key c.self.view_is))
