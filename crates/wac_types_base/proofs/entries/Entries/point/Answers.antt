use Rattle.std.proofs.Common.{◌∙◌, ap, length, slice_get, slice_set, arith}
use Rattle.wac_types_base.proofs.Keeping.{places_set, given_set, length_given}
use Rattle.wac_types_base.proofs.entries.Entries.point.Goals as goal

pub index_mut-requires : goal.index_mut-requires
index_mut-requires g c =
    let same = ap (λ v. length v.given) c.self.view_is in
    let len = length_given c.self.inside.kept.keys c.self.inside.places.items c.self.invariant in
    omega (arith, c.requires.at, same, len, c.self.inside.places.ok.0)

pub invariant_of-self : goal.invariant_of-self
invariant_of-self g c =
    places_set c.self.inside.kept.keys c.self.inside.places.items c.args.at c.args.to c.self.invariant
    (omega (arith, c.requires.place, ap (λ v. length v.kept) c.self.view_is))

pub returns-clause-given : goal.returns-clause-given
returns-clause-given g c x e =
    given_set c.self.inside.kept.keys c.self.inside.places.items c.args.at c.args.to x c.self.invariant (ap (λ v. slice_get v.kept c.args.to) c.self.view_is ∙ e)
    ∙ ap (λ v. slice_set v.given c.args.at x) c.self.view_is
