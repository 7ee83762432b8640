use Rattle.std.proofs.Common.{subst, ap}
use Rattle.wac_types_base.specs.Entries.{AreDistinct, EachAmong}
use Rattle.wac_types_base.proofs.Keeping.{are_distinct, given_kept}
use Rattle.wac_types_base.proofs.entries.Entries.kept.Goals as goal

pub returns-clause-distinct : goal.returns-clause-distinct
returns-clause-distinct g c =
    subst AreDistinct (ap (λ v. v.kept) c.self.view_is) (are_distinct g.T.PartialEq.eq g.met.T.Once.one g.met.T.Eq.laws.refl c.self.inside.kept.keys c.as_slice.ensures.unique)

pub returns-clause-given : goal.returns-clause-given
returns-clause-given g c =
    subst (λ v. EachAmong v.kept v.given) c.self.view_is (given_kept c.self.inside.kept.keys c.self.inside.places.items c.self.invariant)
