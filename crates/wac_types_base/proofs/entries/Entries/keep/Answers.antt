use Rattle.std.proofs.Common.{◌∙◌, ap, subst}
use Rattle.wac_types_base.specs.Kept.{KeepsOnce}
use Rattle.wac_types_base.proofs.Keeping.{inserts_once, once_given}
use Rattle.wac_types_base.proofs.entries.Entries.keep.Goals as goal

pub returns-clause-given : goal.returns-clause-given
returns-clause-given g c =
    let old = c.self.inside.kept.keys in
    let new = c.insert_full.new.self.keys in
    let once = inserts_once g.T.PartialEq.eq g.met.T.Once.one g.met.T.Eq.laws.refl c.args.entry old new c.in_ok-place.ensures.keys in
    once_given c.args.entry old new c.self.inside.places.items once c.self.invariant ∙ ap (λ v. v.given) c.self.view_is

pub returns-clause-kept : goal.returns-clause-kept
returns-clause-kept g c =
    let old = c.self.inside.kept.keys in
    let new = c.insert_full.new.self.keys in
    let once = inserts_once g.T.PartialEq.eq g.met.T.Once.one g.met.T.Eq.laws.refl c.args.entry old new c.in_ok-place.ensures.keys in
    subst (λ v. KeepsOnce c.args.entry v.kept new) c.self.view_is once
