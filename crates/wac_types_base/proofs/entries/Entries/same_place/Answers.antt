use Rattle.std.proofs.Common.{◌∙◌, ap, sym, subst, length, arith, slice_get}
use Rattle.std.specs.Cmp.{unsigned_Decides}
use Rattle.wac_types_base.specs.Entries.{AreDistinct}
use Rattle.wac_types_base.proofs.Keeping.{length_given, got, read, place_at, given_at, one_place}
use Rattle.wac_types_base.proofs.entries.Entries.same_place.Goals as goal

pub index-requires : goal.index-requires
index-requires g c =
    let same = ap (λ v. length v.given) c.self.view_is in
    let len = length_given c.self.inside.kept.keys c.self.inside.places.items c.self.invariant in
    omega (arith, c.requires.first, same, len, c.self.inside.places.ok.0)

pub index-requires-2 : goal.index-requires-2
index-requires-2 g c =
    let same = ap (λ v. length v.given) c.self.view_is in
    let len = length_given c.self.inside.kept.keys c.self.inside.places.items c.self.invariant in
    omega (arith, c.requires.second, same, len, c.self.inside.places.ok.0)

pub returns : goal.returns
returns g c =
    let ks = c.self.inside.kept.keys in
    let ps = c.self.inside.places.items in
    let same = ap (λ v. length v.given) c.self.view_is in
    let len = length_given ks ps c.self.invariant in
    let p = c.index.result.now in
    let q = c.index-2.result.now in
    let at = read ps c.args.a p (omega (arith, c.requires.first, same, len)) c.index.ensures in
    let bt = read ps c.args.b q (omega (arith, c.requires.second, same, len)) c.index-2.ensures in
    let first = ap (λ v. slice_get v.given c.args.a) (sym c.self.view_is) ∙ given_at ks ps c.args.a p c.self.invariant at in
    let second = ap (λ v. slice_get v.given c.args.b) (sym c.self.view_is) ∙ given_at ks ps c.args.b q c.self.invariant bt in
    let apart = subst AreDistinct (ap (λ v. v.kept) (sym c.self.view_is)) c.kept.ensures.distinct in
    let x = got ks p (place_at ks ps c.args.a p c.self.invariant at) in (
      λ h. first ∙ ap (slice_get ks) ((unsigned_Decides p q).0 h) ∙ sym second,
      λ e. (unsigned_Decides p q).1 (one_place ks p q x.0 apart x.1 (sym second ∙ sym e ∙ first ∙ x.1)),
    )
