use Rattle.std.proofs.Common.{◌∙◌, ap, sym, length, arith, slice_get, get_or}
use Rattle.wac_types_base.proofs.Keeping.{length_given, read, place_at, given_at}
use Rattle.wac_types_base.proofs.entries.Entries.get.Goals as goal

pub index-requires : goal.index-requires
index-requires g c =
    let same = ap (λ v. length v.given) c.self.view_is in
    let len = length_given c.self.inside.kept.keys c.self.inside.places.items c.self.invariant in
    omega (arith, c.requires, same, len, c.self.inside.places.ok.0)

pub offset_bounds-as_slice-index : goal.offset_bounds-as_slice-index
offset_bounds-as_slice-index g c =
    let same = ap (λ v. length v.given) c.self.view_is in
    let len = length_given c.self.inside.kept.keys c.self.inside.places.items c.self.invariant in
    let at = read c.self.inside.places.items c.args.at c.index.result.now (omega (arith, c.requires, same, len)) c.index.ensures in
    let below = place_at c.self.inside.kept.keys c.self.inside.places.items c.args.at c.index.result.now c.self.invariant at in
    omega (arith, below, ap (λ l. length l) c.as_slice.ensures.keys)

pub bounds-as_slice-index : goal.bounds-as_slice-index
bounds-as_slice-index g c =
    let same = ap (λ v. length v.given) c.self.view_is in
    let len = length_given c.self.inside.kept.keys c.self.inside.places.items c.self.invariant in
    let at = read c.self.inside.places.items c.args.at c.index.result.now (omega (arith, c.requires, same, len)) c.index.ensures in
    let below = place_at c.self.inside.kept.keys c.self.inside.places.items c.args.at c.index.result.now c.self.invariant at in
    omega (arith, below, ap (λ l. length l) c.as_slice.ensures.keys)

pub returns : goal.returns
returns g c =
    let same = ap (λ v. length v.given) c.self.view_is in
    let len = length_given c.self.inside.kept.keys c.self.inside.places.items c.self.invariant in
    let at = read c.self.inside.places.items c.args.at c.index.result.now (omega (arith, c.requires, same, len)) c.index.ensures in
    let below = place_at c.self.inside.kept.keys c.self.inside.places.items c.args.at c.index.result.now c.self.invariant at in
    let there = read c.self.inside.kept.keys c.index.result.now c.index-as_slice-index.result below (c.index-as_slice-index.is ∙ ap (λ l. get_or l c.index.result.now c.index-as_slice-index.result) c.as_slice.ensures.keys) in
    ap (λ v. slice_get v.given c.args.at) (sym c.self.view_is) ∙ given_at c.self.inside.kept.keys c.self.inside.places.items c.args.at c.index.result.now c.self.invariant at ∙ there
