use Rattle.std.proofs.Common.{◌∙◌, ap, sym, subst, ◌≡◌, length, ◌++◌, ◌∷◌, [], slice_get, Some}
use Rattle.std.specs.Prelude.{filter_map}
use Rattle.std.proofs.lemmas.Option.{slice_get_within}
use Rattle.wac_types_base.specs.Kept.{KeepsOnce, ArePlaces}
use Rattle.wac_types_base.proofs.Keeping.{inserts_once, once_given, once_places, places_more, given_more, length_given}
use Rattle.wac_types_base.proofs.entries.Entries.push.Goals as goal

pub invariant_of-self-2 : goal.invariant_of-self-2
invariant_of-self-2 g c =
    let old = c.self.inside.kept.keys in
    let new = c.insert_full.new.self.keys in
    let ps = c.self.inside.places.items in
    let place = c.in_ok-place.place in
    let once = inserts_once g.T.PartialEq.eq g.met.T.Once.one g.met.T.Eq.laws.refl c.args.entry old new c.in_ok-place.ensures.keys in
    let stored = c.in_ok-place.ensures.stored in
    subst (ArePlaces new) (sym (c.push_reserved.ensures.items ∙ ap (λ l. l ++ place ∷ []) c.in_ok-reserve.ensures.items))
    (places_more new ps place (once_places c.args.entry old new ps once c.self.invariant) (slice_get_within new place stored.0 stored.1))

pub returns-clause-given : goal.returns-clause-given
returns-clause-given g c =
    let old = c.self.inside.kept.keys in
    let new = c.insert_full.new.self.keys in
    let ps = c.self.inside.places.items in
    let place = c.in_ok-place.place in
    let once = inserts_once g.T.PartialEq.eq g.met.T.Once.one g.met.T.Eq.laws.refl c.args.entry old new c.in_ok-place.ensures.keys in
    let stored = c.in_ok-place.ensures.stored in
    let there : slice_get new place ≡ Some c.args.entry = stored.1 ∙ ap Some (sym (g.met.T.Once.one c.args.entry stored.0 stored.2)) in
    ap (filter_map (slice_get new)) (c.push_reserved.ensures.items ∙ ap (λ l. l ++ place ∷ []) c.in_ok-reserve.ensures.items)
    ∙ given_more new ps place c.args.entry there
    ∙ ap (λ l. l ++ c.args.entry ∷ []) (once_given c.args.entry old new ps once c.self.invariant ∙ ap (λ v. v.given) c.self.view_is)

pub returns-clause-kept : goal.returns-clause-kept
returns-clause-kept g c =
    let old = c.self.inside.kept.keys in
    let new = c.insert_full.new.self.keys in
    let once = inserts_once g.T.PartialEq.eq g.met.T.Once.one g.met.T.Eq.laws.refl c.args.entry old new c.in_ok-place.ensures.keys in
    subst (λ v. KeepsOnce c.args.entry v.kept new) c.self.view_is once

pub returns-clause-index : goal.returns-clause-index
returns-clause-index g c =
    c.len-index.ensures ∙ c.self.inside.places.ok.0 ∙ sym (length_given c.self.inside.kept.keys c.self.inside.places.items c.self.invariant)
    ∙ ap (λ v. length v.given) c.self.view_is
