use Rattle.std.proofs.Common.{sym, subst, map, Some, None}
use Rattle.wac_types_names.specs.NameMaps.{by_name, IsLatestOn}
use Rattle.wac_types_names.specs.Spellings.{kept_track, IsBestPlace}
use Rattle.wac_types_names.proofs.Giving.{latest_some, latest_none}
use Rattle.wac_types_names.proofs.names.NameMap.latest.Goals as goal

pub returns-in-None : goal.returns-in-None
returns-in-None g c =
    let best = subst (λ t. IsBestPlace (map kept_track t) c.args.track.now None) c.as_slice.ensures.value c.in-None.ensures in
    subst (λ m. IsLatestOn (by_name m) c.args.track.now None) c.self.view_is (latest_none c.self.inside.names.items c.self.inside.definitions.entries c.self.invariant c.args.track.now best)

pub returns-in-Some-get_index : goal.returns-in-Some-get_index
returns-in-Some-get_index g c =
    let best = subst (λ t. IsBestPlace (map kept_track t) c.args.track.now (Some c.in-Some.place)) c.as_slice.ensures.value c.in-Some.ensures in
    subst (λ m. IsLatestOn (by_name m) c.args.track.now (Some c.in-Some-get_index.item.now)) c.self.view_is
    (latest_some c.self.inside.names.items c.self.inside.definitions.entries c.self.invariant c.args.track.now c.in-Some.place c.in-Some-get_index.field-0-0.now c.in-Some-get_index.item.now best (sym c.in-Some-get_index.ensures.entry))
