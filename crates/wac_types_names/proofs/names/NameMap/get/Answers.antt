use Rattle.std.proofs.Common.{sym, ap, ◌∙◌}
use Rattle.std.specs.Option.{option_copied, option_map}
use Rattle.semver.specs.Identifiers.{parts_of}
use Rattle.wac_types_names.specs.Tracks.{key_view}
use Rattle.wac_types_names.specs.NameMaps.{by_name}
use Rattle.wac_types_names.proofs.Giving.{gives-exact, exact-new, gives-no_track, gives-latest}
use Rattle.wac_types_names.proofs.names.NameMap.get.Goals as goal

pub returns-in-Some : goal.returns-in-Some
returns-in-Some g c = λ known. gives-exact (by_name c.args.self.now) c.args.name.now _ c.in-Some.item.now (ap option_copied c.in-Some.is) (c.in_ok-item.ensures known)

pub returns-in_default-2 : goal.returns-in_default-2
returns-in_default-2 g c = λ known.
    let off = exact-new (by_name c.args.self.now) c.args.name.now _ (ap option_copied c.in_default.is) (c.in_ok-item.ensures known) in
    gives-no_track (by_name c.args.self.now) c.args.name.now off (sym c.in_ok-track.ensures ∙ ap (option_map key_view) c.in_default-2.is)

pub returns : goal.returns
returns g c = λ known.
    let off = exact-new (by_name c.args.self.now) c.args.name.now _ (ap option_copied c.in_default.is) (c.in_ok-item.ensures known) in
    gives-latest (by_name c.args.self.now) c.args.name.now off c.in-Some-2.track.now (parts_of c.in-Some-2.field-0-1) _ (sym c.in_ok-track.ensures ∙ ap (option_map key_view) c.in-Some-2.is) c.latest.ensures
