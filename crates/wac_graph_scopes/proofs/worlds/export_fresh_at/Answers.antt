use Rattle.std.proofs.Common.{refl}
use Rattle.wac_types_fit.specs.Trees.{tree_in}
use Rattle.wac_types_parts.specs.Parts.{world_exports_of}
use Rattle.wac_graph_scopes.proofs.WritingLaws.{value_here}
use Rattle.wac_types_base.proofs.Lists.{not_among}
use Rattle.wac_graph_scopes.proofs.ImportLaws.{world_exports}
use Rattle.wac_graph_scopes.proofs.worlds.export_fresh_at.Goals as goal

pub returns-in_ok-add_name-in-Some : goal.returns-in_ok-add_name-in-Some
returns-in_ok-add_name-in-Some c w outer imported h =
    let types = c.args.all.types.now in
    let world = c.args.all.world in
    let item = c.in-Some.item in
    let n = item.name.now in
    let e = c.in_ok-export_resource-in-Some.ensures.exports w outer h.writing.inside h.writing.stands c.in-Some.ensures.fresh in
    world_exports w types outer world imported c.args.exported.now c.args.scope.now c.export_resource.new.scope h n (tree_in types item.kind) c.add_name.new.names
    (item.kind, value_here (world_exports_of types world) c.args.at n item.kind c.requires c.in-Some.ensures.entry, refl) e (not_among c.args.exported.now n c.in-Some.ensures.new) c.in_ok-add_name-in-Some.ensures
