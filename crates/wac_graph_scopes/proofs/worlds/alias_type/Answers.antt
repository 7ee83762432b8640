use Rattle.std.proofs.Common.{refl}
use Rattle.wac_types_fit.specs.Trees.{tree_in}
use Rattle.wac_graph_scopes.proofs.ImportLaws.{source_on}
use Rattle.wac_graph_scopes.proofs.worlds.alias_type.Goals as goal

pub returns-in_ok-add_used : goal.returns-in_ok-add_used
returns-in_ok-add_used c w outer i imported exported h s =
    let types = c.args.all.types.now in
    let own = source_on w i.here h.goes.writing.inside.here outer c.args.name.name.now (tree_in types c.args.item) c.args.instance h.on.extends s in
    let a = c.in_ok-add_used.ensures.adds c.args.all.world c.requires (c.if-is_used_kind.ensures.0 refl) w outer i imported exported h own in
    record { goes = a.goes; on = a.on }
