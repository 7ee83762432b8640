use Rattle.std.proofs.Common.{[], sym, subst}
use Rattle.wac_graph_scopes.specs.Imports.{WritesWorld}
use Rattle.wac_graph_scopes.proofs.ImportLaws.{written}
use Rattle.wac_graph_scopes.proofs.worlds.write_between.Goals as goal

pub returns : goal.returns
returns c w outer imported h =
    let types = c.args.all.types.now in
    let a = c.in_ok-alias_world_uses.ensures w outer h.writing.inside imported [] (written w types outer c.args.all.world imported [] c.args.scope.now h) in
    c.in_ok-export_resources.ensures w outer imported (subst (WritesWorld w types outer c.args.all.world c.alias_world_uses.new.scope imported) (sym c.new-exported.ensures) a.goes)
