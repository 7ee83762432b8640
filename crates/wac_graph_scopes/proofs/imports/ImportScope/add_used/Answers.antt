use Rattle.wac_types_fit.specs.Trees.{tree_in}
use Rattle.wac_graph_scopes.proofs.UsedLaws.{used_type}
use Rattle.wac_graph_scopes.proofs.ImportLaws.{world_adds}
use Rattle.wac_graph_scopes.proofs.imports.ImportScope.add_used.Goals as goal

pub returns-clause-adds : goal.returns-clause-adds
returns-clause-adds c world stands used w outer i imported exported h src =
    let types = c.args.types.now in
    let item = c.args.item in
    let x = used_type types c.see_acyclic.ensures item stands used in
    let a = c.in_ok-index.ensures.aliases w types outer h.goes.writing.inside src.0 (tree_in types item) x.0 h.goes.writing.stands src.1 src.2 x.1 x.2 in
    world_adds w types outer world imported exported i c.args.self.now c.add_alias.new.self c.insert.new.self c.args.name.identifier.now c.args.name.name.now h a.after item c.in_ok-index.index a.goes c.in_ok-insert.ensures stands used a.index
