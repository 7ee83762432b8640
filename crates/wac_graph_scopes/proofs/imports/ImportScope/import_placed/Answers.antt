use Rattle.std.proofs.Common.{Some, slice_set, sym, ap, ◌∙◌, subst}
use Rattle.wac_types_fit.specs.Trees.{tree_in}
use Rattle.wac_graph_scopes.specs.declared.items.ItemScope.{ItemScope}
use Rattle.wac_graph_scopes.specs.Imports.{ImportsItem}
use Rattle.wac_graph_scopes.proofs.ImportLaws.{world_imports}
use Rattle.wac_graph_scopes.proofs.imports.ImportScope.import_placed.Goals as goal

pub returns-clause-imports : goal.returns-clause-imports
returns-clause-imports c w outer from imported exported distinct stands there new h =
    let types = c.args.all.types.now in
    let import = c.args.import in
    let n = import.name.now in
    let d = c.args.description in
    let p = c.in_ok-place.place in
    let i = h.goes.writing.inside in
    let a = c.in_ok-place.ensures.imports w outer i h.goes.writing.stands stands h.sorted h.reads in
    let b = subst (λ (s : ItemScope). ImportsItem w types outer i n (tree_in types import.kind) d s p) (sym c.set_place.ensures.scope) a in
    let us = c.set_place.ensures.used ∙ c.in_ok-place.ensures.used in
    let ps = c.set_place.ensures.places ∙ ap (λ v. slice_set v.items c.args.at (Some p)) c.in_ok-place.ensures.places in
    world_imports w types outer c.args.all.world imported exported c.args.self.now c.set_place.new.self h.goes n import.kind d c.args.at p there distinct h.sorted b us ps new
