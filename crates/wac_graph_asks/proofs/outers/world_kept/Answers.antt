use Rattle.std.proofs.Common.{List, OnOk, sym, subst}
use Rattle.std.proofs.lemmas.Result.{IfOk-weaker, on_ok_weaker}
use Rattle.wac_types_base.specs.Collection.{HasChildren, world_entry}
use Rattle.wac_graph_asks.specs.declared.asks.Ask.{Ask}
use Rattle.wac_graph_asks.specs.Imported.{AddsImports, ImportsAlone}
use Rattle.wac_graph_asks.proofs.Answering.{filled_so, world_names_standing}
use Rattle.wac_graph_asks.proofs.outers.world_kept.Goals as goal

pub returns-clause-imports : goal.returns-clause-imports
returns-clause-imports c =
    filled_so c.filled.result _ c.add_imports-added.result (λ w. AddsImports c.args.asked.now.types c.args.asked.now.asks.items c.args.classes.now c.args.taken.now.entries c.add_imports-added.new.types w.imports) c.filled.ensures.value c.filled.ensures.added
    (subst (λ (xs : List Ask). OnOk c.add_imports-added.result (AddsImports c.args.asked.now.types xs c.args.classes.now c.args.taken.now.entries c.add_imports-added.new.types c.add_imports-added.new.imports)) c.deref.ensures.value c.add_imports-added.ensures.adds)

pub returns-clause-children : goal.returns-clause-children
returns-clause-children c =
    let imported = subst (λ (xs : List Ask). OnOk c.add_imports-added.result (AddsImports c.args.asked.now.types xs c.args.classes.now c.args.taken.now.entries c.add_imports-added.new.types c.add_imports-added.new.imports)) c.deref.ensures.value c.add_imports-added.ensures.adds in
    filled_so c.filled.result _ c.add_imports-added.result (λ w. HasChildren c.add_imports-added.new.types (world_entry w)) c.filled.ensures.value c.filled.ensures.added
    (on_ok_weaker c.add_imports-added.result
    (world_names_standing c.args.asked.now.types c.add_imports-added.new.types c.args.asked.now.asks.items c.args.classes.now c.args.taken.now.entries (record c.bare_world-world.result { imports = c.add_imports-added.new.imports }) c.requires.classed c.requires.taken (record { uses = c.bare_world-world.ensures.alone.uses; exports = c.bare_world-world.ensures.alone.exports }))
    imported)

pub returns-clause-alone : goal.returns-clause-alone
returns-clause-alone c =
    IfOk-weaker c.filled.result _ _
    (λ w is. subst ImportsAlone (sym is) (record { uses = c.bare_world-world.ensures.alone.uses; exports = c.bare_world-world.ensures.alone.exports })) c.filled.ensures.value
