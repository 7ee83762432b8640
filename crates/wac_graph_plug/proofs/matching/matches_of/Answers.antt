use Rattle.std.proofs.Common.{sym, subst, [], arith}
use Rattle.wac_types_base.specs.declared.item.ItemKind.{ItemKind}
use Rattle.wac_types_base.specs.Entries.{with_values, names_of, AreDistinct}
use Rattle.wac_types_base.specs.Stated.{stated_of, exports_of}
use Rattle.wac_types_names.proofs.Copied.{export_stands}
use Rattle.wac_graph_plug.specs.Plugging.{AreMatchesOf, no_exports}
use Rattle.wac_graph_core.proofs.Items.{import_stands}
use Rattle.wac_graph_plug.proofs.Gathered.{next_gathered, all_matched}
use Rattle.wac_types_base.proofs.Stating.{imports_stated, exports_stated}
use Rattle.wac_types_base.proofs.Loops.{names-with_values}
use Rattle.wac_graph_plug.proofs.matching.matches_of.Goals as goal

pub loop-at-init : goal.loop-at-init
loop-at-init c = subst (AreMatchesOf (with_values (stated_of c.args.types.now) c.world-2.result.now.imports) []) (sym c.new-found.ensures.items) no_exports

pub matched-requires-clause-given : goal.matched-requires-clause-given
matched-requires-clause-given c =
    export_stands c.args.types.now c.world.ensures.acyclic c.args.plug c.world.result.now c.world.ensures.entry c.world.ensures.own c.loop-at.at c.entry.result.0.now c.entry.result.1.now c.entry.ensures

pub matched-requires-clause-asked : goal.matched-requires-clause-asked
matched-requires-clause-asked c = λ n k at.
    import_stands c.args.types.now c.args.socket c.world-2.result.now n k c.world.ensures.acyclic c.requires.socket c.world-2.ensures.entry c.world-2.ensures.own at

pub loop-at-preserved : goal.loop-at-preserved
loop-at-preserved c =
    next_gathered (with_values (stated_of c.args.types.now) c.world-2.result.now.imports) c.args.types.now c.world.result.now.exports c.loop-at.at c.entry.result.0.now c.entry.result.1.now c.entry.ensures
    c.loop-at.found.items c.gather.new.found.items c.in_ok-one.one c.loop-at.invariant c.in_ok-one.ensures c.in_ok-gather.ensures

pub returns-clause-matches : goal.returns-clause-matches
returns-clause-matches c =
    let asked = with_values (stated_of c.args.types.now) c.world-2.result.now.imports in
    subst (λ l. AreMatchesOf l (exports_of (stated_of c.args.types.now (ItemKind.Component c.args.plug))) c.loop-at.found.items)
    (sym (imports_stated c.args.types.now c.world.ensures.acyclic c.args.socket c.world-2.result.now c.world-2.ensures.entry c.world-2.ensures.own))
    (subst (λ l. AreMatchesOf asked l c.loop-at.found.items)
    (sym (exports_stated c.args.types.now c.world.ensures.acyclic c.args.plug c.world.result.now c.world.ensures.entry c.world.ensures.own))
    (all_matched asked c.args.types.now c.world.result.now.exports c.loop-at.at c.loop-at.found.items c.loop-at.invariant (omega (arith, c.loop-at-test.false, c.len-at-end.ensures.len))))

pub returns-clause-distinct : goal.returns-clause-distinct
returns-clause-distinct c =
    subst (λ l. AreDistinct (names_of l)) (sym (exports_stated c.args.types.now c.world.ensures.acyclic c.args.plug c.world.result.now c.world.ensures.entry c.world.ensures.own))
    (subst AreDistinct (sym (names-with_values (stated_of c.args.types.now) c.world.result.now.exports)) c.len-at-end.ensures.distinct)
