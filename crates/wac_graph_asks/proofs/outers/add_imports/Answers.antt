use Rattle.std.proofs.Common.{◌∙◌}
use Rattle.wac_types_base.proofs.Adding.{Grows-refl}
use Rattle.wac_graph_asks.proofs.Importing.{imported_first, imported_more, imported_all}
use Rattle.wac_graph_asks.proofs.outers.add_imports.Goals as goal

pub loop-class-init : goal.loop-class-init
loop-class-init c =
    imported_first c.args.types.now c.args.asks.now c.args.classes.now c.args.taken.now.entries c.into_iter-class-iterator.result c.args.imports.now (c.into_iter-class-iterator.ensures.into_iter_gives ∙ c.iter-class-items.ensures.rest) c.requires
    (Grows-refl c.args.types.now c.see_acyclic.ensures)

pub loop-class-preserved : goal.loop-class-preserved
loop-class-preserved c =
    imported_more c.args.types.now c.args.asks.now c.args.classes.now c.args.taken.now.entries c.loop-class.class-iterator c.next.new.self c.in-Some.class.now c.in-Some.one.now c.spelling_of-spelling.result.now c.loop-class.types c.add_import.new.types
    c.loop-class.imports c.add_import.new.imports c.in-Some.ensures.steps c.loop-class.invariant c.spelling_of-spelling.ensures c.in_ok-add_import.ensures.adds c.add_import.ensures.grows

pub returns-clause-adds : goal.returns-clause-adds
returns-clause-adds c = imported_all c.args.types.now c.args.asks.now c.args.classes.now c.args.taken.now.entries c.loop-class.class-iterator c.loop-class.types c.loop-class.imports c.in-None.ensures.steps.0 c.loop-class.invariant
