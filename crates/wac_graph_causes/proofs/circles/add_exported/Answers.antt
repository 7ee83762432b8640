use Rattle.std.proofs.lemmas.Result.{on_ok_weaker}
use Rattle.std.proofs.Common.{◌++◌, map, ap, ◌∙◌}
use Rattle.wac_types_base.specs.declared.item.ItemKind.{ItemKind}
use Rattle.wac_types_base.specs.Stated.{stated_of}
use Rattle.wac_composition.specs.Circles.{exports_written}
use Rattle.wac_graph_causes.specs.Circling.{under_name}
use Rattle.wac_graph_causes.proofs.CircleLaws.{adds_named, own_late}
use Rattle.wac_graph_causes.proofs.circles.add_exported.Goals as goal

pub returns-clause-adds : goal.returns-clause-adds
returns-clause-adds c =
    let old = c.args.types.now in
    let new = c.add_exports.new.types in
    let n = c.args.name.now in
    let own = c.add_exports.new.all.items in
    let before = c.args.all.now.items in
    let es = exports_written (stated_of old (ItemKind.Component c.args.world)) in
    on_ok_weaker c.add_under.result
    (λ f stands. adds_named old new c.in_ok-add_exports.ensures.grows n own before c.add_under.new.all.items es (own_late old new own c.new-own.result.items es c.new-own.ensures.items (c.in_ok-add_exports.ensures.adds stands))
    (f ∙ ap (λ l. before ++ map (under_name n) l) c.deref.ensures.value))
    c.add_under.ensures
