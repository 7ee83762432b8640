use Rattle.std.proofs.lemmas.Result.{on_ok_weaker}
use Rattle.std.proofs.Common.{◌++◌, map, ap, subst, ◌∙◌}
use Rattle.wac_graph_causes.specs.Circling.{under_name}
use Rattle.wac_graph_causes.specs.Late.{AddsLate, world_written}
use Rattle.wac_graph_causes.specs.Standing.{spelled_at}
use Rattle.wac_graph_causes.proofs.CircleLaws.{adds_named, own_late}
use Rattle.wac_graph_causes.proofs.circles.add_component.Goals as goal

pub returns-clause-adds : goal.returns-clause-adds
returns-clause-adds c =
    let old = c.args.types.now in
    let new = c.add_world.new.types in
    let n = c.args.name.now in
    let own = c.add_world.new.all.items in
    let before = c.args.all.now.items in
    let es = world_written old (λ n. n) c.args.world in
    let adds = subst (λ m. AddsLate old new c.new-own.result.items own (world_written old (spelled_at m c.new-imports.result) c.args.world)) c.new-none.ensures c.in_ok-add_world.ensures.adds in
    on_ok_weaker c.add_under.result
    (λ f. adds_named old new c.in_ok-add_world.ensures.grows n own before c.add_under.new.all.items es (own_late old new own c.new-own.result.items es c.new-own.ensures.items adds)
    (f ∙ ap (λ l. before ++ map (under_name n) l) c.deref.ensures.value))
    c.add_under.ensures
