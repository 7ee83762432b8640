use Rattle.std.specs.Prelude.{⊤}
use Rattle.std.proofs.Common.{get_or, sym, subst, ◌∙◌}
use Rattle.wac_parser_tree.specs.Views.{view_world_include_item, view_world_ref}
use Rattle.wac_parser_refusals.specs.Causes.{Answer}
use Rattle.wac_parser_refusals.specs.Outcomes.{IsRefusal}
use Rattle.wac_parser_declare.specs.Scope.{path_text, world_path}
use Rattle.wac_parser_declare.specs.Worlds.{unmet}
use Rattle.wac_parser_declare.proofs.InIncludes.{met_clear, met_under, name_is, unmet_refused}
use Rattle.wac_parser_declare.proofs.Loops.{each_next, each_stops}
use Rattle.wac_parser_declare.proofs.includes.check_met.Goals as goal

pub returns-then-not-is_met : goal.returns-then-not-is_met
returns-then-not-is_met c d x imports exports =
    let p = world_path (view_world_ref c.args.include.now.world) in
    let items = c.deref-item-items.result.now in
    subst (λ (q : Answer ⊤). IsRefusal q c.missing_with_name.result) (sym (c.loop-item.invariant d x imports exports))
    (each_stops (unmet p x) view_world_include_item items c.loop-item.item-index tt _ c.missing_with_name.result c.loop-item-test.true
    (unmet_refused d x c.args.world.now imports exports p tt (view_world_include_item (get_or items c.loop-item.item-index _)) c.missing_with_name.result (sym c.is_met.ensures ∙ c.if-not-is_met.true)
    (met_under c.missing_with_name.result c.name.result.now (path_text p) _ _ (c.name.ensures ∙ name_is (view_world_ref c.args.include.now.world)) c.missing_with_name.ensures)))

pub loop-item-preserved : goal.loop-item-preserved
loop-item-preserved c d x imports exports =
    let p = world_path (view_world_ref c.args.include.now.world) in
    let items = c.deref-item-items.result.now in
    let next = each_next (unmet p x) view_world_include_item items c.loop-item.item-index (λ (u v : ⊤). ⊤) tt _ tt c.loop-item-test.true
    (met_clear d x c.args.world.now imports exports p tt (view_world_include_item (get_or items c.loop-item.item-index _)) (sym c.is_met.ensures ∙ c.if-not-is_met.false)) in
    c.loop-item.invariant d x imports exports ∙ next.2
