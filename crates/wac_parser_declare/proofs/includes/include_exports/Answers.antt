use Rattle.std.proofs.Common.{subst, ◌∙◌}
use Rattle.wac_types_base.specs.Collection.{Stands}
use Rattle.wac_types_base.specs.Entries.{with_values}
use Rattle.wac_types_base.specs.Stated.{stated_of}
use Rattle.wac_parser_refusals.specs.Causes.{Answer, each}
use Rattle.wac_parser_refusals.specs.Outcomes.{IsHeld, IsRefusal}
use Rattle.wac_parser_refusals.proofs.Outcomes.{refused_outcome}
use Rattle.wac_parser_declare.specs.Bodies.{Items}
use Rattle.wac_parser_declare.specs.InIncludes.{AreNow, helps, path_of, renamings}
use Rattle.wac_parser_declare.specs.Worlds.{include_one, left_for_exports}
use Rattle.wac_parser_declare.proofs.InIncludes.{included_next, included_same, included_stops}
use Rattle.wac_parser_declare.proofs.Standing.{place_stands}
use Rattle.wac_parser_declare.proofs.includes.include_exports.Goals as goal

pub loop-at-preserved : goal.loop-at-preserved
loop-at-preserved c =
    let i = c.args.inclusion in
    let xs = c.args.world.now.exports in
    let n = c.entry.result.0.now in
    let k = c.entry.result.1.now in
    record {
      stand = λ d s there. c.in_ok-include_item.ensures.stand d (c.loop-at.invariant.stand d s there) (place_stands (Stands d) xs there c.loop-at.at n k c.entry.ensures);
      rest = λ d x imports.
          c.loop-at.invariant.rest d x imports
          ∙ included_next d (include_one i.to.now (path_of i) (helps i) (left_for_exports x (renamings i.include.now.with.items)) i.kind) xs c.loop-at.at n k c.entry.ensures c.loop-at.stand c.include_item.new.stand
          (subst (λ (q : Answer Items). IsHeld (AreNow d c.include_item.new.stand) q tt)
          (included_same i.to.now (path_of i) (helps i) i.kind (with_values (stated_of d) c.loop-at.stand) (n, stated_of d k) _ _ (λ colon. c.export_renaming-renamed.ensures d x imports colon)) (c.in_ok-include_item.ensures.outcome d));
    }

pub returns-in_err-include_item-clause-outcome : goal.returns-in_err-include_item-clause-outcome
returns-in_err-include_item-clause-outcome c d x imports =
    let i = c.args.inclusion in
    let xs = c.args.world.now.exports in
    let n = c.entry.result.0.now in
    let k = c.entry.result.1.now in
    let e = c.in_err-include_item.field-0.0 in
    let f = include_one i.to.now (path_of i) (helps i) (left_for_exports x (renamings i.include.now.with.items)) i.kind in
    let all = each f (with_values (stated_of d) c.args.stand.now) (with_values (stated_of d) xs) in
    refused_outcome (AreNow d c.include_item.new.stand) all _ _ c.from_residual.ensures.1
    (included_stops d f xs c.loop-at.at n k c.entry.ensures c.loop-at.stand all e (c.loop-at.invariant.rest d x imports)
    (subst (λ (q : Answer Items). IsRefusal q e)
    (included_same i.to.now (path_of i) (helps i) i.kind (with_values (stated_of d) c.loop-at.stand) (n, stated_of d k) _ _ (λ colon. c.export_renaming-renamed.ensures d x imports colon)) (c.in_err-include_item.ensures.outcome d)))
