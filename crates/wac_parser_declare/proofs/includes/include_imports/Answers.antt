use Rattle.std.proofs.Common.{Option, subst, ◌∙◌}
use Rattle.wac_types_base.specs.Collection.{Stands}
use Rattle.wac_types_base.specs.Entries.{with_values}
use Rattle.wac_types_base.specs.Stated.{stated_of}
use Rattle.wac_parser_tree.specs.Trees as t
use Rattle.wac_parser_refusals.specs.Causes.{each}
use Rattle.wac_parser_refusals.specs.Outcomes.{IsHeld, IsRefusal}
use Rattle.wac_parser_refusals.proofs.Outcomes.{refused_outcome}
use Rattle.wac_parser_declare.specs.InIncludes.{AreNow, helps, included, path_of, renamings}
use Rattle.wac_parser_declare.specs.Worlds.{include_one}
use Rattle.wac_parser_declare.proofs.InIncludes.{included_next, included_stops}
use Rattle.wac_parser_declare.proofs.Standing.{place_stands}
use Rattle.wac_parser_declare.proofs.includes.include_imports.Goals as goal

pub loop-at-preserved : goal.loop-at-preserved
loop-at-preserved c =
    let i = c.args.inclusion in
    let xs = c.args.imports.now in
    let n = c.entry.result.0.now in
    let k = c.entry.result.1.now in
    record {
      stand = λ d s there. c.in_ok-include_item.ensures.stand d (c.loop-at.invariant.stand d s there) (place_stands (Stands d) xs there c.loop-at.at n k c.entry.ensures);
      rest = λ d.
          c.loop-at.invariant.rest d
          ∙ included_next d (include_one i.to.now (path_of i) (helps i) (renamings i.include.now.with.items) i.kind) xs c.loop-at.at n k c.entry.ensures c.loop-at.stand c.include_item.new.stand
          (subst (λ (o : Option t.Ident). IsHeld (AreNow d c.include_item.new.stand) (included i.to.now (path_of i) (helps i) i.kind (with_values (stated_of d) c.loop-at.stand) (n, stated_of d k) o) tt) c.renaming-renamed.ensures (c.in_ok-include_item.ensures.outcome d));
    }

pub returns-in_err-include_item-clause-outcome : goal.returns-in_err-include_item-clause-outcome
returns-in_err-include_item-clause-outcome c d =
    let i = c.args.inclusion in
    let xs = c.args.imports.now in
    let n = c.entry.result.0.now in
    let k = c.entry.result.1.now in
    let e = c.in_err-include_item.field-0.0 in
    let f = include_one i.to.now (path_of i) (helps i) (renamings i.include.now.with.items) i.kind in
    let all = each f (with_values (stated_of d) c.args.stand.now) (with_values (stated_of d) xs) in
    refused_outcome (AreNow d c.include_item.new.stand) all _ _ c.from_residual.ensures.1
    (included_stops d f xs c.loop-at.at n k c.entry.ensures c.loop-at.stand all e (c.loop-at.invariant.rest d)
    (subst (λ (o : Option t.Ident). IsRefusal (included i.to.now (path_of i) (helps i) i.kind (with_values (stated_of d) c.loop-at.stand) (n, stated_of d k) o) e) c.renaming-renamed.ensures (c.in_err-include_item.ensures.outcome d)))
