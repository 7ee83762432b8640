use Rattle.std.specs.Prelude.{⊤}
use Rattle.std.proofs.Common.{map, arith}
use Rattle.wac_types_base.proofs.Adding.{Grows-trans}
use Rattle.wac_parser_tree.specs.Views.{view_world_item}
use Rattle.wac_parser_refusals.specs.Causes.{Answer, each}
use Rattle.wac_parser_refusals.proofs.Outcomes.{refused_outcome}
use Rattle.wac_parser_declare.specs.Bodies as stated
use Rattle.wac_parser_declare.specs.Held.{stated_body}
use Rattle.wac_parser_declare.specs.InBodies.{IsBody}
use Rattle.wac_parser_declare.specs.Worlds.{world_include}
use Rattle.wac_parser_declare.specs.Scope.{Context}
use Rattle.wac_parser_declare.proofs.BodyLoops.{items_end, items_next, items_refused}
use Rattle.wac_parser_declare.proofs.Known.{same_trans}
use Rattle.wac_parser_declare.proofs.worlds.add_includes.Goals as goal

pub loop-part-preserved : goal.loop-part-preserved
loop-part-preserved g c =
    let i = c.loop-part.invariant in
    let done = c.in_ok-world_include.ensures in
    record {
      grows = Grows-trans _ _ _ i.grows done.grows;
      packages = same_trans _ _ _ i.packages done.packages;
      body = done.body;
      rest = items_next (λ x. world_include x c.args.world.now) view_world_item c.args.context _ _ _ _ i.grows i.packages c.requires.root c.deref-part-items.result.now c.loop-part.part-index
          (λ x. each (world_include x c.args.world.now) (stated_body (g.T.GrowingTypes.collection c.args.types.now) c.args.body.now) (map view_world_item c.args.parts.now.items))
          c.loop-part.body i.rest (g.T.GrowingTypes.collection c.world_include.new.types) c.world_include.new.body c.part-item.result c.loop-part-test.true c.part-item.is done.outcome;
    }

pub returns-in_err-world_include-clause-outcome : goal.returns-in_err-world_include-clause-outcome
returns-in_err-world_include-clause-outcome g c x s =
    let i = c.loop-part.invariant in
    let all : Context → Answer stated.Body = λ x. each (world_include x c.args.world.now) (stated_body (g.T.GrowingTypes.collection c.args.types.now) c.args.body.now) (map view_world_item c.args.parts.now.items) in
    refused_outcome (λ (y : stated.Body) (u : ⊤). IsBody (g.T.GrowingTypes.collection c.world_include.new.types) y c.world_include.new.body) (all x) _ _ c.from_residual.ensures.1
    (items_refused (λ x. world_include x c.args.world.now) view_world_item c.args.context _ _ _ _ i.grows i.packages c.requires.root c.deref-part-items.result.now c.loop-part.part-index
    all c.loop-part.body i.rest c.part-item.result _ c.loop-part-test.true c.part-item.is c.in_err-world_include.ensures.outcome x s)

pub returns-clause-outcome : goal.returns-clause-outcome
returns-clause-outcome g c x s =
    let i = c.loop-part.invariant in
    items_end (λ x. world_include x c.args.world.now) view_world_item c.args.context _ _ _ _ i.grows i.packages c.requires.root c.deref-part-items.result.now c.loop-part.part-index
    (λ x. each (world_include x c.args.world.now) (stated_body (g.T.GrowingTypes.collection c.args.types.now) c.args.body.now) (map view_world_item c.args.parts.now.items))
    c.loop-part.body i.rest (omega (arith, c.loop-part-test.false)) x s
