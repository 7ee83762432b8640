use Rattle.std.specs.Prelude.{⊤}
use Rattle.std.proofs.Common.{map, arith}
use Rattle.wac_types_base.proofs.Adding.{Grows-trans}
use Rattle.wac_parser_tree.specs.Views.{view_interface_item}
use Rattle.wac_parser_refusals.specs.Causes.{Answer, each}
use Rattle.wac_parser_refusals.proofs.Outcomes.{refused_outcome}
use Rattle.wac_parser_declare.specs.Bodies as stated
use Rattle.wac_parser_declare.specs.Held.{holder_of, stated_body}
use Rattle.wac_parser_declare.specs.InBodies.{IsBody}
use Rattle.wac_parser_declare.specs.Interfaces.{interface_item}
use Rattle.wac_parser_declare.specs.Scope.{Context}
use Rattle.wac_parser_declare.proofs.BodyLoops.{items_end, items_next, items_refused}
use Rattle.wac_parser_declare.proofs.Known.{same_trans}
use Rattle.wac_parser_declare.proofs.interfaces.add_items.Goals as goal

pub loop-item-preserved : goal.loop-item-preserved
loop-item-preserved g c =
    let i = c.loop-item.invariant in
    let done = c.in_ok-interface_item.ensures in
    record {
      grows = Grows-trans _ _ _ i.grows done.grows;
      packages = same_trans _ _ _ i.packages done.packages;
      body = done.body;
      rest = items_next (λ x. interface_item x (holder_of c.args.holder)) view_interface_item c.args.context _ _ _ _ i.grows i.packages c.requires.root c.deref-item-items.result.now c.loop-item.item-index
          (λ x. each (interface_item x (holder_of c.args.holder)) (stated_body (g.T.GrowingTypes.collection c.args.types.now) c.args.body.now) (map view_interface_item c.args.items.now.items))
          c.loop-item.body i.rest (g.T.GrowingTypes.collection c.interface_item.new.types) c.interface_item.new.body c.item-item.result c.loop-item-test.true c.item-item.is done.outcome;
    }

pub returns-in_err-interface_item-clause-outcome : goal.returns-in_err-interface_item-clause-outcome
returns-in_err-interface_item-clause-outcome g c x s =
    let i = c.loop-item.invariant in
    let all : Context → Answer stated.Body = λ x. each (interface_item x (holder_of c.args.holder)) (stated_body (g.T.GrowingTypes.collection c.args.types.now) c.args.body.now) (map view_interface_item c.args.items.now.items) in
    refused_outcome (λ (y : stated.Body) (u : ⊤). IsBody (g.T.GrowingTypes.collection c.interface_item.new.types) y c.interface_item.new.body) (all x) _ _ c.from_residual.ensures.1
    (items_refused (λ x. interface_item x (holder_of c.args.holder)) view_interface_item c.args.context _ _ _ _ i.grows i.packages c.requires.root c.deref-item-items.result.now c.loop-item.item-index
    all c.loop-item.body i.rest c.item-item.result _ c.loop-item-test.true c.item-item.is c.in_err-interface_item.ensures.outcome x s)

pub returns-clause-outcome : goal.returns-clause-outcome
returns-clause-outcome g c x s =
    let i = c.loop-item.invariant in
    items_end (λ x. interface_item x (holder_of c.args.holder)) view_interface_item c.args.context _ _ _ _ i.grows i.packages c.requires.root c.deref-item-items.result.now c.loop-item.item-index
    (λ x. each (interface_item x (holder_of c.args.holder)) (stated_body (g.T.GrowingTypes.collection c.args.types.now) c.args.body.now) (map view_interface_item c.args.items.now.items))
    c.loop-item.body i.rest (omega (arith, c.loop-item-test.false)) x s
