use Rattle.std.proofs.Common.{map, subst}
use Rattle.wac_parser_tree.specs.Views.{view_world_item}
use Rattle.wac_parser_refusals.specs.Causes.{Answer, each}
use Rattle.wac_parser_refusals.specs.Outcomes.{IsHeld, IsRefusal}
use Rattle.wac_parser_refusals.proofs.Outcomes.{after_held, after_refused, refused_outcome}
use Rattle.wac_parser_declare.specs.Bodies as stated
use Rattle.wac_parser_declare.specs.Bodies.{no_body}
use Rattle.wac_parser_declare.specs.InBodies.{IsBody}
use Rattle.wac_parser_declare.specs.InPaths.{StandsIn}
use Rattle.wac_parser_declare.specs.Worlds.{world_body, world_include, world_part}
use Rattle.wac_parser_declare.proofs.BodyLoops.{answered_body}
use Rattle.wac_parser_declare.proofs.Known.{stands_in_stays}
use Rattle.wac_parser_declare.proofs.worlds.body_of.Goals as goal

pub add_items-requires-clause-body : goal.add_items-requires-clause-body
add_items-requires-clause-body g c = c.new-body.ensures.stands (g.T.GrowingTypes.collection c.args.types.now)

pub returns-in_err-add_includes-clause-outcome : goal.returns-in_err-add_includes-clause-outcome
returns-in_err-add_includes-clause-outcome g c x s =
    let old = g.T.GrowingTypes.collection c.args.types.now in
    let mid = g.T.GrowingTypes.collection c.add_items.new.types in
    let w = c.args.world.now in
    let items = map view_world_item c.args.parts.now.items in
    let parts : stated.Body → Answer stated.Body = λ b. each (world_part x w) b items in
    let includes : stated.Body → Answer stated.Body = λ b. each (world_include x w) b items in
    let after = c.add_items.new.body in
    let done = c.in_ok-add_items.ensures in
    let e = c.in_err-add_includes.field-0.0 in
    let found : IsHeld (IsBody mid) (parts no_body) after = subst (λ (b : stated.Body). IsHeld (IsBody mid) (parts b) after) (c.new-body.ensures.nothing old) (answered_body mid after _ (done.outcome x s)) in
    let there : StandsIn x c.args.context mid (g.T.GrowingTypes.packages c.add_items.new.types) = stands_in_stays x c.args.context _ _ _ _ done.grows done.packages c.requires s in
    refused_outcome (IsBody (g.T.GrowingTypes.collection c.add_includes.new.types)) (world_body x w items) _ _ c.from_residual-in_err-add_includes.ensures.1
    (after_refused includes (IsBody mid) (parts no_body) after e found (λ b held. subst (λ (y : stated.Body). IsRefusal (includes y) e) held (c.in_err-add_includes.ensures.outcome x there)))

pub returns-clause-outcome : goal.returns-clause-outcome
returns-clause-outcome g c x s =
    let old = g.T.GrowingTypes.collection c.args.types.now in
    let mid = g.T.GrowingTypes.collection c.add_items.new.types in
    let new = g.T.GrowingTypes.collection c.add_includes.new.types in
    let w = c.args.world.now in
    let items = map view_world_item c.args.parts.now.items in
    let parts : stated.Body → Answer stated.Body = λ b. each (world_part x w) b items in
    let includes : stated.Body → Answer stated.Body = λ b. each (world_include x w) b items in
    let after = c.add_items.new.body in
    let last = c.add_includes.new.body in
    let done = c.in_ok-add_items.ensures in
    let found : IsHeld (IsBody mid) (parts no_body) after = subst (λ (b : stated.Body). IsHeld (IsBody mid) (parts b) after) (c.new-body.ensures.nothing old) (answered_body mid after _ (done.outcome x s)) in
    let there : StandsIn x c.args.context mid (g.T.GrowingTypes.packages c.add_items.new.types) = stands_in_stays x c.args.context _ _ _ _ done.grows done.packages c.requires s in
    after_held includes (IsBody mid) (IsBody new) (parts no_body) after last found
    (λ b held. subst (λ (y : stated.Body). IsHeld (IsBody new) (includes y) last) held (answered_body new last _ (c.in_ok-add_includes.ensures.outcome x there)))
