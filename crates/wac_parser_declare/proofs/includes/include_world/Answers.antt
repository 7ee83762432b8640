use Rattle.std.specs.Prelude.{⊤}
use Rattle.std.proofs.Common.{[], List, subst}
use Rattle.wac_types_base.specs.Record.{Collection}
use Rattle.wac_types_base.specs.Entries.{Name}
use Rattle.wac_types_base.specs.Stated.{Stated, stated_of}
use Rattle.wac_types_base.specs.declared.item.ItemKind.{ItemKind}
use Rattle.wac_parser_tree.specs.Views.{view_world_ref}
use Rattle.wac_parser_refusals.specs.Causes.{◌>>=◌, each}
use Rattle.wac_parser_refusals.specs.Outcomes.{IsOutcome}
use Rattle.wac_parser_refusals.proofs.Outcomes.{after_outcome, refused_outcome, then_refused}
use Rattle.wac_parser_declare.specs.Bodies as stated
use Rattle.wac_parser_declare.specs.Held.{stated_body}
use Rattle.wac_parser_declare.specs.InBodies.{IsBody}
use Rattle.wac_parser_declare.specs.InIncludes.{IncludesItems, renamings}
use Rattle.wac_parser_declare.specs.InPaths.{AWorld}
use Rattle.wac_parser_declare.specs.Scope.{world_path}
use Rattle.wac_parser_declare.specs.Worlds.{include_items, include_world, with_name, world_at}
use Rattle.wac_parser_declare.proofs.InBodies.{body-kept}
use Rattle.wac_parser_declare.proofs.InIncludes.{behind_outcome, behind_refused, first_refused}
use Rattle.wac_parser_declare.proofs.includes.include_world.Goals as goal

pub returns-in_err-check_with_names-clause-outcome : goal.returns-in_err-check_with_names-clause-outcome
returns-in_err-check_with_names-clause-outcome g c x s =
    let old = g.T.GrowingTypes.collection c.args.types.now in
    let p = world_path (view_world_ref c.args.include.now.world) in
    let ws = renamings c.args.include.now.with.items in
    let b = stated_body old c.args.body.now in
    let to = c.args.to.now in
    refused_outcome (λ (y : stated.Body) (u : ⊤). IsBody old y c.args.body.now) (include_world x to b p ws) _ _ c.from_residual.ensures.1
    (first_refused (world_at x p >>= λ y. include_items to b p ws y) (each with_name [] ws) _ c.in_err-check_with_names.ensures.outcome)

pub returns-in_err-world-clause-outcome : goal.returns-in_err-world-clause-outcome
returns-in_err-world-clause-outcome g c x s =
    let old = g.T.GrowingTypes.collection c.args.types.now in
    let new = g.T.GrowingTypes.collection c.world_at.new.types in
    let p = world_path (view_world_ref c.args.include.now.world) in
    let ws = renamings c.args.include.now.with.items in
    let b = stated_body old c.args.body.now in
    let to = c.args.to.now in
    refused_outcome (λ (y : stated.Body) (u : ⊤). IsBody new y c.args.body.now) (include_world x to b p ws) _ _ c.from_residual-in_err-world.ensures.1
    (behind_refused (world_at x p >>= λ y. include_items to b p ws y) (λ (ns : List Name) (u : ⊤). ⊤) (each with_name [] ws) tt c.in_err-world.field-0.0 c.in_ok-check_with_names.ensures.outcome
    (then_refused (λ (y : Stated). include_items to b p ws y) (world_at x p) c.in_err-world.field-0.0 (c.in_err-world.ensures.outcome x s)))

pub returns-clause-outcome : goal.returns-clause-outcome
returns-clause-outcome g c x s =
    let old = g.T.GrowingTypes.collection c.args.types.now in
    let new = g.T.GrowingTypes.collection c.world_at.new.types in
    let p = world_path (view_world_ref c.args.include.now.world) in
    let ws = renamings c.args.include.now.with.items in
    let b = stated_body old c.args.body.now in
    let to = c.args.to.now in
    let r = c.include_items.result in
    let w = c.in_ok-world.world in
    let k : stated.Body → ⊤ → Type 0 = λ y u. IsBody new y c.include_items.new.body in
    let items : IncludesItems c.args.include.now to w new c.args.body.now c.include_items.new.body r =
    subst (λ (d : Collection). IncludesItems c.args.include.now to w d c.args.body.now c.include_items.new.body r) c.types-2.ensures c.include_items.ensures.outcome in
    behind_outcome (world_at x p >>= λ y. include_items to b p ws y) (λ (ns : List Name) (u : ⊤). ⊤) k (each with_name [] ws) tt r c.in_ok-check_with_names.ensures.outcome
    (after_outcome (λ (y : Stated). include_items to b p ws y) (AWorld new) k (world_at x p) w r (c.in_ok-world.ensures.outcome x s)
    (λ y held.
    subst (λ (z : Stated). IsOutcome k (include_items to b p ws z) r) held.same
    (subst (λ (a : stated.Body). IsOutcome k (include_items to a p ws (stated_of new (ItemKind.Component w))) r) (body-kept old new c.in_ok-world.ensures.grows c.args.body.now c.requires.body) items)))
