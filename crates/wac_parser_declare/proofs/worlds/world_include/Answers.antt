use Rattle.std.specs.Prelude.{⊤}
use Rattle.std.proofs.Common.{subst, sym}
use Rattle.wac_parser_tree.specs.declared.world.WorldItem.{WorldItem}
use Rattle.wac_parser_tree.specs.Views.{view_world_item}
use Rattle.wac_parser_refusals.specs.Outcomes.{IsOutcome}
use Rattle.wac_parser_declare.specs.Bodies as stated
use Rattle.wac_parser_declare.specs.Held.{stated_body}
use Rattle.wac_parser_declare.specs.InBodies.{IsBody}
use Rattle.wac_parser_declare.specs.Worlds.{world_include}
use Rattle.wac_parser_declare.proofs.worlds.world_include.Goals as goal

pub returns-in-Include-clause-outcome : goal.returns-in-Include-clause-outcome
returns-in-Include-clause-outcome g c x s =
    let b = stated_body (g.T.GrowingTypes.collection c.args.types.now) c.args.body.now in
    let k : stated.Body → ⊤ → Type 0 = λ y u. IsBody (g.T.GrowingTypes.collection c.include_world.new.types) y c.include_world.new.body in
    subst (λ (i : WorldItem). IsOutcome k (world_include x c.args.world.now b (view_world_item i)) c.include_world.result) (sym c.in-Include.is) (c.include_world.ensures.outcome x s)
