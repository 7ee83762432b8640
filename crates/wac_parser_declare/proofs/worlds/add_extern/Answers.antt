use Rattle.std.specs.Prelude.{⊤}
use Rattle.std.proofs.Common.{subst, sym}
use Rattle.wac_types_base.specs.declared.item.ExternKind.{ExternKind}
use Rattle.wac_types_base.specs.Stated.{stated_of}
use Rattle.wac_parser_refusals.specs.Outcomes.{IsOutcome}
use Rattle.wac_parser_declare.specs.Bodies as stated
use Rattle.wac_parser_declare.specs.Held.{stated_body}
use Rattle.wac_parser_declare.specs.InBodies.{IsBody}
use Rattle.wac_parser_declare.specs.InWorlds.{item_on, items_on, on_side, slot_ident}
use Rattle.wac_parser_declare.proofs.InWorlds.{on_exports, on_imports}
use Rattle.wac_parser_declare.proofs.worlds.add_extern.Goals as goal

pub returns-in-Import-clause-outcome : goal.returns-in-Import-clause-outcome
returns-in-Import-clause-outcome c d =
    let s = c.args.slot in
    let b = c.args.body.now in
    subst (λ (k : ExternKind). IsOutcome (λ (y : stated.Body) (u : ⊤). IsBody d y (record { names = b.names; uses = b.uses; items = c.add_on.new.stand; exports = b.exports }))
    (on_side k (stated_body d b) (item_on s.world.now s.kind (items_on k (stated_body d b)) (slot_ident s) (stated_of d c.args.item))) c.add_on.result) (sym c.in-Import.is)
    (on_imports d b c.add_on.new.stand (item_on s.world.now s.kind (stated_body d b).items (slot_ident s) (stated_of d c.args.item)) c.add_on.result (c.add_on.ensures.outcome d))

pub returns-in-Export-clause-outcome : goal.returns-in-Export-clause-outcome
returns-in-Export-clause-outcome c d =
    let s = c.args.slot in
    let b = c.args.body.now in
    subst (λ (k : ExternKind). IsOutcome (λ (y : stated.Body) (u : ⊤). IsBody d y (record { names = b.names; uses = b.uses; items = b.items; exports = c.add_on-in-Export.new.stand }))
    (on_side k (stated_body d b) (item_on s.world.now s.kind (items_on k (stated_body d b)) (slot_ident s) (stated_of d c.args.item))) c.add_on-in-Export.result) (sym c.in-Export.is)
    (on_exports d b c.add_on-in-Export.new.stand (item_on s.world.now s.kind (stated_body d b).exports (slot_ident s) (stated_of d c.args.item)) c.add_on-in-Export.result (c.add_on-in-Export.ensures.outcome d))
