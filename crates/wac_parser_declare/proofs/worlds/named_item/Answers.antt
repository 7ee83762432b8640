use Rattle.std.specs.Prelude.{⊤}
use Rattle.std.proofs.Common.{[], ◌∷◌, ◌++◌, Err, subst, sym, ◌∙◌}
use Rattle.wac_types_base.specs.Stated.{Stated, stated_of}
use Rattle.wac_parser_tree.specs.Views.{view_extern_type}
use Rattle.wac_parser_refusals.specs.Causes.{Answer, ◌>>=◌, DuplicateWorldItem, pure}
use Rattle.wac_parser_refusals.specs.Outcomes.{IsOutcome}
use Rattle.wac_parser_refusals.proofs.Outcomes.{refused_outcome, then_refused}
use Rattle.wac_parser_declare.specs.Bodies as stated
use Rattle.wac_parser_declare.specs.Bodies.{Items}
use Rattle.wac_parser_declare.specs.Held.{stated_body}
use Rattle.wac_parser_declare.specs.InBodies.{IsBody}
use Rattle.wac_parser_declare.specs.InWorlds.{item_on, items_on, on_side, slot_ident}
use Rattle.wac_parser_declare.specs.Scope.{has}
use Rattle.wac_parser_declare.specs.Worlds.{extern_type}
use Rattle.wac_parser_declare.proofs.InBodies.{absent_outcome, body-kept, there_refused}
use Rattle.wac_parser_declare.proofs.InWorlds.{named_outcome, side_refused}
use Rattle.wac_parser_declare.proofs.worlds.named_item.Goals as goal

pub returns-then-stands_there-clause-outcome : goal.returns-then-stands_there-clause-outcome
returns-then-stands_there-clause-outcome g c x s =
    let old = g.T.GrowingTypes.collection c.args.types.now in
    let b = stated_body old c.args.body.now in
    let o = c.args.slot in
    let i = slot_ident o in
    let stand = items_on o.kind b in
    let typed = extern_type x b.names (view_extern_type c.args.ty.now) >>= λ y. pure (stand ++ (i.string, y) ∷ []) in
    side_refused o.kind b _ c.duplicate_world_item.result
    (there_refused (has stand i.string) (DuplicateWorldItem o.kind i.string o.world.now) i.span typed c.duplicate_world_item.result (sym (c.stands_there.ensures old) ∙ c.if-stands_there.true) c.duplicate_world_item.ensures)

pub returns-in_err-item-clause-outcome : goal.returns-in_err-item-clause-outcome
returns-in_err-item-clause-outcome g c x s =
    let old = g.T.GrowingTypes.collection c.args.types.now in
    let b = stated_body old c.args.body.now in
    let o = c.args.slot in
    let i = slot_ident o in
    let stand = items_on o.kind b in
    let e = c.in_err-item.field-0.0 in
    let more : Stated → Answer Items = λ y. pure (stand ++ (i.string, y) ∷ []) in
    let typed = extern_type x b.names (view_extern_type c.args.ty.now) in
    refused_outcome _ _ _ _ c.from_residual.ensures.1
    (side_refused o.kind b _ e
    (absent_outcome (has stand i.string) (DuplicateWorldItem o.kind i.string o.world.now) i.span (typed >>= more) (λ (xs : Items) (u : ⊤). ⊤) (Err e) (sym (c.stands_there.ensures old) ∙ c.if-stands_there.false)
    (then_refused more typed e (c.in_err-item.ensures.outcome x s))))

pub returns-clause-outcome : goal.returns-clause-outcome
returns-clause-outcome g c x s =
    let old = g.T.GrowingTypes.collection c.args.types.now in
    let new = g.T.GrowingTypes.collection c.extern_type.new.types in
    let b = stated_body old c.args.body.now in
    let o = c.args.slot in
    let i = slot_ident o in
    let k : stated.Body → ⊤ → Type 0 = λ y u. IsBody new y c.add_extern.new.body in
    let r = c.add_extern.result in
    named_outcome k o.kind b new r o.world.now i (extern_type x b.names (view_extern_type c.args.ty.now)) c.in_ok-item.item (c.in_ok-item.ensures.outcome x s)
    (subst (λ (y : stated.Body). IsOutcome k (on_side o.kind y (item_on o.world.now o.kind (items_on o.kind y) i (stated_of new c.in_ok-item.item))) r)
    (body-kept old new c.in_ok-item.ensures.grows c.args.body.now c.requires.body) (c.add_extern.ensures.outcome new))
