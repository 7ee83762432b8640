use Rattle.std.specs.Prelude.{⊤}
use Rattle.std.proofs.Common.{◌≡◌, subst}
use Rattle.std.proofs.lemmas.Result.{on_ok_weaker}
use Rattle.wac_types_base.specs.declared.item.ItemKind.{ItemKind}
use Rattle.wac_types_base.specs.Stated.{stated_of}
use Rattle.wac_parser_tree.specs.Views.{view_ident}
use Rattle.wac_parser_refusals.specs.Causes.{Answer}
use Rattle.wac_parser_refusals.specs.Outcomes.{IsOutcome}
use Rattle.wac_parser_refusals.proofs.Outcomes.{after_outcome}
use Rattle.wac_parser_declare.specs.Bodies as stated
use Rattle.wac_parser_declare.specs.Held.{holder_of, stated_body}
use Rattle.wac_parser_declare.specs.Holding.{scope_of}
use Rattle.wac_parser_declare.specs.InBodies.{IsBody, item_added}
use Rattle.wac_parser_declare.specs.Scope.{Scope, bind}
use Rattle.wac_parser_declare.proofs.Standing.{bound_stand}
use Rattle.wac_parser_declare.proofs.bodies.add_type.Goals as goal

pub returns-clause-outcome : goal.returns-clause-outcome
returns-clause-outcome c d =
    let s = stated_body d c.args.body.now in
    let i = view_ident c.args.id.now in
    let x = stated_of d (ItemKind.Ty c.args.ty) in
    let f : Scope → Answer stated.Body = λ ns. item_added (holder_of c.args.holder) (record { names = ns; uses = s.uses; items = s.items; exports = s.exports }) i x in
    let k : stated.Body → ⊤ → Type 0 = λ b u. IsBody d b c.add_item.new.body in
    after_outcome f (λ (ns : Scope) (u : ⊤). scope_of d c.bind.new.names ≡ ns) k (bind s.names i x) tt c.add_item.result (c.in_ok-bind.ensures.outcome d)
    (λ ns e. subst (λ (ms : Scope). IsOutcome k (f ms) c.add_item.result) e (c.add_item.ensures.outcome d))

pub returns-clause-stands : goal.returns-clause-stands
returns-clause-stands c =
    on_ok_weaker c.add_item.result (λ f d s h. f d (record { names = bound_stand d _ _ _ _ s.names h c.in_ok-bind.ensures.ok; uses = s.uses; items = s.items; exports = s.exports }) h) c.add_item.ensures.stands
