use Rattle.std.specs.Prelude.{⊤}
use Rattle.std.proofs.Common.{Ok, Result, ap, subst, ◌∙◌}
use Rattle.wac_types_base.specs.declared.item.ItemKind.{ItemKind}
use Rattle.wac_types_base.specs.declared.ids.FuncTypeId.{FuncTypeId}
use Rattle.wac_types_base.specs.Collection.{Stands}
use Rattle.wac_types_base.specs.Stated.{Stated, stated_of}
use Rattle.wac_parser_refusals.specs.declared.refusal.Refusal.{Refusal}
use Rattle.wac_parser_refusals.specs.Outcomes.{IsOutcome}
use Rattle.wac_parser_refusals.proofs.Outcomes.{after_held}
use Rattle.wac_parser_declare.specs.Bodies as stated
use Rattle.wac_parser_declare.specs.Bodies.{with_item}
use Rattle.wac_parser_declare.specs.Held.{stated_body}
use Rattle.wac_parser_declare.specs.Holding.{IsFunc}
use Rattle.wac_parser_declare.specs.InBodies.{IsBody}
use Rattle.wac_parser_declare.proofs.InBodies.{added_absent, body-kept, declared_stands, item_more}
use Rattle.wac_parser_declare.proofs.Standing.{added_stands}
use Rattle.wac_parser_declare.proofs.resources.add_function.Goals as goal

pub returns-clause-outcome : goal.returns-clause-outcome
returns-clause-outcome c old d q grows stands declared =
    let b = c.args.body.now in
    let n = c.args.name.now in
    let k = ItemKind.Func c.in_ok-func.func in
    let entries = c.add_new.new.entries in
    let more = item_more d b n entries k (added_absent b.items entries n k c.in_ok-add_new.field-0 c.requires c.in_ok-add_new.ensures.added) in
    after_held (λ (f : Stated). Ok (with_item (stated_body old b) n f)) (IsFunc d) (λ (y : stated.Body) (u : ⊤). IsBody d y (record { names = b.names; uses = b.uses; items = entries; exports = b.exports })) q c.in_ok-func.func tt
    (subst (λ (o : Result FuncTypeId Refusal). IsOutcome (IsFunc d) q o) c.in_ok-func.was declared)
    (λ f held. more ∙ ap (λ (y : stated.Body). with_item y n (stated_of d k)) (body-kept old d grows b stands) ∙ ap (with_item (stated_body old b) n) held.same)

pub returns-clause-stands : goal.returns-clause-stands
returns-clause-stands c d s h =
    record {
      names = s.names;
      uses = s.uses;
      items = added_stands (Stands d) c.args.body.now.items c.add_new.new.entries c.args.name.now (ItemKind.Func c.in_ok-func.func) c.in_ok-add_new.field-0 s.items
          (declared_stands (λ (f : FuncTypeId). Stands d (ItemKind.Func f)) c.args.declared c.in_ok-func.func c.in_ok-func.was h) c.in_ok-add_new.ensures.added;
      exports = s.exports;
    }
