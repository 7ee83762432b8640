use Rattle.std.specs.Prelude.{⊤}
use Rattle.std.proofs.Common.{subst, Result}
use Rattle.wac_types_base.specs.declared.item.ItemKind.{ItemKind}
use Rattle.wac_types_base.specs.declared.item.«Type».{«Type» as TypeKind}
use Rattle.wac_types_base.specs.Stated.{Stated, stated_of}
use Rattle.wac_parser_tree.specs.Views.{view_ident}
use Rattle.wac_parser_refusals.specs.declared.refusal.Refusal.{Refusal}
use Rattle.wac_parser_refusals.specs.Outcomes.{IsOutcome}
use Rattle.wac_parser_refusals.proofs.Outcomes.{after_outcome}
use Rattle.wac_parser_declare.specs.Bodies as stated
use Rattle.wac_parser_declare.specs.Bodies.{add_type}
use Rattle.wac_parser_declare.specs.Held.{holder_of, stated_body}
use Rattle.wac_parser_declare.specs.Holding.{IsType}
use Rattle.wac_parser_declare.specs.InBodies.{IsBody}
use Rattle.wac_parser_declare.proofs.InBodies.{body-kept}
use Rattle.wac_parser_declare.proofs.resources.add_declared.Goals as goal

pub returns-clause-outcome : goal.returns-clause-outcome
returns-clause-outcome c old d q grows stands declared =
    let b = c.args.body.now in
    let h = holder_of c.args.holder in
    let i = view_ident c.args.id.now in
    let r = c.add_type.result in
    let k : stated.Body → ⊤ → Type 0 = λ x u. IsBody d x c.add_type.new.body in
    after_outcome (λ (x : Stated). add_type h (stated_body old b) i x) (IsType d) k q c.in_ok-ty.ty r (subst (λ (o : Result TypeKind Refusal). IsOutcome (IsType d) q o) c.in_ok-ty.was declared)
    (λ x held. subst (λ (y : Stated). IsOutcome k (add_type h (stated_body old b) i y) r) held.same
    (subst (λ (s : stated.Body). IsOutcome k (add_type h s i (stated_of d (ItemKind.Ty c.in_ok-ty.ty))) r) (body-kept old d grows b stands) (c.add_type.ensures.outcome d)))
