use Rattle.std.specs.Prelude.{⊤}
use Rattle.std.proofs.Common.{map, subst}
use Rattle.wac_types_base.specs.Collection as s
use Rattle.wac_types_base.specs.Stated.{Stated, leaf}
use Rattle.wac_parser_tree.specs.Views.{view_ident, view_resource_method}
use Rattle.wac_parser_refusals.specs.Causes.{each}
use Rattle.wac_parser_refusals.specs.Outcomes.{IsHeld, IsOutcome}
use Rattle.wac_parser_refusals.proofs.Outcomes.{after_outcome}
use Rattle.wac_parser_declare.specs.Aliases.{stated_resource}
use Rattle.wac_parser_declare.specs.Bodies as stated
use Rattle.wac_parser_declare.specs.Bodies.{add_type, resource_method}
use Rattle.wac_parser_declare.specs.Held.{holder_of, stated_body}
use Rattle.wac_parser_declare.specs.InBodies.{IsBody}
use Rattle.wac_parser_declare.proofs.InBodies.{body-kept}
use Rattle.wac_parser_declare.proofs.resources.resource_decl.Goals as goal

pub returns-clause-outcome : goal.returns-clause-outcome
returns-clause-outcome g c =
    let old = g.T.GrowingTypes.collection c.args.types.now in
    let mid = g.T.GrowingTypes.collection c.new_resource.new.types in
    let new = g.T.GrowingTypes.collection c.resource_methods.new.types in
    let b = c.args.body.now in
    let h = holder_of c.args.holder in
    let i = view_ident c.args.decl.now.id in
    let n = c.args.decl.now.id.string.now in
    let x = leaf (s.resource n) in
    let ms = map view_resource_method c.args.decl.now.methods.items in
    let r = c.resource_methods.result in
    let k : stated.Body → ⊤ → Type 0 = λ y u. IsBody new y c.resource_methods.new.body in
    let h1 : stated.Body → ⊤ → Type 0 = λ y u. IsBody mid y c.add_type.new.body in
    let added : IsHeld h1 (add_type h (stated_body old b) i x) tt =
    subst (λ (y : Stated). IsHeld h1 (add_type h (stated_body old b) i y) tt) c.in_ok-id.ensures.stated
    (subst (λ (z : stated.Body). IsHeld h1 (add_type h z i (stated_resource mid c.in_ok-id.id)) tt) (body-kept old mid c.in_ok-id.ensures.grows b c.requires.body) (c.in_ok-add_type.ensures.outcome mid)) in
    after_outcome (λ (y : stated.Body). each (resource_method n x) y ms) h1 k (add_type h (stated_body old b) i x) tt r added
    (λ y e. subst (λ (z : stated.Body). IsOutcome k (each (resource_method n x) z ms) r) e
    (subst (λ (z : Stated). IsOutcome k (each (resource_method n z) (stated_body mid c.add_type.new.body) ms) r) c.in_ok-id.ensures.stated c.resource_methods.ensures.outcome))
