use Rattle.std.specs.Prelude.{⊤}
use Rattle.std.proofs.Common.{subst}
use Rattle.wac_types_base.specs.declared.item.ItemKind.{ItemKind}
use Rattle.wac_types_base.specs.Stated.{Stated, stated_of}
use Rattle.wac_parser_tree.specs.Views.{view_func_type_ref, view_ident}
use Rattle.wac_parser_refusals.specs.Causes.{◌>>=◌}
use Rattle.wac_parser_refusals.specs.Outcomes.{IsOutcome}
use Rattle.wac_parser_refusals.proofs.Outcomes.{after_outcome, refused_outcome, then_refused}
use Rattle.wac_parser_declare.specs.Bodies as stated
use Rattle.wac_parser_declare.specs.Declarations.{func_ref}
use Rattle.wac_parser_declare.specs.Held.{holder_of, stated_body}
use Rattle.wac_parser_declare.specs.Holding.{IsFunc, scope_of}
use Rattle.wac_parser_declare.specs.InBodies.{IsBody, item_added}
use Rattle.wac_parser_declare.proofs.InBodies.{body-kept}
use Rattle.wac_parser_declare.proofs.interfaces.export_item.Goals as goal

pub returns-in_err-func-clause-outcome : goal.returns-in_err-func-clause-outcome
returns-in_err-func-clause-outcome g c =
    let old = g.T.GrowingTypes.collection c.args.types.now in
    let new = g.T.GrowingTypes.collection c.func_type_ref.new.types in
    let b = c.args.body.now in
    let i = view_ident c.args.export.now.id in
    let q = func_ref (scope_of old b.names) (view_func_type_ref c.args.export.now.ty) in
    let f = item_added (holder_of c.args.holder) (stated_body old b) i in
    refused_outcome (λ (y : stated.Body) (u : ⊤). IsBody new y b) (q >>= f) _ _ c.from_residual.ensures.1
    (then_refused f q _ c.in_err-func.ensures.outcome)

pub returns-clause-outcome : goal.returns-clause-outcome
returns-clause-outcome g c =
    let old = g.T.GrowingTypes.collection c.args.types.now in
    let new = g.T.GrowingTypes.collection c.func_type_ref.new.types in
    let b = c.args.body.now in
    let h = holder_of c.args.holder in
    let i = view_ident c.args.export.now.id in
    let r = c.add_item.result in
    let q = func_ref (scope_of old b.names) (view_func_type_ref c.args.export.now.ty) in
    let k : stated.Body → ⊤ → Type 0 = λ y u. IsBody new y c.add_item.new.body in
    after_outcome (item_added h (stated_body old b) i) (IsFunc new) k q c.in_ok-func.func r c.in_ok-func.ensures.outcome
    (λ x held. subst (λ (y : Stated). IsOutcome k (item_added h (stated_body old b) i y) r) held.same
    (subst (λ (s : stated.Body). IsOutcome k (item_added h s i (stated_of new (ItemKind.Func c.in_ok-func.func))) r)
    (body-kept old new c.in_ok-func.ensures.grows b c.requires.body) (c.add_item.ensures.outcome new)))
