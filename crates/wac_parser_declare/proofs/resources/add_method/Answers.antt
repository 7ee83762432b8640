use Rattle.std.specs.Prelude.{⊤}
use Rattle.std.proofs.Common.{Bool, map, Option, None, is_some, Ok, ap, subst, sym, ◌∙◌}
use Rattle.std.proofs.lemmas.Result.{on_ok_weaker}
use Rattle.wac_types_base.specs.declared.item.FuncKind.{FuncKind}
use Rattle.wac_types_base.specs.Collection.{IsAcyclic}
use Rattle.wac_types_base.specs.Entries.{Name, value_at}
use Rattle.wac_types_base.specs.Stated.{Stated}
use Rattle.wac_parser_tree.specs.Views.{view_named_type, view_result_list}
use Rattle.wac_parser_refusals.specs.Causes.{Answer, ◌>>=◌, DuplicateResourceMethod}
use Rattle.wac_parser_refusals.specs.Outcomes.{IsOutcome}
use Rattle.wac_parser_declare.specs.declared.functions.Signature.{Signature}
use Rattle.wac_parser_declare.specs.Aliases.{stated_resource}
use Rattle.wac_parser_declare.specs.Bodies as stated
use Rattle.wac_parser_declare.specs.Bodies.{Items, has_method, method_kind, method_name, self_of, with_item}
use Rattle.wac_parser_declare.specs.Declarations.{function}
use Rattle.wac_parser_declare.specs.Held.{stated_body}
use Rattle.wac_parser_declare.specs.Holding.{self_params, stated_if}
use Rattle.wac_parser_declare.specs.InBodies.{IsBody}
use Rattle.wac_parser_declare.proofs.InBodies.{absent_method, absent_outcome, methods_stated, receiver_stated, there_refused}
use Rattle.wac_parser_declare.proofs.Standing.{body_stays}
use Rattle.wac_parser_declare.proofs.resources.add_method.Goals as goal

pub add_function-requires : goal.add_function-requires
add_function-requires g c =
    let items = c.args.body.now.items in
    let d = c.args.decl.now in
    ap (λ (n : Name). is_some (value_at items n)) (c.as_str.ensures.value ∙ c.in_ok-name.ensures)
    ∙ absent_method items c.args.owner.name.now d.id.string.now d.is_static (sym c.in_ok-has_method.ensures ∙ c.if-branch.false)

pub returns-then-branch-clause-outcome : goal.returns-then-branch-clause-outcome
returns-then-branch-clause-outcome g c =
    let old = g.T.GrowingTypes.collection c.args.types.now in
    let s = stated_body old c.args.body.now in
    let d = c.args.decl.now in
    let r = c.args.owner.name.now in
    let m = d.id.string.now in
    let f = function (method_kind d.is_static) s.names (self_of d.is_static (stated_resource old c.args.owner.id)) None (map view_named_type d.ty.params.items) (view_result_list d.ty.results) d.ty.is_async in
    there_refused (has_method s.items r m) (DuplicateResourceMethod m r) d.id.span (f >>= λ (x : Stated). Ok (with_item s (method_name d.is_static r m) x)) c.duplicate_method.result
    (methods_stated old c.args.body.now r m ∙ sym c.in_ok-has_method.ensures ∙ c.if-branch.true) c.duplicate_method.ensures

pub returns-clause-outcome : goal.returns-clause-outcome
returns-clause-outcome g c =
    let old = g.T.GrowingTypes.collection c.args.types.now in
    let new = g.T.GrowingTypes.collection c.function-declared.new.types in
    let b = c.args.body.now in
    let s = stated_body old b in
    let d = c.args.decl.now in
    let r = c.args.owner.name.now in
    let m = d.id.string.now in
    let n = method_name d.is_static r m in
    let answer = c.add_function.result in
    let k : stated.Body → ⊤ → Type 0 = λ y u. IsBody new y c.add_function.new.body in
    let f : FuncKind → Items → Option Stated → Bool → Answer Stated = λ kind self given is_async. function kind s.names self given (map view_named_type d.ty.params.items) (view_result_list d.ty.results) is_async in
    let q : Items → Name → Answer stated.Body = λ self at. f (method_kind d.is_static) self None d.ty.is_async >>= λ (x : Stated). Ok (with_item s at x) in
    let self = self_of d.is_static (stated_resource old c.args.owner.id) in
    let given = receiver_stated old (subst IsAcyclic c.types.ensures c.see_acyclic.ensures) c.args.owner.id c.requires.owner d.is_static in
    absent_outcome (has_method s.items r m) (DuplicateResourceMethod m r) d.id.span (q self n) k answer
    (methods_stated old b r m ∙ sym c.in_ok-has_method.ensures ∙ c.if-branch.false)
    (subst (λ (at : Name). IsOutcome k (q self at) answer) (c.as_str.ensures.value ∙ c.in_ok-name.ensures)
    (subst (λ (xs : Items). IsOutcome k (q xs c.as_str.result.now) answer) given
    (subst (λ (y : Signature). IsOutcome k (f y.kind (self_params (stated_if old y.receiver)) (stated_if old y.given) y.is_async >>= λ (x : Stated). Ok (with_item s c.as_str.result.now x)) answer) c.method_signature-signature.ensures
    (let y = c.method_signature-signature.result in
    c.add_function.ensures.outcome old new (f y.kind (self_params (stated_if old y.receiver)) (stated_if old y.given) y.is_async) c.function-declared.ensures.grows c.requires.body c.function-declared.ensures.outcome))))

pub returns-clause-body : goal.returns-clause-body
returns-clause-body g c =
    let old = g.T.GrowingTypes.collection c.args.types.now in
    let new = g.T.GrowingTypes.collection c.function-declared.new.types in
    on_ok_weaker c.add_function.result (λ s. s new (body_stays old new c.args.body.now c.function-declared.ensures.grows c.requires.body) c.function-declared.ensures.stands) c.add_function.ensures.stands
