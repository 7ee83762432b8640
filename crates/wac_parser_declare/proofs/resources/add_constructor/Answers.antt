use Rattle.std.specs.Prelude.{⊤}
use Rattle.std.proofs.Common.{[], map, Some, false, is_some, Ok, ap, subst, sym, ◌∙◌}
use Rattle.std.proofs.lemmas.Result.{on_ok_weaker}
use Rattle.wac_types_base.specs.declared.item.FuncKind.{FuncKind}
use Rattle.wac_types_base.specs.declared.item.ItemKind.{ItemKind}
use Rattle.wac_types_base.specs.declared.item.ValueType.{ValueType}
use Rattle.wac_types_base.specs.Collection.{IsAcyclic}
use Rattle.wac_types_base.specs.Entries.{Name, value_at}
use Rattle.wac_types_base.specs.Stated.{Stated, own, stated_of}
use Rattle.wac_parser_tree.specs.Trees as t
use Rattle.wac_parser_tree.specs.Views.{view_named_type}
use Rattle.wac_parser_refusals.specs.Causes.{Answer, ◌>>=◌, DuplicateResourceConstructor}
use Rattle.wac_parser_refusals.specs.Outcomes.{IsOutcome}
use Rattle.wac_parser_declare.specs.Aliases.{stated_resource}
use Rattle.wac_parser_declare.specs.Bodies as stated
use Rattle.wac_parser_declare.specs.Bodies.{constructor_name, with_item}
use Rattle.wac_parser_declare.specs.Declarations.{function}
use Rattle.wac_parser_declare.specs.Held.{stated_body}
use Rattle.wac_parser_declare.specs.InBodies.{IsBody}
use Rattle.wac_parser_declare.specs.Scope.{has}
use Rattle.wac_parser_declare.proofs.InBodies.{absent_outcome, has_item, own_stated, there_refused}
use Rattle.wac_parser_declare.proofs.Standing.{body_stays}
use Rattle.wac_parser_declare.proofs.resources.add_constructor.Goals as goal

pub add_function-requires : goal.add_function-requires
add_function-requires g c =
    ap (λ (n : Name). is_some (value_at c.args.body.now.items n)) (c.as_str-2.ensures.value ∙ sym c.as_str.ensures.value) ∙ sym c.contains.ensures ∙ c.if-contains.false

pub returns-then-contains-clause-outcome : goal.returns-then-contains-clause-outcome
returns-then-contains-clause-outcome g c =
    let old = g.T.GrowingTypes.collection c.args.types.now in
    let b = c.args.body.now in
    let s = stated_body old b in
    let r = c.args.owner.name.now in
    let n = constructor_name r in
    there_refused (has s.items n) (DuplicateResourceConstructor r) c.args.decl.now.span
    (function FuncKind.Constructor s.names [] (Some (own (stated_resource old c.args.owner.id))) (map view_named_type c.args.decl.now.params.items) t.ResultList.empty false >>= λ (f : Stated). Ok (with_item s n f))
    c.duplicate_constructor.result
    (has_item old b n ∙ ap (λ (m : Name). is_some (value_at b.items m)) (sym (c.as_str.ensures.value ∙ c.in_ok-name.ensures)) ∙ sym c.contains.ensures ∙ c.if-contains.true)
    c.duplicate_constructor.ensures

pub returns-clause-outcome : goal.returns-clause-outcome
returns-clause-outcome g c =
    let old = g.T.GrowingTypes.collection c.args.types.now in
    let new = g.T.GrowingTypes.collection c.function-declared.new.types in
    let b = c.args.body.now in
    let s = stated_body old b in
    let r = c.args.owner.name.now in
    let n = constructor_name r in
    let answer = c.add_function.result in
    let k : stated.Body → ⊤ → Type 0 = λ y u. IsBody new y c.add_function.new.body in
    let f : Stated → Answer Stated = λ x. function FuncKind.Constructor s.names [] (Some x) (map view_named_type c.args.decl.now.params.items) t.ResultList.empty false in
    let q : Stated → Name → Answer stated.Body = λ x m. f x >>= λ (y : Stated). Ok (with_item s m y) in
    let x = own (stated_resource old c.args.owner.id) in
    let given = own_stated old (subst IsAcyclic c.types.ensures c.see_acyclic.ensures) c.args.owner.id c.requires.owner in
    absent_outcome (has s.items n) (DuplicateResourceConstructor r) c.args.decl.now.span (q x n) k answer
    (has_item old b n ∙ ap (λ (m : Name). is_some (value_at b.items m)) (sym (c.as_str.ensures.value ∙ c.in_ok-name.ensures)) ∙ sym c.contains.ensures ∙ c.if-contains.false)
    (subst (λ (m : Name). IsOutcome k (q x m) answer) (c.as_str-2.ensures.value ∙ c.in_ok-name.ensures)
    (subst (λ (y : Stated). IsOutcome k (q y c.as_str-2.result.now) answer) given
    (c.add_function.ensures.outcome old new (f (stated_of old (ItemKind.Value (ValueType.Own c.args.owner.id)))) c.function-declared.ensures.grows c.requires.body c.function-declared.ensures.outcome)))

pub returns-clause-body : goal.returns-clause-body
returns-clause-body g c =
    let old = g.T.GrowingTypes.collection c.args.types.now in
    let new = g.T.GrowingTypes.collection c.function-declared.new.types in
    on_ok_weaker c.add_function.result (λ s. s new (body_stays old new c.args.body.now c.function-declared.ensures.grows c.requires.body) c.function-declared.ensures.stands) c.add_function.ensures.stands
