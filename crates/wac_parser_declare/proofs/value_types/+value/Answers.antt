use Rattle.std.proofs.Common.{◌≡◌, List, [], ◌∷◌, ◌++◌, map, get_or, ap, Option, Some, None, Ok, subst, sym, refl, ◌∙◌, arith}
use Rattle.std.specs.declared.alloc.Global.{Global}
use Rattle.std.specs.declared.boxed.Box.{Box}
use Rattle.wac_types_base.specs.declared.item.ValueType.{ValueType}
use Rattle.wac_types_base.specs.Collection as s
use Rattle.wac_types_base.specs.Collection.{IsAcyclic, value_slot, option_slot}
use Rattle.wac_types_base.proofs.Adding.{Grows-refl, Grows-trans}
use Rattle.wac_parser_tree.specs.declared.value_type.«Type».{«Type»}
use Rattle.wac_parser_tree.specs.Trees as tree
use Rattle.wac_parser_tree.specs.Views.{view_ty}
use Rattle.wac_types_base.specs.Stated.{Stated}
use Rattle.wac_parser_refusals.specs.Causes.{Answer}
use Rattle.wac_parser_declare.specs.Scope.{Scope}
use Rattle.wac_parser_declare.specs.Payloads.{boxed_payload}
use Rattle.wac_parser_declare.specs.ValueTypes.{value, values, maybe_value, of_one, of_maybe, of_two, of_all}
use Rattle.wac_parser_refusals.specs.Outcomes.{IsHeld, IsOutcome}
use Rattle.wac_parser_declare.specs.Holding.{IsValue, IsValueIf, AreValues, scope_of, stated_if}
use Rattle.wac_parser_refusals.proofs.Outcomes.{refused_outcome, memory_outcome}
use Rattle.wac_parser_declare.proofs.Kept.{children, option_stands, scope-kept, NamesStand-kept, StandsIf-kept, AreValues-kept, AreValues-more}
use Rattle.wac_parser_declare.proofs.Known.{same_refl, same_trans}
use Rattle.wac_parser_declare.proofs.Loops.{members_next, members_refused_whole, members_end}
use Rattle.wac_parser_declare.proofs.Values.{value_stands, maybe_stands, all_stand, one_held, maybe_held, two_held, all_held, some_held, one_refused, maybe_refused, all_refused, first_refused, second_refused, joined}
use Rattle.wac_parser_declare.proofs.Members.{given_held}
use Rattle.wac_parser_declare.proofs.TypeViews.{payload_refused, at_u8, at_s8, at_u16, at_s16, at_u32, at_s32, at_u64, at_s64, at_f32, at_f64, at_char, at_bool, at_string, at_error_context, at_list, at_option, at_borrow, at_ident, at_stream, at_future, at_result, at_tuple}
use Rattle.wac_parser_declare.proofs.value_types.+value.Goals as goal

pub list_type-returns-in_err-element-clause-outcome : goal.list_type-returns-in_err-element-clause-outcome
list_type-returns-in_err-element-clause-outcome g t c = refused_outcome (IsValue (g.T.GrowingTypes.collection c.value_type.new.types)) (of_one s.list (value (scope_of (g.T.GrowingTypes.collection c.args.types.now) c.args.names.now) (view_ty c.args.element.now))) _ _ c.from_residual.ensures.1 (one_refused s.list (value (scope_of (g.T.GrowingTypes.collection c.args.types.now) c.args.names.now) (view_ty c.args.element.now)) _ c.in_err-element.ensures.outcome)

pub list_type-define-requires : goal.list_type-define-requires
list_type-define-requires g t c = children (g.T.GrowingTypes.collection c.value_type.new.types) (value_slot c.in_ok-element.element ∷ []) (value_stands (g.T.GrowingTypes.collection c.value_type.new.types) (value (scope_of (g.T.GrowingTypes.collection c.args.types.now) c.args.names.now) (view_ty c.args.element.now)) c.in_ok-element.element c.in_ok-element.ensures.outcome, tt)

pub list_type-returns-in_err-list-clause-outcome : goal.list_type-returns-in_err-list-clause-outcome
list_type-returns-in_err-list-clause-outcome g t c = memory_outcome (IsValue (g.T.GrowingTypes.collection c.define.new.types)) (of_one s.list (value (scope_of (g.T.GrowingTypes.collection c.args.types.now) c.args.names.now) (view_ty c.args.element.now))) _ c.from_residual-in_err-list.ensures.1

pub list_type-returns-in_err-list-clause-grows : goal.list_type-returns-in_err-list-clause-grows
list_type-returns-in_err-list-clause-grows g t c = Grows-trans _ _ _ c.in_ok-element.ensures.grows c.in_err-list.ensures.grows

pub list_type-returns-clause-outcome : goal.list_type-returns-clause-outcome
list_type-returns-clause-outcome g t c = one_held (g.T.GrowingTypes.collection c.value_type.new.types) (g.T.GrowingTypes.collection c.define.new.types) c.in_ok-list.ensures.grows s.list c.in_ok-list.list (value (scope_of (g.T.GrowingTypes.collection c.args.types.now) c.args.names.now) (view_ty c.args.element.now)) c.in_ok-element.element c.in_ok-element.ensures.outcome c.in_ok-list.ensures.node

pub list_type-returns-clause-grows : goal.list_type-returns-clause-grows
list_type-returns-clause-grows g t c = Grows-trans _ _ _ c.in_ok-element.ensures.grows c.in_ok-list.ensures.grows

pub option_type-returns-in_err-payload-clause-outcome : goal.option_type-returns-in_err-payload-clause-outcome
option_type-returns-in_err-payload-clause-outcome g t c = refused_outcome (IsValue (g.T.GrowingTypes.collection c.value_type.new.types)) (of_one s.option (value (scope_of (g.T.GrowingTypes.collection c.args.types.now) c.args.names.now) (view_ty c.args.payload.now))) _ _ c.from_residual.ensures.1 (one_refused s.option (value (scope_of (g.T.GrowingTypes.collection c.args.types.now) c.args.names.now) (view_ty c.args.payload.now)) _ c.in_err-payload.ensures.outcome)

pub option_type-define-requires : goal.option_type-define-requires
option_type-define-requires g t c = children (g.T.GrowingTypes.collection c.value_type.new.types) (value_slot c.in_ok-payload.payload ∷ []) (value_stands (g.T.GrowingTypes.collection c.value_type.new.types) (value (scope_of (g.T.GrowingTypes.collection c.args.types.now) c.args.names.now) (view_ty c.args.payload.now)) c.in_ok-payload.payload c.in_ok-payload.ensures.outcome, tt)

pub option_type-returns-in_err-option-clause-outcome : goal.option_type-returns-in_err-option-clause-outcome
option_type-returns-in_err-option-clause-outcome g t c = memory_outcome (IsValue (g.T.GrowingTypes.collection c.define.new.types)) (of_one s.option (value (scope_of (g.T.GrowingTypes.collection c.args.types.now) c.args.names.now) (view_ty c.args.payload.now))) _ c.from_residual-in_err-option.ensures.1

pub option_type-returns-in_err-option-clause-grows : goal.option_type-returns-in_err-option-clause-grows
option_type-returns-in_err-option-clause-grows g t c = Grows-trans _ _ _ c.in_ok-payload.ensures.grows c.in_err-option.ensures.grows

pub option_type-returns-clause-outcome : goal.option_type-returns-clause-outcome
option_type-returns-clause-outcome g t c = one_held (g.T.GrowingTypes.collection c.value_type.new.types) (g.T.GrowingTypes.collection c.define.new.types) c.in_ok-option.ensures.grows s.option c.in_ok-option.option (value (scope_of (g.T.GrowingTypes.collection c.args.types.now) c.args.names.now) (view_ty c.args.payload.now)) c.in_ok-payload.payload c.in_ok-payload.ensures.outcome c.in_ok-option.ensures.node

pub option_type-returns-clause-grows : goal.option_type-returns-clause-grows
option_type-returns-clause-grows g t c = Grows-trans _ _ _ c.in_ok-payload.ensures.grows c.in_ok-option.ensures.grows

pub stream_type-returns-in_err-payload-clause-outcome : goal.stream_type-returns-in_err-payload-clause-outcome
stream_type-returns-in_err-payload-clause-outcome g t c = refused_outcome (IsValue (g.T.GrowingTypes.collection c.maybe_type.new.types)) (of_maybe s.stream (maybe_value (scope_of (g.T.GrowingTypes.collection c.args.types.now) c.args.names.now) (boxed_payload c.args.payload.now))) _ _ c.from_residual.ensures.1 (maybe_refused s.stream (maybe_value (scope_of (g.T.GrowingTypes.collection c.args.types.now) c.args.names.now) (boxed_payload c.args.payload.now)) _ c.in_err-payload.ensures.outcome)

pub stream_type-define-requires : goal.stream_type-define-requires
stream_type-define-requires g t c = children (g.T.GrowingTypes.collection c.maybe_type.new.types) (option_slot c.in_ok-payload.payload ∷ []) (option_stands (g.T.GrowingTypes.collection c.maybe_type.new.types) c.in_ok-payload.payload (maybe_stands (g.T.GrowingTypes.collection c.maybe_type.new.types) (maybe_value (scope_of (g.T.GrowingTypes.collection c.args.types.now) c.args.names.now) (boxed_payload c.args.payload.now)) c.in_ok-payload.payload c.in_ok-payload.ensures.outcome), tt)

pub stream_type-returns-in_err-stream-clause-outcome : goal.stream_type-returns-in_err-stream-clause-outcome
stream_type-returns-in_err-stream-clause-outcome g t c = memory_outcome (IsValue (g.T.GrowingTypes.collection c.define.new.types)) (of_maybe s.stream (maybe_value (scope_of (g.T.GrowingTypes.collection c.args.types.now) c.args.names.now) (boxed_payload c.args.payload.now))) _ c.from_residual-in_err-stream.ensures.1

pub stream_type-returns-in_err-stream-clause-grows : goal.stream_type-returns-in_err-stream-clause-grows
stream_type-returns-in_err-stream-clause-grows g t c = Grows-trans _ _ _ c.in_ok-payload.ensures.grows c.in_err-stream.ensures.grows

pub stream_type-returns-clause-outcome : goal.stream_type-returns-clause-outcome
stream_type-returns-clause-outcome g t c = maybe_held (g.T.GrowingTypes.collection c.maybe_type.new.types) (g.T.GrowingTypes.collection c.define.new.types) c.in_ok-stream.ensures.grows s.stream c.in_ok-stream.stream (maybe_value (scope_of (g.T.GrowingTypes.collection c.args.types.now) c.args.names.now) (boxed_payload c.args.payload.now)) c.in_ok-payload.payload c.in_ok-payload.ensures.outcome c.in_ok-stream.ensures.node

pub stream_type-returns-clause-grows : goal.stream_type-returns-clause-grows
stream_type-returns-clause-grows g t c = Grows-trans _ _ _ c.in_ok-payload.ensures.grows c.in_ok-stream.ensures.grows

pub future_type-returns-in_err-payload-clause-outcome : goal.future_type-returns-in_err-payload-clause-outcome
future_type-returns-in_err-payload-clause-outcome g t c = refused_outcome (IsValue (g.T.GrowingTypes.collection c.maybe_type.new.types)) (of_maybe s.future (maybe_value (scope_of (g.T.GrowingTypes.collection c.args.types.now) c.args.names.now) (boxed_payload c.args.payload.now))) _ _ c.from_residual.ensures.1 (maybe_refused s.future (maybe_value (scope_of (g.T.GrowingTypes.collection c.args.types.now) c.args.names.now) (boxed_payload c.args.payload.now)) _ c.in_err-payload.ensures.outcome)

pub future_type-define-requires : goal.future_type-define-requires
future_type-define-requires g t c = children (g.T.GrowingTypes.collection c.maybe_type.new.types) (option_slot c.in_ok-payload.payload ∷ []) (option_stands (g.T.GrowingTypes.collection c.maybe_type.new.types) c.in_ok-payload.payload (maybe_stands (g.T.GrowingTypes.collection c.maybe_type.new.types) (maybe_value (scope_of (g.T.GrowingTypes.collection c.args.types.now) c.args.names.now) (boxed_payload c.args.payload.now)) c.in_ok-payload.payload c.in_ok-payload.ensures.outcome), tt)

pub future_type-returns-in_err-future-clause-outcome : goal.future_type-returns-in_err-future-clause-outcome
future_type-returns-in_err-future-clause-outcome g t c = memory_outcome (IsValue (g.T.GrowingTypes.collection c.define.new.types)) (of_maybe s.future (maybe_value (scope_of (g.T.GrowingTypes.collection c.args.types.now) c.args.names.now) (boxed_payload c.args.payload.now))) _ c.from_residual-in_err-future.ensures.1

pub future_type-returns-in_err-future-clause-grows : goal.future_type-returns-in_err-future-clause-grows
future_type-returns-in_err-future-clause-grows g t c = Grows-trans _ _ _ c.in_ok-payload.ensures.grows c.in_err-future.ensures.grows

pub future_type-returns-clause-outcome : goal.future_type-returns-clause-outcome
future_type-returns-clause-outcome g t c = maybe_held (g.T.GrowingTypes.collection c.maybe_type.new.types) (g.T.GrowingTypes.collection c.define.new.types) c.in_ok-future.ensures.grows s.future c.in_ok-future.future (maybe_value (scope_of (g.T.GrowingTypes.collection c.args.types.now) c.args.names.now) (boxed_payload c.args.payload.now)) c.in_ok-payload.payload c.in_ok-payload.ensures.outcome c.in_ok-future.ensures.node

pub future_type-returns-clause-grows : goal.future_type-returns-clause-grows
future_type-returns-clause-grows g t c = Grows-trans _ _ _ c.in_ok-payload.ensures.grows c.in_ok-future.ensures.grows

pub tuple_type-returns-in_err-found-clause-outcome : goal.tuple_type-returns-in_err-found-clause-outcome
tuple_type-returns-in_err-found-clause-outcome g t c = refused_outcome (IsValue (g.T.GrowingTypes.collection c.member_types.new.types)) (of_all s.tuple (values (scope_of (g.T.GrowingTypes.collection c.args.types.now) c.args.names.now) [] (tree.tys (map view_ty c.args.members.now.items)))) _ _ c.from_residual.ensures.1 (all_refused s.tuple (values (scope_of (g.T.GrowingTypes.collection c.args.types.now) c.args.names.now) [] (tree.tys (map view_ty c.args.members.now.items))) _ c.in_err-found.ensures.outcome)

pub tuple_type-define-requires : goal.tuple_type-define-requires
tuple_type-define-requires g t c = all_stand (g.T.GrowingTypes.collection c.member_types.new.types) (values (scope_of (g.T.GrowingTypes.collection c.args.types.now) c.args.names.now) [] (tree.tys (map view_ty c.args.members.now.items))) c.in_ok-found.found c.in_ok-found.ensures.outcome

pub tuple_type-returns-in_err-tuple-clause-outcome : goal.tuple_type-returns-in_err-tuple-clause-outcome
tuple_type-returns-in_err-tuple-clause-outcome g t c = memory_outcome (IsValue (g.T.GrowingTypes.collection c.define.new.types)) (of_all s.tuple (values (scope_of (g.T.GrowingTypes.collection c.args.types.now) c.args.names.now) [] (tree.tys (map view_ty c.args.members.now.items)))) _ c.from_residual-in_err-tuple.ensures.1

pub tuple_type-returns-in_err-tuple-clause-grows : goal.tuple_type-returns-in_err-tuple-clause-grows
tuple_type-returns-in_err-tuple-clause-grows g t c = Grows-trans _ _ _ c.in_ok-found.ensures.grows c.in_err-tuple.ensures.grows

pub tuple_type-returns-clause-outcome : goal.tuple_type-returns-clause-outcome
tuple_type-returns-clause-outcome g t c = all_held (g.T.GrowingTypes.collection c.member_types.new.types) (g.T.GrowingTypes.collection c.define.new.types) c.in_ok-tuple.ensures.grows s.tuple c.in_ok-tuple.tuple (values (scope_of (g.T.GrowingTypes.collection c.args.types.now) c.args.names.now) [] (tree.tys (map view_ty c.args.members.now.items))) c.in_ok-found.found c.in_ok-found.ensures.outcome c.in_ok-tuple.ensures.node

pub tuple_type-returns-clause-grows : goal.tuple_type-returns-clause-grows
tuple_type-returns-clause-grows g t c = Grows-trans _ _ _ c.in_ok-found.ensures.grows c.in_ok-tuple.ensures.grows

pub maybe_type-returns-in_err-found-in-Some-clause-outcome : goal.maybe_type-returns-in_err-found-in-Some-clause-outcome
maybe_type-returns-in_err-found-in-Some-clause-outcome g t c = refused_outcome (IsValueIf (g.T.GrowingTypes.collection c.value_type.new.types)) (maybe_value (scope_of (g.T.GrowingTypes.collection c.args.types.now) c.args.names.now) (boxed_payload c.args.ty.now)) _ _ c.from_residual.ensures.1 (payload_refused (scope_of (g.T.GrowingTypes.collection c.args.types.now) c.args.names.now) c.args.ty.now c.in-Some.ty _ _ c.in-Some.is c.deref.ensures c.in_err-found-in-Some.ensures.outcome)

pub maybe_type-returns-in_ok-found-in-Some-clause-outcome : goal.maybe_type-returns-in_ok-found-in-Some-clause-outcome
maybe_type-returns-in_ok-found-in-Some-clause-outcome g t c =
    subst (λ (o : Option (Box «Type» Global)). IsHeld (IsValueIf (g.T.GrowingTypes.collection c.value_type.new.types)) (maybe_value (scope_of (g.T.GrowingTypes.collection c.args.types.now) c.args.names.now) (boxed_payload o)) (Some c.in_ok-found-in-Some.found)) (sym c.in-Some.is)
    (some_held (g.T.GrowingTypes.collection c.value_type.new.types) (value (scope_of (g.T.GrowingTypes.collection c.args.types.now) c.args.names.now) (view_ty c.in-Some.ty.value)) c.in_ok-found-in-Some.found
    (subst (λ (y : «Type»). IsHeld (IsValue (g.T.GrowingTypes.collection c.value_type.new.types)) (value (scope_of (g.T.GrowingTypes.collection c.args.types.now) c.args.names.now) (view_ty y)) c.in_ok-found-in-Some.found) c.deref.ensures c.in_ok-found-in-Some.ensures.outcome))

pub maybe_type-returns-in-None-clause-outcome : goal.maybe_type-returns-in-None-clause-outcome
maybe_type-returns-in-None-clause-outcome g t c =
    subst (λ (o : Option (Box «Type» Global)). IsHeld (IsValueIf (g.T.GrowingTypes.collection c.args.types.now)) (maybe_value (scope_of (g.T.GrowingTypes.collection c.args.types.now) c.args.names.now) (boxed_payload o)) None) (sym c.in-None.is) (record { stands = tt; same = refl })

pub maybe_type-returns-in-None-clause-grows : goal.maybe_type-returns-in-None-clause-grows
maybe_type-returns-in-None-clause-grows g t c = Grows-refl (g.T.GrowingTypes.collection c.args.types.now) (subst IsAcyclic c.types.ensures c.see_acyclic.ensures)

pub result_type-returns-in_err-err-clause-outcome : goal.result_type-returns-in_err-err-clause-outcome
result_type-returns-in_err-err-clause-outcome g t c =
    refused_outcome (IsValue (g.T.GrowingTypes.collection c.maybe_type.new.types)) (of_two s.result (Ok (stated_if (g.T.GrowingTypes.collection c.args.types.now) c.args.ok)) (maybe_value (scope_of (g.T.GrowingTypes.collection c.args.types.now) c.args.names.now) (boxed_payload c.args.err.now))) _ _ c.from_residual.ensures.1
    (second_refused s.result (g.T.GrowingTypes.collection c.args.types.now) (Ok (stated_if (g.T.GrowingTypes.collection c.args.types.now) c.args.ok)) (maybe_value (scope_of (g.T.GrowingTypes.collection c.args.types.now) c.args.names.now) (boxed_payload c.args.err.now)) c.args.ok _ (given_held (g.T.GrowingTypes.collection c.args.types.now) c.args.ok c.requires.ok) c.in_err-err.ensures.outcome)

pub result_type-define-requires : goal.result_type-define-requires
result_type-define-requires g t c =
    children (g.T.GrowingTypes.collection c.maybe_type.new.types) (option_slot c.args.ok ∷ option_slot c.in_ok-err.err ∷ []) (
      option_stands (g.T.GrowingTypes.collection c.maybe_type.new.types) c.args.ok (StandsIf-kept (g.T.GrowingTypes.collection c.args.types.now) (g.T.GrowingTypes.collection c.maybe_type.new.types) c.in_ok-err.ensures.grows c.args.ok c.requires.ok),
      (option_stands (g.T.GrowingTypes.collection c.maybe_type.new.types) c.in_ok-err.err c.in_ok-err.ensures.stands, tt),
    )

pub result_type-returns-in_err-result-clause-outcome : goal.result_type-returns-in_err-result-clause-outcome
result_type-returns-in_err-result-clause-outcome g t c = memory_outcome (IsValue (g.T.GrowingTypes.collection c.define.new.types)) (of_two s.result (Ok (stated_if (g.T.GrowingTypes.collection c.args.types.now) c.args.ok)) (maybe_value (scope_of (g.T.GrowingTypes.collection c.args.types.now) c.args.names.now) (boxed_payload c.args.err.now))) _ c.from_residual-in_err-result.ensures.1

pub result_type-returns-in_err-result-clause-grows : goal.result_type-returns-in_err-result-clause-grows
result_type-returns-in_err-result-clause-grows g t c = Grows-trans _ _ _ c.in_ok-err.ensures.grows c.in_err-result.ensures.grows

pub result_type-returns-clause-outcome : goal.result_type-returns-clause-outcome
result_type-returns-clause-outcome g t c =
    two_held (g.T.GrowingTypes.collection c.args.types.now) (g.T.GrowingTypes.collection c.maybe_type.new.types) (g.T.GrowingTypes.collection c.define.new.types) c.in_ok-err.ensures.grows c.in_ok-result.ensures.grows s.result c.in_ok-result.result (Ok (stated_if (g.T.GrowingTypes.collection c.args.types.now) c.args.ok)) (maybe_value (scope_of (g.T.GrowingTypes.collection c.args.types.now) c.args.names.now) (boxed_payload c.args.err.now)) c.args.ok c.in_ok-err.err
    (given_held (g.T.GrowingTypes.collection c.args.types.now) c.args.ok c.requires.ok) c.in_ok-err.ensures.outcome c.in_ok-result.ensures.node

pub result_type-returns-clause-grows : goal.result_type-returns-clause-grows
result_type-returns-clause-grows g t c = Grows-trans _ _ _ c.in_ok-err.ensures.grows c.in_ok-result.ensures.grows

pub maybe_type-returns-in_ok-found-in-Some-clause-stands : goal.maybe_type-returns-in_ok-found-in-Some-clause-stands
maybe_type-returns-in_ok-found-in-Some-clause-stands g t c =
    value_stands (g.T.GrowingTypes.collection c.value_type.new.types) (value (scope_of (g.T.GrowingTypes.collection c.args.types.now) c.args.names.now) (view_ty c.deref.result.now)) c.in_ok-found-in-Some.found c.in_ok-found-in-Some.ensures.outcome

pub member_types-loop-member-init : goal.member_types-loop-member-init
member_types-loop-member-init g t c = record {
  grows = Grows-refl (g.T.GrowingTypes.collection c.args.types.now) (subst IsAcyclic c.types.ensures c.see_acyclic.ensures);
  packages = same_refl _;
  names = c.requires;
  os = [];
  held = subst (λ (vs : List ValueType). AreValues (g.T.GrowingTypes.collection c.args.types.now) [] vs) (sym c.new-found.ensures) (record { stand = tt; same = refl });
  rest = ap (λ (ys : List «Type»). values (scope_of (g.T.GrowingTypes.collection c.args.types.now) c.args.names.now) [] (tree.tys (map view_ty ys))) (sym c.deref-member-items.ensures.value);
}

pub member_types-returns-in_err-ty-clause-grows : goal.member_types-returns-in_err-ty-clause-grows
member_types-returns-in_err-ty-clause-grows g t c = Grows-trans _ _ _ c.loop-member.invariant.grows c.in_err-ty.ensures.grows

pub member_types-returns-in_err-push-clause-outcome : goal.member_types-returns-in_err-push-clause-outcome
member_types-returns-in_err-push-clause-outcome g t c = memory_outcome (AreValues (g.T.GrowingTypes.collection c.value_type.new.types)) (values (scope_of (g.T.GrowingTypes.collection c.args.types.now) c.args.names.now) [] (tree.tys (map view_ty c.args.members.now.items))) _ c.from_residual-in_err-push.ensures.1

pub member_types-returns-in_err-push-clause-grows : goal.member_types-returns-in_err-push-clause-grows
member_types-returns-in_err-push-clause-grows g t c = Grows-trans _ _ _ c.loop-member.invariant.grows c.in_ok-ty.ensures.grows

pub value_type-returns-in-U8-clause-outcome : goal.value_type-returns-in-U8-clause-outcome
value_type-returns-in-U8-clause-outcome g t c = at_u8 (scope_of (g.T.GrowingTypes.collection c.args.types.now) c.args.names.now) (λ (q : Answer Stated). IsOutcome (IsValue (g.T.GrowingTypes.collection c.primitive.new.types)) q c.primitive.result) c.args.ty.now _ c.in-U8.is c.primitive.ensures.outcome

pub value_type-returns-in-S8-clause-outcome : goal.value_type-returns-in-S8-clause-outcome
value_type-returns-in-S8-clause-outcome g t c = at_s8 (scope_of (g.T.GrowingTypes.collection c.args.types.now) c.args.names.now) (λ (q : Answer Stated). IsOutcome (IsValue (g.T.GrowingTypes.collection c.primitive-in-S8.new.types)) q c.primitive-in-S8.result) c.args.ty.now _ c.in-S8.is c.primitive-in-S8.ensures.outcome

pub value_type-returns-in-U16-clause-outcome : goal.value_type-returns-in-U16-clause-outcome
value_type-returns-in-U16-clause-outcome g t c = at_u16 (scope_of (g.T.GrowingTypes.collection c.args.types.now) c.args.names.now) (λ (q : Answer Stated). IsOutcome (IsValue (g.T.GrowingTypes.collection c.primitive-in-U16.new.types)) q c.primitive-in-U16.result) c.args.ty.now _ c.in-U16.is c.primitive-in-U16.ensures.outcome

pub value_type-returns-in-S16-clause-outcome : goal.value_type-returns-in-S16-clause-outcome
value_type-returns-in-S16-clause-outcome g t c = at_s16 (scope_of (g.T.GrowingTypes.collection c.args.types.now) c.args.names.now) (λ (q : Answer Stated). IsOutcome (IsValue (g.T.GrowingTypes.collection c.primitive-in-S16.new.types)) q c.primitive-in-S16.result) c.args.ty.now _ c.in-S16.is c.primitive-in-S16.ensures.outcome

pub value_type-returns-in-U32-clause-outcome : goal.value_type-returns-in-U32-clause-outcome
value_type-returns-in-U32-clause-outcome g t c = at_u32 (scope_of (g.T.GrowingTypes.collection c.args.types.now) c.args.names.now) (λ (q : Answer Stated). IsOutcome (IsValue (g.T.GrowingTypes.collection c.primitive-in-U32.new.types)) q c.primitive-in-U32.result) c.args.ty.now _ c.in-U32.is c.primitive-in-U32.ensures.outcome

pub value_type-returns-in-S32-clause-outcome : goal.value_type-returns-in-S32-clause-outcome
value_type-returns-in-S32-clause-outcome g t c = at_s32 (scope_of (g.T.GrowingTypes.collection c.args.types.now) c.args.names.now) (λ (q : Answer Stated). IsOutcome (IsValue (g.T.GrowingTypes.collection c.primitive-in-S32.new.types)) q c.primitive-in-S32.result) c.args.ty.now _ c.in-S32.is c.primitive-in-S32.ensures.outcome

pub value_type-returns-in-U64-clause-outcome : goal.value_type-returns-in-U64-clause-outcome
value_type-returns-in-U64-clause-outcome g t c = at_u64 (scope_of (g.T.GrowingTypes.collection c.args.types.now) c.args.names.now) (λ (q : Answer Stated). IsOutcome (IsValue (g.T.GrowingTypes.collection c.primitive-in-U64.new.types)) q c.primitive-in-U64.result) c.args.ty.now _ c.in-U64.is c.primitive-in-U64.ensures.outcome

pub value_type-returns-in-S64-clause-outcome : goal.value_type-returns-in-S64-clause-outcome
value_type-returns-in-S64-clause-outcome g t c = at_s64 (scope_of (g.T.GrowingTypes.collection c.args.types.now) c.args.names.now) (λ (q : Answer Stated). IsOutcome (IsValue (g.T.GrowingTypes.collection c.primitive-in-S64.new.types)) q c.primitive-in-S64.result) c.args.ty.now _ c.in-S64.is c.primitive-in-S64.ensures.outcome

pub value_type-returns-in-F32-clause-outcome : goal.value_type-returns-in-F32-clause-outcome
value_type-returns-in-F32-clause-outcome g t c = at_f32 (scope_of (g.T.GrowingTypes.collection c.args.types.now) c.args.names.now) (λ (q : Answer Stated). IsOutcome (IsValue (g.T.GrowingTypes.collection c.primitive-in-F32.new.types)) q c.primitive-in-F32.result) c.args.ty.now _ c.in-F32.is c.primitive-in-F32.ensures.outcome

pub value_type-returns-in-F64-clause-outcome : goal.value_type-returns-in-F64-clause-outcome
value_type-returns-in-F64-clause-outcome g t c = at_f64 (scope_of (g.T.GrowingTypes.collection c.args.types.now) c.args.names.now) (λ (q : Answer Stated). IsOutcome (IsValue (g.T.GrowingTypes.collection c.primitive-in-F64.new.types)) q c.primitive-in-F64.result) c.args.ty.now _ c.in-F64.is c.primitive-in-F64.ensures.outcome

pub value_type-returns-in-Char-clause-outcome : goal.value_type-returns-in-Char-clause-outcome
value_type-returns-in-Char-clause-outcome g t c = at_char (scope_of (g.T.GrowingTypes.collection c.args.types.now) c.args.names.now) (λ (q : Answer Stated). IsOutcome (IsValue (g.T.GrowingTypes.collection c.primitive-in-Char.new.types)) q c.primitive-in-Char.result) c.args.ty.now _ c.in-Char.is c.primitive-in-Char.ensures.outcome

pub value_type-returns-in-Bool-clause-outcome : goal.value_type-returns-in-Bool-clause-outcome
value_type-returns-in-Bool-clause-outcome g t c = at_bool (scope_of (g.T.GrowingTypes.collection c.args.types.now) c.args.names.now) (λ (q : Answer Stated). IsOutcome (IsValue (g.T.GrowingTypes.collection c.primitive-in-Bool.new.types)) q c.primitive-in-Bool.result) c.args.ty.now _ c.in-Bool.is c.primitive-in-Bool.ensures.outcome

pub value_type-returns-in-String-clause-outcome : goal.value_type-returns-in-String-clause-outcome
value_type-returns-in-String-clause-outcome g t c = at_string (scope_of (g.T.GrowingTypes.collection c.args.types.now) c.args.names.now) (λ (q : Answer Stated). IsOutcome (IsValue (g.T.GrowingTypes.collection c.primitive-in-String.new.types)) q c.primitive-in-String.result) c.args.ty.now _ c.in-String.is c.primitive-in-String.ensures.outcome

pub value_type-returns-in-ErrorContext-clause-outcome : goal.value_type-returns-in-ErrorContext-clause-outcome
value_type-returns-in-ErrorContext-clause-outcome g t c = at_error_context (scope_of (g.T.GrowingTypes.collection c.args.types.now) c.args.names.now) (λ (q : Answer Stated). IsOutcome (IsValue (g.T.GrowingTypes.collection c.primitive-in-ErrorContext.new.types)) q c.primitive-in-ErrorContext.result) c.args.ty.now _ c.in-ErrorContext.is c.primitive-in-ErrorContext.ensures.outcome

pub value_type-returns-in-Tuple-clause-outcome : goal.value_type-returns-in-Tuple-clause-outcome
value_type-returns-in-Tuple-clause-outcome g t c = at_tuple (scope_of (g.T.GrowingTypes.collection c.args.types.now) c.args.names.now) (λ (q : Answer Stated). IsOutcome (IsValue (g.T.GrowingTypes.collection c.tuple_type.new.types)) q c.tuple_type.result) c.args.ty.now _ _ c.in-Tuple.is c.tuple_type.ensures.outcome

pub value_type-returns-in-List-clause-outcome : goal.value_type-returns-in-List-clause-outcome
value_type-returns-in-List-clause-outcome g t c = at_list (scope_of (g.T.GrowingTypes.collection c.args.types.now) c.args.names.now) (λ (q : Answer Stated). IsOutcome (IsValue (g.T.GrowingTypes.collection c.list_type.new.types)) q c.list_type.result) c.args.ty.now _ _ c.in-List.is (subst (λ (y : «Type»). IsOutcome (IsValue (g.T.GrowingTypes.collection c.list_type.new.types)) (of_one s.list (value (scope_of (g.T.GrowingTypes.collection c.args.types.now) c.args.names.now) (view_ty y))) c.list_type.result) c.deref.ensures c.list_type.ensures.outcome)

pub value_type-returns-in-Option-clause-outcome : goal.value_type-returns-in-Option-clause-outcome
value_type-returns-in-Option-clause-outcome g t c = at_option (scope_of (g.T.GrowingTypes.collection c.args.types.now) c.args.names.now) (λ (q : Answer Stated). IsOutcome (IsValue (g.T.GrowingTypes.collection c.option_type.new.types)) q c.option_type.result) c.args.ty.now _ _ c.in-Option.is (subst (λ (y : «Type»). IsOutcome (IsValue (g.T.GrowingTypes.collection c.option_type.new.types)) (of_one s.option (value (scope_of (g.T.GrowingTypes.collection c.args.types.now) c.args.names.now) (view_ty y))) c.option_type.result) c.deref-in-Option.ensures c.option_type.ensures.outcome)

pub value_type-returns-in_err-ok-in-Result-clause-outcome : goal.value_type-returns-in_err-ok-in-Result-clause-outcome
value_type-returns-in_err-ok-in-Result-clause-outcome g t c =
    at_result (scope_of (g.T.GrowingTypes.collection c.args.types.now) c.args.names.now) (λ (q : Answer Stated). IsOutcome (IsValue (g.T.GrowingTypes.collection c.maybe_type.new.types)) q c.from_residual.result) c.args.ty.now _ _ _ c.in-Result.is
    (refused_outcome (IsValue (g.T.GrowingTypes.collection c.maybe_type.new.types)) (of_two s.result (maybe_value (scope_of (g.T.GrowingTypes.collection c.args.types.now) c.args.names.now) (boxed_payload c.in-Result.ok)) (maybe_value (scope_of (g.T.GrowingTypes.collection c.args.types.now) c.args.names.now) (boxed_payload c.in-Result.err))) _ _ c.from_residual.ensures.1 (first_refused s.result (maybe_value (scope_of (g.T.GrowingTypes.collection c.args.types.now) c.args.names.now) (boxed_payload c.in-Result.ok)) (maybe_value (scope_of (g.T.GrowingTypes.collection c.args.types.now) c.args.names.now) (boxed_payload c.in-Result.err)) _ c.in_err-ok-in-Result.ensures.outcome))

pub value_type-returns-in_ok-ok-in-Result-clause-outcome : goal.value_type-returns-in_ok-ok-in-Result-clause-outcome
value_type-returns-in_ok-ok-in-Result-clause-outcome g t c =
    at_result (scope_of (g.T.GrowingTypes.collection c.args.types.now) c.args.names.now) (λ (q : Answer Stated). IsOutcome (IsValue (g.T.GrowingTypes.collection c.result_type.new.types)) q c.result_type.result) c.args.ty.now _ _ _ c.in-Result.is
    (joined (g.T.GrowingTypes.collection c.maybe_type.new.types) (g.T.GrowingTypes.collection c.result_type.new.types) (scope_of (g.T.GrowingTypes.collection c.args.types.now) c.args.names.now) (scope_of (g.T.GrowingTypes.collection c.maybe_type.new.types) c.args.names.now) (boxed_payload c.in-Result.ok) (boxed_payload c.in-Result.err) c.in_ok-ok-in-Result.ok c.result_type.result
    (scope-kept (g.T.GrowingTypes.collection c.args.types.now) (g.T.GrowingTypes.collection c.maybe_type.new.types) c.in_ok-ok-in-Result.ensures.grows c.args.names.now c.requires) c.in_ok-ok-in-Result.ensures.outcome c.result_type.ensures.outcome)

pub value_type-returns-in_ok-ok-in-Result-clause-grows : goal.value_type-returns-in_ok-ok-in-Result-clause-grows
value_type-returns-in_ok-ok-in-Result-clause-grows g t c = Grows-trans _ _ _ c.in_ok-ok-in-Result.ensures.grows c.result_type.ensures.grows

pub value_type-returns-in-Stream-clause-outcome : goal.value_type-returns-in-Stream-clause-outcome
value_type-returns-in-Stream-clause-outcome g t c = at_stream (scope_of (g.T.GrowingTypes.collection c.args.types.now) c.args.names.now) (λ (q : Answer Stated). IsOutcome (IsValue (g.T.GrowingTypes.collection c.stream_type.new.types)) q c.stream_type.result) c.args.ty.now _ _ c.in-Stream.is c.stream_type.ensures.outcome

pub value_type-returns-in-Future-clause-outcome : goal.value_type-returns-in-Future-clause-outcome
value_type-returns-in-Future-clause-outcome g t c = at_future (scope_of (g.T.GrowingTypes.collection c.args.types.now) c.args.names.now) (λ (q : Answer Stated). IsOutcome (IsValue (g.T.GrowingTypes.collection c.future_type.new.types)) q c.future_type.result) c.args.ty.now _ _ c.in-Future.is c.future_type.ensures.outcome

pub value_type-returns-in-Borrow-clause-outcome : goal.value_type-returns-in-Borrow-clause-outcome
value_type-returns-in-Borrow-clause-outcome g t c = at_borrow (scope_of (g.T.GrowingTypes.collection c.args.types.now) c.args.names.now) (λ (q : Answer Stated). IsOutcome (IsValue (g.T.GrowingTypes.collection c.borrow_at.new.types)) q c.borrow_at.result) c.args.ty.now _ _ c.in-Borrow.is c.borrow_at.ensures.outcome

pub value_type-returns-in-Ident-clause-outcome : goal.value_type-returns-in-Ident-clause-outcome
value_type-returns-in-Ident-clause-outcome g t c = at_ident (scope_of (g.T.GrowingTypes.collection c.args.types.now) c.args.names.now) (λ (q : Answer Stated). IsOutcome (IsValue (g.T.GrowingTypes.collection c.value_at.new.types)) q c.value_at.result) c.args.ty.now _ c.in-Ident.is c.value_at.ensures.outcome

pub member_types-returns-in_err-ty-clause-outcome : goal.member_types-returns-in_err-ty-clause-outcome
member_types-returns-in_err-ty-clause-outcome g t c =
    refused_outcome (AreValues (g.T.GrowingTypes.collection c.value_type.new.types)) (values (scope_of (g.T.GrowingTypes.collection c.args.types.now) c.args.names.now) [] (tree.tys (map view_ty c.args.members.now.items))) _ _ c.from_residual.ensures.1
    (members_refused_whole (scope_of (g.T.GrowingTypes.collection c.args.types.now) c.args.names.now) view_ty c.deref-member-items.result.now c.loop-member.member-index (values (scope_of (g.T.GrowingTypes.collection c.args.types.now) c.args.names.now) [] (tree.tys (map view_ty c.args.members.now.items))) c.loop-member.invariant.os (scope_of (g.T.GrowingTypes.collection c.loop-member.types) c.args.names.now) c.member-item.result _ c.loop-member.invariant.rest c.loop-member-test.true (scope-kept (g.T.GrowingTypes.collection c.args.types.now) (g.T.GrowingTypes.collection c.loop-member.types) c.loop-member.invariant.grows c.args.names.now c.requires) c.member-item.is c.in_err-ty.ensures.outcome)

pub member_types-loop-member-preserved : goal.member_types-loop-member-preserved
member_types-loop-member-preserved g t c =
    let held : IsHeld (IsValue (g.T.GrowingTypes.collection c.value_type.new.types)) (value (scope_of (g.T.GrowingTypes.collection c.args.types.now) c.args.names.now) (view_ty (get_or c.deref-member-items.result.now c.loop-member.member-index c.member-item.result))) c.in_ok-ty.ty =
    subst (λ (y : «Type»). IsHeld (IsValue (g.T.GrowingTypes.collection c.value_type.new.types)) (value (scope_of (g.T.GrowingTypes.collection c.args.types.now) c.args.names.now) (view_ty y)) c.in_ok-ty.ty) c.member-item.is
    (subst (λ (ns : Scope). IsHeld (IsValue (g.T.GrowingTypes.collection c.value_type.new.types)) (value ns (view_ty c.member-item.result)) c.in_ok-ty.ty) (scope-kept (g.T.GrowingTypes.collection c.args.types.now) (g.T.GrowingTypes.collection c.loop-member.types) c.loop-member.invariant.grows c.args.names.now c.requires) c.in_ok-ty.ensures.outcome) in
    let n = members_next (scope_of (g.T.GrowingTypes.collection c.args.types.now) c.args.names.now) view_ty c.deref-member-items.result.now c.loop-member.member-index (g.T.GrowingTypes.collection c.value_type.new.types) c.loop-member.invariant.os c.member-item.result c.in_ok-ty.ty c.loop-member-test.true held in
    record {
      grows = Grows-trans _ _ _ c.loop-member.invariant.grows c.in_ok-ty.ensures.grows;
      packages = same_trans _ _ _ c.loop-member.invariant.packages c.in_ok-ty.ensures.packages;
      names = NamesStand-kept (g.T.GrowingTypes.collection c.loop-member.types) (g.T.GrowingTypes.collection c.value_type.new.types) c.in_ok-ty.ensures.grows c.args.names.now c.loop-member.invariant.names;
      os = c.loop-member.invariant.os ++ Some n.0 ∷ [];
      held = subst (λ (vs : List ValueType). AreValues (g.T.GrowingTypes.collection c.value_type.new.types) (c.loop-member.invariant.os ++ Some n.0 ∷ []) vs) (sym c.in_ok-push.ensures.ok)
          (AreValues-more (g.T.GrowingTypes.collection c.value_type.new.types) c.loop-member.invariant.os c.loop-member.found n.0 c.in_ok-ty.ty (AreValues-kept (g.T.GrowingTypes.collection c.loop-member.types) (g.T.GrowingTypes.collection c.value_type.new.types) c.in_ok-ty.ensures.grows c.loop-member.invariant.os c.loop-member.found c.loop-member.invariant.held) n.1);
      rest = c.loop-member.invariant.rest ∙ n.2;
    }

pub member_types-returns-clause-outcome : goal.member_types-returns-clause-outcome
member_types-returns-clause-outcome g t c =
    let all : (values (scope_of (g.T.GrowingTypes.collection c.args.types.now) c.args.names.now) [] (tree.tys (map view_ty c.args.members.now.items))) ≡ Ok c.loop-member.invariant.os = c.loop-member.invariant.rest ∙ members_end (scope_of (g.T.GrowingTypes.collection c.args.types.now) c.args.names.now) view_ty c.deref-member-items.result.now c.loop-member.member-index c.loop-member.invariant.os (omega (arith, c.loop-member-test.false)) in
    subst (λ (q : Answer (List (Option Stated))). IsHeld (AreValues (g.T.GrowingTypes.collection c.loop-member.types)) q c.loop-member.found) (sym all) c.loop-member.invariant.held

pub maybe_type-returns-in_err-found-in-Some-clause-names : goal.maybe_type-returns-in_err-found-in-Some-clause-names
maybe_type-returns-in_err-found-in-Some-clause-names g t c = NamesStand-kept (g.T.GrowingTypes.collection c.args.types.now) (g.T.GrowingTypes.collection c.value_type.new.types) c.in_err-found-in-Some.ensures.grows c.args.names.now c.requires

pub maybe_type-returns-in_ok-found-in-Some-clause-names : goal.maybe_type-returns-in_ok-found-in-Some-clause-names
maybe_type-returns-in_ok-found-in-Some-clause-names g t c = NamesStand-kept (g.T.GrowingTypes.collection c.args.types.now) (g.T.GrowingTypes.collection c.value_type.new.types) c.in_ok-found-in-Some.ensures.grows c.args.names.now c.requires

pub maybe_type-returns-in-None-clause-names : goal.maybe_type-returns-in-None-clause-names
maybe_type-returns-in-None-clause-names g t c = c.requires

pub list_type-returns-in_err-list-clause-packages : goal.list_type-returns-in_err-list-clause-packages
list_type-returns-in_err-list-clause-packages g t c = same_trans _ _ _ c.in_ok-element.ensures.packages c.in_err-list.ensures.packages

pub list_type-returns-clause-packages : goal.list_type-returns-clause-packages
list_type-returns-clause-packages g t c = same_trans _ _ _ c.in_ok-element.ensures.packages c.in_ok-list.ensures.packages

pub option_type-returns-in_err-option-clause-packages : goal.option_type-returns-in_err-option-clause-packages
option_type-returns-in_err-option-clause-packages g t c = same_trans _ _ _ c.in_ok-payload.ensures.packages c.in_err-option.ensures.packages

pub option_type-returns-clause-packages : goal.option_type-returns-clause-packages
option_type-returns-clause-packages g t c = same_trans _ _ _ c.in_ok-payload.ensures.packages c.in_ok-option.ensures.packages

pub stream_type-returns-in_err-stream-clause-packages : goal.stream_type-returns-in_err-stream-clause-packages
stream_type-returns-in_err-stream-clause-packages g t c = same_trans _ _ _ c.in_ok-payload.ensures.packages c.in_err-stream.ensures.packages

pub stream_type-returns-clause-packages : goal.stream_type-returns-clause-packages
stream_type-returns-clause-packages g t c = same_trans _ _ _ c.in_ok-payload.ensures.packages c.in_ok-stream.ensures.packages

pub future_type-returns-in_err-future-clause-packages : goal.future_type-returns-in_err-future-clause-packages
future_type-returns-in_err-future-clause-packages g t c = same_trans _ _ _ c.in_ok-payload.ensures.packages c.in_err-future.ensures.packages

pub future_type-returns-clause-packages : goal.future_type-returns-clause-packages
future_type-returns-clause-packages g t c = same_trans _ _ _ c.in_ok-payload.ensures.packages c.in_ok-future.ensures.packages

pub tuple_type-returns-in_err-tuple-clause-packages : goal.tuple_type-returns-in_err-tuple-clause-packages
tuple_type-returns-in_err-tuple-clause-packages g t c = same_trans _ _ _ c.in_ok-found.ensures.packages c.in_err-tuple.ensures.packages

pub tuple_type-returns-clause-packages : goal.tuple_type-returns-clause-packages
tuple_type-returns-clause-packages g t c = same_trans _ _ _ c.in_ok-found.ensures.packages c.in_ok-tuple.ensures.packages

pub result_type-returns-in_err-result-clause-packages : goal.result_type-returns-in_err-result-clause-packages
result_type-returns-in_err-result-clause-packages g t c = same_trans _ _ _ c.in_ok-err.ensures.packages c.in_err-result.ensures.packages

pub result_type-returns-clause-packages : goal.result_type-returns-clause-packages
result_type-returns-clause-packages g t c = same_trans _ _ _ c.in_ok-err.ensures.packages c.in_ok-result.ensures.packages

pub member_types-returns-in_err-ty-clause-packages : goal.member_types-returns-in_err-ty-clause-packages
member_types-returns-in_err-ty-clause-packages g t c = same_trans _ _ _ c.loop-member.invariant.packages c.in_err-ty.ensures.packages

pub member_types-returns-in_err-push-clause-packages : goal.member_types-returns-in_err-push-clause-packages
member_types-returns-in_err-push-clause-packages g t c = same_trans _ _ _ c.loop-member.invariant.packages c.in_ok-ty.ensures.packages

pub value_type-returns-in_ok-ok-in-Result-clause-packages : goal.value_type-returns-in_ok-ok-in-Result-clause-packages
value_type-returns-in_ok-ok-in-Result-clause-packages g t c = same_trans _ _ _ c.in_ok-ok-in-Result.ensures.packages c.result_type.ensures.packages
