use Rattle.std.specs.Prelude.{List, ⊤}
use Rattle.wac_types_base.specs.Entries.{Name, with_values}
use Rattle.wac_types_base.specs.Stated.{Stated}
use Rattle.wac_parser_tree.specs.Views.{view_ident, view_named_type, view_ty}
use Rattle.wac_parser_refusals.specs.Causes.{DuplicateParameter}
use Rattle.wac_parser_refusals.proofs.Outcomes.{memory_outcome, refused_outcome}
use Rattle.wac_parser_declare.specs.ValueTypes.{value}
use Rattle.wac_parser_declare.specs.Declarations.{param}
use Rattle.wac_parser_declare.specs.Holding.{AreNamedValues, IsValue, scope_of, stated_value}
use Rattle.wac_parser_declare.proofs.Members.{member_refused, member_taken, new_entry, old_entry, value_added}
use Rattle.wac_parser_declare.proofs.functions.add_param.Goals as goal

pub returns-in_err-ty-clause-outcome : goal.returns-in_err-ty-clause-outcome
returns-in_err-ty-clause-outcome g c =
    let old = g.T.GrowingTypes.collection c.args.types.now in
    let new = g.T.GrowingTypes.collection c.value_type.new.types in
    let id = view_ident c.args.param.now.id in
    refused_outcome (λ (xs : List (Name × Stated)) (u : ⊤). AreNamedValues new xs c.args.found.now)
    (param c.args.kind (scope_of old c.args.names.now) (with_values (stated_value old) c.args.found.now) (view_named_type c.args.param.now)) _ _ c.from_residual.ensures.1
    (member_refused (stated_value old) c.args.found.now id (DuplicateParameter id.string c.args.kind) (value (scope_of old c.args.names.now) (view_ty c.args.param.now.ty)) _ c.in_err-ty.ensures.outcome)

pub returns-in_err-add_new-clause-outcome : goal.returns-in_err-add_new-clause-outcome
returns-in_err-add_new-clause-outcome g c =
    let old = g.T.GrowingTypes.collection c.args.types.now in
    let new = g.T.GrowingTypes.collection c.value_type.new.types in
    memory_outcome (λ (xs : List (Name × Stated)) (u : ⊤). AreNamedValues new xs c.add_new.new.entries)
    (param c.args.kind (scope_of old c.args.names.now) (with_values (stated_value old) c.args.found.now) (view_named_type c.args.param.now)) _ c.from_residual-in_err-add_new.ensures.1

pub returns-then-branch-clause-outcome : goal.returns-then-branch-clause-outcome
returns-then-branch-clause-outcome g c =
    let old = g.T.GrowingTypes.collection c.args.types.now in
    let new = g.T.GrowingTypes.collection c.value_type.new.types in
    let id = view_ident c.args.param.now.id in
    let n = new_entry c.args.found.now c.add_new.new.entries id.string c.in_ok-ty.ty c.in_ok-add_new.field-0 c.if-branch.true c.in_ok-add_new.ensures.added in
    value_added old new c.in_ok-ty.ensures.grows c.args.found.now c.add_new.new.entries id (DuplicateParameter id.string c.args.kind) (value (scope_of old c.args.names.now) (view_ty c.args.param.now.ty))
    c.in_ok-ty.ty tt c.requires.found c.in_ok-ty.ensures.outcome n.0 n.1

pub returns-else-branch-clause-outcome : goal.returns-else-branch-clause-outcome
returns-else-branch-clause-outcome g c =
    let old = g.T.GrowingTypes.collection c.args.types.now in
    let new = g.T.GrowingTypes.collection c.value_type.new.types in
    let id = view_ident c.args.param.now.id in
    let n = old_entry c.args.found.now c.add_new.new.entries id.string c.in_ok-ty.ty c.in_ok-add_new.field-0 c.if-branch.false c.in_ok-add_new.ensures.added in
    member_taken (stated_value old) c.args.found.now id (DuplicateParameter id.string c.args.kind) (value (scope_of old c.args.names.now) (view_ty c.args.param.now.ty)) (IsValue new) c.in_ok-ty.ty _
    c.in_ok-ty.ensures.outcome n.0 c.duplicate_parameter.ensures
