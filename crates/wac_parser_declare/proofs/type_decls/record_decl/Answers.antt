use Rattle.std.proofs.Common.{List, [], map, Ok}
use Rattle.wac_types_base.specs.Entries.{Name}
use Rattle.wac_types_base.specs.Stated.{Stated, as_type}
use Rattle.wac_parser_tree.specs.Views.{view_field, view_record_decl}
use Rattle.wac_parser_refusals.specs.Causes.{each}
use Rattle.wac_parser_refusals.proofs.Outcomes.{memory_outcome, refused_outcome, then_refused}
use Rattle.wac_parser_declare.specs.Declarations.{field_of, record_of, record_decl as stated}
use Rattle.wac_parser_declare.specs.Holding.{IsType, scope_of}
use Rattle.wac_parser_declare.proofs.Named.{record_held}
use Rattle.wac_parser_declare.proofs.Fresh.{value_newer}
use Rattle.wac_parser_declare.proofs.type_decls.record_decl.Goals as goal

pub returns-in_err-fields-clause-outcome : goal.returns-in_err-fields-clause-outcome
returns-in_err-fields-clause-outcome g c =
    let ns = scope_of (g.T.GrowingTypes.collection c.args.types.now) c.args.names.now in
    let d = c.args.decl.now in
    refused_outcome (IsType (g.T.GrowingTypes.collection c.fields.new.types)) (stated ns (view_record_decl d)) _ _ c.from_residual.ensures.1
    (then_refused (λ (xs : List (Name × Stated)). Ok (as_type (record_of xs))) (each (field_of d.id.string.now ns) [] (map view_field d.fields.items)) _ c.in_err-fields.ensures.outcome)

pub returns-in_err-ty-clause-outcome : goal.returns-in_err-ty-clause-outcome
returns-in_err-ty-clause-outcome g c =
    memory_outcome (IsType (g.T.GrowingTypes.collection c.define.new.types)) (stated (scope_of (g.T.GrowingTypes.collection c.args.types.now) c.args.names.now) (view_record_decl c.args.decl.now)) _ c.from_residual-in_err-ty.ensures.1

pub returns-clause-outcome : goal.returns-clause-outcome
returns-clause-outcome g c =
    let ns = scope_of (g.T.GrowingTypes.collection c.args.types.now) c.args.names.now in
    let d = c.args.decl.now in
    record_held (g.T.GrowingTypes.collection c.fields.new.types) (g.T.GrowingTypes.collection c.define.new.types) c.in_ok-ty.ensures.grows c.in_ok-ty.ty c.in_ok-fields.fields
    (each (field_of d.id.string.now ns) [] (map view_field d.fields.items)) c.in_ok-fields.ensures.outcome c.in_ok-ty.ensures.node

pub returns-clause-fresh : goal.returns-clause-fresh
returns-clause-fresh g c = value_newer (g.T.GrowingTypes.collection c.args.types.now) (g.T.GrowingTypes.collection c.fields.new.types) c.in_ok-ty.ty c.in_ok-fields.ensures.grows c.in_ok-ty.ensures.fresh
