use Rattle.std.proofs.Common.{List, [], map, Ok}
use Rattle.wac_types_base.specs.Collection as s
use Rattle.wac_types_base.specs.Entries.{Name}
use Rattle.wac_types_base.specs.Stated.{as_type, leaf}
use Rattle.wac_parser_tree.specs.Views.{view_enum_case, view_enum_decl}
use Rattle.wac_parser_refusals.specs.Causes.{each}
use Rattle.wac_parser_refusals.proofs.Outcomes.{memory_outcome, refused_outcome, then_refused}
use Rattle.wac_parser_declare.specs.Declarations.{enum_case_of, enum_decl as stated}
use Rattle.wac_parser_declare.specs.Holding.{IsType}
use Rattle.wac_parser_declare.proofs.Named.{leaf_held}
use Rattle.wac_parser_declare.proofs.Fresh.{value_new}
use Rattle.wac_parser_declare.proofs.type_decls.enum_decl.Goals as goal

pub returns-in_err-cases-clause-outcome : goal.returns-in_err-cases-clause-outcome
returns-in_err-cases-clause-outcome g c =
    let d = c.args.decl.now in
    refused_outcome (IsType (g.T.GrowingTypes.collection c.args.types.now)) (stated (view_enum_decl d)) _ _ c.from_residual.ensures.1
    (then_refused (λ (xs : List Name). Ok (as_type (leaf (s.enum xs)))) (each (enum_case_of d.id.string.now) [] (map view_enum_case d.cases.items)) _ c.in_err-cases.ensures)

pub returns-in_err-ty-clause-outcome : goal.returns-in_err-ty-clause-outcome
returns-in_err-ty-clause-outcome g c =
    memory_outcome (IsType (g.T.GrowingTypes.collection c.define.new.types)) (stated (view_enum_decl c.args.decl.now)) _ c.from_residual-in_err-ty.ensures.1

pub returns-clause-outcome : goal.returns-clause-outcome
returns-clause-outcome g c =
    let d = c.args.decl.now in
    leaf_held (g.T.GrowingTypes.collection c.define.new.types) c.in_ok-ty.ensures.grows.acyclic s.enum c.in_ok-ty.ty c.in_ok-cases.cases
    (each (enum_case_of d.id.string.now) [] (map view_enum_case d.cases.items)) c.in_ok-cases.ensures c.in_ok-ty.ensures.node

pub returns-clause-fresh : goal.returns-clause-fresh
returns-clause-fresh g c = value_new (g.T.GrowingTypes.collection c.args.types.now) c.in_ok-ty.ty c.in_ok-ty.ensures.fresh
