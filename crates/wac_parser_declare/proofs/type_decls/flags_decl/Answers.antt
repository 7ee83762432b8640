use Rattle.std.proofs.Common.{List, [], map, Ok}
use Rattle.wac_types_base.specs.Collection as s
use Rattle.wac_types_base.specs.Entries.{Name}
use Rattle.wac_types_base.specs.Stated.{as_type, leaf}
use Rattle.wac_parser_tree.specs.Views.{view_flag, view_flags_decl}
use Rattle.wac_parser_refusals.specs.Causes.{each}
use Rattle.wac_parser_refusals.proofs.Outcomes.{memory_outcome, refused_outcome, then_refused}
use Rattle.wac_parser_declare.specs.Declarations.{flag_of, flags_decl as stated}
use Rattle.wac_parser_declare.specs.Holding.{IsType}
use Rattle.wac_parser_declare.proofs.Named.{leaf_held}
use Rattle.wac_parser_declare.proofs.Fresh.{value_new}
use Rattle.wac_parser_declare.proofs.type_decls.flags_decl.Goals as goal

pub returns-in_err-flags-clause-outcome : goal.returns-in_err-flags-clause-outcome
returns-in_err-flags-clause-outcome g c =
    let d = c.args.decl.now in
    refused_outcome (IsType (g.T.GrowingTypes.collection c.args.types.now)) (stated (view_flags_decl d)) _ _ c.from_residual.ensures.1
    (then_refused (λ (xs : List Name). Ok (as_type (leaf (s.flags xs)))) (each (flag_of d.id.string.now) [] (map view_flag d.flags.items)) _ c.in_err-flags.ensures)

pub returns-in_err-ty-clause-outcome : goal.returns-in_err-ty-clause-outcome
returns-in_err-ty-clause-outcome g c =
    memory_outcome (IsType (g.T.GrowingTypes.collection c.define.new.types)) (stated (view_flags_decl c.args.decl.now)) _ c.from_residual-in_err-ty.ensures.1

pub returns-clause-outcome : goal.returns-clause-outcome
returns-clause-outcome g c =
    let d = c.args.decl.now in
    leaf_held (g.T.GrowingTypes.collection c.define.new.types) c.in_ok-ty.ensures.grows.acyclic s.flags c.in_ok-ty.ty c.in_ok-flags.flags
    (each (flag_of d.id.string.now) [] (map view_flag d.flags.items)) c.in_ok-flags.ensures c.in_ok-ty.ensures.node

pub returns-clause-fresh : goal.returns-clause-fresh
returns-clause-fresh g c = value_new (g.T.GrowingTypes.collection c.args.types.now) c.in_ok-ty.ty c.in_ok-ty.ensures.fresh
