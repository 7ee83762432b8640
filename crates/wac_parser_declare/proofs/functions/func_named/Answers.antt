use Rattle.wac_types_base.specs.Stated.{Stated, kind_of}
use Rattle.wac_parser_tree.specs.Views.{view_ident}
use Rattle.wac_parser_declare.specs.Scope.{named}
use Rattle.wac_parser_declare.specs.Declarations.{func_by, func_named as stated_named}
use Rattle.wac_parser_declare.specs.Holding.{IsFunc, scope_of}
use Rattle.wac_parser_refusals.proofs.Outcomes.{refused_outcome, then_refused}
use Rattle.wac_parser_declare.proofs.Values.{binding_stands, by_name, named_refused}
use Rattle.wac_parser_declare.proofs.functions.func_named.Goals as goal

pub func_of-requires : goal.func_of-requires
func_of-requires c = binding_stands c.args.types.now c.args.names.now (view_ident c.args.id.now) c.in_ok-binding.binding c.requires c.in_ok-binding.ensures

pub returns-in_err-binding-clause-outcome : goal.returns-in_err-binding-clause-outcome
returns-in_err-binding-clause-outcome c =
    refused_outcome (IsFunc c.args.types.now) (stated_named (scope_of c.args.types.now c.args.names.now) (view_ident c.args.id.now)) _ _ c.from_residual.ensures.1
    (then_refused (λ (x : Stated). func_by (kind_of x) (view_ident c.args.id.now) x) (named (scope_of c.args.types.now c.args.names.now) (view_ident c.args.id.now)) _
    (named_refused c.args.types.now c.args.names.now (view_ident c.args.id.now) _ c.in_err-binding.ensures))

pub returns-clause-outcome : goal.returns-clause-outcome
returns-clause-outcome c =
    by_name (IsFunc c.args.types.now) (λ (x : Stated). func_by (kind_of x) (view_ident c.args.id.now) x) c.args.types.now c.args.names.now (view_ident c.args.id.now) c.in_ok-binding.binding c.func_of.result c.in_ok-binding.ensures c.func_of.ensures.outcome
