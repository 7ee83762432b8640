use Rattle.wac_types_base.specs.Stated.{Stated, kind_of}
use Rattle.wac_parser_tree.specs.Views.{view_ident}
use Rattle.wac_parser_declare.specs.Scope.{named}
use Rattle.wac_parser_declare.specs.ValueTypes.{borrow_by, borrow_named as stated_named}
use Rattle.wac_parser_declare.specs.Holding.{IsValue, scope_of}
use Rattle.wac_parser_refusals.proofs.Outcomes.{refused_outcome, then_refused}
use Rattle.wac_parser_declare.proofs.Values.{binding_stands, by_name, named_refused}
use Rattle.wac_parser_declare.proofs.value_types.borrow_named.Goals as goal

pub borrow_of-requires : goal.borrow_of-requires
borrow_of-requires c = binding_stands c.args.types.now c.args.names.now (view_ident c.args.id.now) c.in_ok-binding.binding c.requires c.in_ok-binding.ensures

pub returns-in_err-binding : goal.returns-in_err-binding
returns-in_err-binding c =
    refused_outcome (IsValue c.args.types.now) (stated_named (scope_of c.args.types.now c.args.names.now) (view_ident c.args.id.now)) _ _ c.from_residual.ensures.1
    (then_refused (λ (x : Stated). borrow_by (kind_of x) (view_ident c.args.id.now) x) (named (scope_of c.args.types.now c.args.names.now) (view_ident c.args.id.now)) _
    (named_refused c.args.types.now c.args.names.now (view_ident c.args.id.now) _ c.in_err-binding.ensures))

pub returns : goal.returns
returns c =
    by_name (IsValue c.args.types.now) (λ (x : Stated). borrow_by (kind_of x) (view_ident c.args.id.now) x) c.args.types.now c.args.names.now (view_ident c.args.id.now) c.in_ok-binding.binding c.borrow_of.result c.in_ok-binding.ensures c.borrow_of.ensures
