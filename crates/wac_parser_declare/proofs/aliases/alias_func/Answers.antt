use Rattle.std.proofs.Common.{Ok}
use Rattle.wac_types_base.specs.Stated.{Stated, as_type}
use Rattle.wac_parser_tree.specs.Views.{view_func_type}
use Rattle.wac_parser_refusals.specs.Causes.{◌>>=◌}
use Rattle.wac_parser_refusals.proofs.Outcomes.{refused_outcome, then_refused}
use Rattle.wac_parser_declare.specs.Declarations.{free}
use Rattle.wac_parser_declare.specs.Holding.{IsType, scope_of}
use Rattle.wac_parser_declare.proofs.Aliasing.{func_typed}
use Rattle.wac_parser_declare.proofs.Fresh.{func_new}
use Rattle.wac_parser_declare.proofs.aliases.alias_func.Goals as goal

pub returns-in_err-func-clause-outcome : goal.returns-in_err-func-clause-outcome
returns-in_err-func-clause-outcome g c =
    let q = free (scope_of (g.T.GrowingTypes.collection c.args.types.now) c.args.names.now) (view_func_type c.args.ty.now) in
    refused_outcome (IsType (g.T.GrowingTypes.collection c.func_type.new.types)) (q >>= λ (x : Stated). Ok (as_type x)) _ _ c.from_residual.ensures.1
    (then_refused (λ (x : Stated). Ok (as_type x)) q _ c.in_err-func.ensures.outcome)

pub returns-clause-outcome : goal.returns-clause-outcome
returns-clause-outcome g c =
    func_typed (g.T.GrowingTypes.collection c.func_type.new.types) c.in_ok-func.ensures.grows.acyclic
    (free (scope_of (g.T.GrowingTypes.collection c.args.types.now) c.args.names.now) (view_func_type c.args.ty.now)) c.in_ok-func.func c.in_ok-func.ensures.outcome

pub returns-clause-fresh : goal.returns-clause-fresh
returns-clause-fresh g c = func_new (g.T.GrowingTypes.collection c.args.types.now) c.in_ok-func.func c.in_ok-func.ensures.fresh
