use Rattle.std.proofs.Common.{subst}
use Rattle.wac_types_base.specs.declared.item.ItemKind.{ItemKind}
use Rattle.wac_parser_refusals.specs.Outcomes.{IsHeld, IsRefusal}
use Rattle.wac_parser_refusals.proofs.Outcomes.{refused_outcome}
use Rattle.wac_parser_declare.specs.Holding.{Holds}
use Rattle.wac_parser_resolve.proofs.Asking.{held_map}
use Rattle.wac_parser_resolve.proofs.Stating.{said_grows}
use Rattle.wac_parser_tree.specs.Views.{view_func_type}
use Rattle.wac_parser_declare.specs.Declarations.{free}
use Rattle.wac_parser_declare.specs.Holding.{IsFunc}
use Rattle.wac_parser_declare.specs.Scope.{Scope}
use Rattle.wac_parser_resolve.specs.Ascribing.{root_scope}
use Rattle.wac_parser_resolve.proofs.statements.written_func.Goals as goal

pub returns-in_err-id-clause-said : goal.returns-in_err-id-clause-said
returns-in_err-id-clause-said c own s said = said_grows own c.args.state.now c.func_type.new.types s c.func_type.ensures.grows c.func_type.ensures.packages said

pub returns-clause-said : goal.returns-clause-said
returns-clause-said c own s said = said_grows own c.args.state.now c.func_type.new.types s c.func_type.ensures.grows c.func_type.ensures.packages said

pub returns-in_err-id-clause-outcome : goal.returns-in_err-id-clause-outcome
returns-in_err-id-clause-outcome c own s said =
    refused_outcome (Holds c.func_type.new.types.graph.types) (free (root_scope s) (view_func_type c.args.ty.now)) _ _ c.from_residual.ensures.1
    (subst (λ (ns : Scope). IsRefusal (free ns (view_func_type c.args.ty.now)) c.in_err-id.field-0.0) said.scope c.in_err-id.ensures.outcome)

pub returns-clause-outcome : goal.returns-clause-outcome
returns-clause-outcome c own s said =
    let d = c.func_type.new.types.graph.types in
    subst (λ (ns : Scope). IsHeld (Holds d) (free ns (view_func_type c.args.ty.now)) (ItemKind.Func c.in_ok-id.id)) said.scope
    (held_map (IsFunc d) (Holds d) _ c.in_ok-id.id (ItemKind.Func c.in_ok-id.id) (λ x h. h) c.in_ok-id.ensures.outcome)
