use Rattle.std.proofs.Common.{subst, sym, refl}
use Rattle.wac_types_base.specs.Stated.{Stated}
use Rattle.wac_parser_tree.specs.Views.{view_ident}
use Rattle.wac_parser_refusals.specs.Causes.{Answer}
use Rattle.wac_parser_refusals.specs.Outcomes.{IsHeld}
use Rattle.wac_parser_refusals.proofs.Outcomes.{refused_outcome}
use Rattle.wac_parser_declare.specs.Holding.{Holds, scope_of}
use Rattle.wac_parser_declare.specs.Scope.{named}
use Rattle.wac_parser_declare.proofs.Values.{binding_stands, named_found, named_refused}
use Rattle.wac_parser_declare.proofs.paths.item_named.Goals as goal

pub returns-in_err-binding-clause-outcome : goal.returns-in_err-binding-clause-outcome
returns-in_err-binding-clause-outcome c =
    let i = view_ident c.args.id.now in
    refused_outcome (Holds c.args.types.now) (named (scope_of c.args.types.now c.args.names.now) i) _ _ c.from_residual.ensures.1
    (named_refused c.args.types.now c.args.names.now i _ c.in_err-binding.ensures)

pub returns-clause-outcome : goal.returns-clause-outcome
returns-clause-outcome c =
    let b = c.in_ok-binding.binding in
    let i = view_ident c.args.id.now in
    subst (λ (q : Answer Stated). IsHeld (Holds c.args.types.now) q b.kind) (sym (named_found c.args.types.now c.args.names.now i b c.in_ok-binding.ensures))
    (record { stands = binding_stands c.args.types.now c.args.names.now i b c.requires c.in_ok-binding.ensures; same = refl })

pub returns-clause-stands : goal.returns-clause-stands
returns-clause-stands c = binding_stands c.args.types.now c.args.names.now (view_ident c.args.id.now) c.in_ok-binding.binding c.requires c.in_ok-binding.ensures
