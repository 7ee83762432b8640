use Rattle.wac_types_base.specs.Stated.{Stated, kind_of}
use Rattle.wac_parser_tree.specs.Views.{view_ident}
use Rattle.wac_parser_refusals.proofs.Outcomes.{refused_outcome, then_refused}
use Rattle.wac_parser_declare.specs.Aliases.{is_root}
use Rattle.wac_parser_declare.specs.Declarations.{alias_by, alias_named as stated_named}
use Rattle.wac_parser_declare.specs.Holding.{IsType, scope_of}
use Rattle.wac_parser_declare.specs.Scope.{named}
use Rattle.wac_parser_declare.proofs.Values.{binding_stands, by_name, named_refused}
use Rattle.wac_parser_declare.proofs.aliases.alias_named.Goals as goal

pub alias_of-requires : goal.alias_of-requires
alias_of-requires g c =
    binding_stands (g.T.GrowingTypes.collection c.args.types.now) c.args.names.now (view_ident c.args.source.now) c.in_ok-binding.binding c.requires c.in_ok-binding.ensures

pub returns-in_err-binding-clause-outcome : goal.returns-in_err-binding-clause-outcome
returns-in_err-binding-clause-outcome g c =
    let old = g.T.GrowingTypes.collection c.args.types.now in
    let n = view_ident c.args.alias.now in
    let i = view_ident c.args.source.now in
    refused_outcome (IsType old) (stated_named (is_root c.args.place) (scope_of old c.args.names.now) n i) _ _ c.from_residual.ensures.1
    (then_refused (λ (x : Stated). alias_by (kind_of x) (is_root c.args.place) n i x) (named (scope_of old c.args.names.now) i) _
    (named_refused old c.args.names.now i _ c.in_err-binding.ensures))

pub returns-clause-outcome : goal.returns-clause-outcome
returns-clause-outcome g c =
    let old = g.T.GrowingTypes.collection c.args.types.now in
    let i = view_ident c.args.source.now in
    by_name (IsType (g.T.GrowingTypes.collection c.alias_of.new.types)) (λ (x : Stated). alias_by (kind_of x) (is_root c.args.place) (view_ident c.args.alias.now) i x) old c.args.names.now i
    c.in_ok-binding.binding c.alias_of.result c.in_ok-binding.ensures c.alias_of.ensures.outcome
