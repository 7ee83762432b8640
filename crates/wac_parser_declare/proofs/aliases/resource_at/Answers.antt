use Rattle.std.proofs.Common.{ap, subst, sym, ◌∙◌}
use Rattle.wac_types_base.specs.Record.{Collection}
use Rattle.wac_types_base.specs.Collection.{IsAcyclic}
use Rattle.wac_types_base.specs.Entries.{Name}
use Rattle.wac_types_base.specs.Stated.{Stated, desc, kind_of}
use Rattle.wac_parser_tree.specs.Views.{view_ident}
use Rattle.wac_parser_refusals.specs.Causes.{Answer, InvalidAliasType}
use Rattle.wac_parser_refusals.specs.Outcomes.{IsOutcome, IsRefusal, Refuses}
use Rattle.wac_parser_declare.specs.declared.aliases.Place.{Place}
use Rattle.wac_parser_declare.specs.Aliases.{is_root, stated_resource}
use Rattle.wac_parser_declare.specs.Declarations.{alias_by}
use Rattle.wac_parser_declare.specs.Holding.{IsType}
use Rattle.wac_parser_declare.proofs.Aliasing.{alias_in_body, alias_at_root}
use Rattle.wac_parser_declare.proofs.aliases.resource_at.Goals as goal

pub returns-in-Body-clause-outcome : goal.returns-in-Body-clause-outcome
returns-in-Body-clause-outcome g c =
    let old = g.T.GrowingTypes.collection c.args.types.now in
    let new = g.T.GrowingTypes.collection c.resource_alias.new.types in
    let n = view_ident c.args.alias.now in
    let i = view_ident c.args.source.now in
    let x = stated_resource old c.args.resource in
    subst (λ (p : Place). IsOutcome (IsType new) (alias_by (kind_of x) (is_root p) n i x) c.resource_alias.result) (sym c.in-Body.is)
    (alias_in_body old (subst IsAcyclic c.types.ensures c.see_acyclic.ensures) n i (λ (q : Answer Stated). IsOutcome (IsType new) q c.resource_alias.result) c.args.resource c.requires c.resource_alias.ensures.outcome)

pub returns-in-Root-clause-outcome : goal.returns-in-Root-clause-outcome
returns-in-Root-clause-outcome g c =
    let old = g.T.GrowingTypes.collection c.args.types.now in
    let n = view_ident c.args.alias.now in
    let i = c.args.source.now in
    let x = stated_resource old c.args.resource in
    let e = c.invalid_alias_type.result in
    subst (λ (p : Place). IsRefusal (alias_by (kind_of x) (is_root p) n (view_ident i) x) e) (sym c.in-Root.is)
    (alias_at_root old (subst IsAcyclic c.types.ensures c.see_acyclic.ensures) n (view_ident i) e c.args.resource c.requires
    (subst (λ (w : Name). Refuses e (InvalidAliasType i.string.now w) i.span)
    (c.desc.ensures ∙ ap (λ (y : Collection). desc (stated_resource y c.args.resource)) c.types-in-Root.ensures) c.invalid_alias_type.ensures))
