use Rattle.std.proofs.Common.{ap, subst, sym, ◌∙◌}
use Rattle.wac_types_base.specs.declared.item.ItemKind.{ItemKind}
use Rattle.wac_types_base.specs.Record.{Collection}
use Rattle.wac_types_base.specs.Collection.{IsAcyclic, Stands}
use Rattle.wac_types_base.specs.Entries.{Name}
use Rattle.wac_types_base.specs.Stated.{Stated, desc, kind_of, stated_of}
use Rattle.wac_parser_tree.specs.Views.{view_ident}
use Rattle.wac_parser_refusals.specs.Causes.{Answer, InvalidAliasType}
use Rattle.wac_parser_refusals.specs.Outcomes.{IsOutcome, Refuses}
use Rattle.wac_parser_declare.specs.Aliases.{is_root}
use Rattle.wac_parser_declare.specs.Declarations.{alias_by}
use Rattle.wac_parser_declare.specs.Holding.{IsType}
use Rattle.wac_parser_declare.proofs.Aliasing.{alias_of_func, no_alias_kind}
use Rattle.wac_parser_declare.proofs.aliases.alias_of.Goals as goal

pub returns-in-Func-clause-outcome : goal.returns-in-Func-clause-outcome
returns-in-Func-clause-outcome g c =
    let old = g.T.GrowingTypes.collection c.args.types.now in
    let new = g.T.GrowingTypes.collection c.func_alias.new.types in
    let p = is_root c.args.place in
    let n = view_ident c.args.alias.now in
    let i = view_ident c.args.source.now in
    subst (λ (k : ItemKind). IsOutcome (IsType new) (alias_by (kind_of (stated_of old k)) p n i (stated_of old k)) c.func_alias.result) (sym c.in-Func.is)
    (alias_of_func old (subst IsAcyclic c.types.ensures c.see_acyclic.ensures) p n i (λ (q : Answer Stated). IsOutcome (IsType new) q c.func_alias.result) c.in-Func.func
    (subst (λ (k : ItemKind). Stands old k) c.in-Func.is c.requires) c.func_alias.ensures.outcome)

pub returns-in_default-clause-outcome : goal.returns-in_default-clause-outcome
returns-in_default-clause-outcome g c =
    let old = g.T.GrowingTypes.collection c.args.types.now in
    let i = c.args.source.now in
    no_alias_kind old (subst IsAcyclic c.types.ensures c.see_acyclic.ensures) (is_root c.args.place) (view_ident c.args.alias.now) (view_ident i) c.invalid_alias_type.result c.args.kind c.requires
    c.in_default.not-Ty c.in_default.not-Func
    (subst (λ (w : Name). Refuses c.invalid_alias_type.result (InvalidAliasType i.string.now w) i.span)
    (c.desc.ensures ∙ ap (λ (x : Collection). desc (stated_of x c.args.kind)) c.types-in_default.ensures) c.invalid_alias_type.ensures)
