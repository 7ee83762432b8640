use Rattle.std.proofs.Common.{◌∙◌, Some, refl, sym, ap, subst, arith}
use Rattle.wac_types_base.specs.declared.item.ItemKind.{ItemKind}
use Rattle.wac_types_base.specs.declared.item.ValueType.{ValueType}
use Rattle.wac_types_base.specs.Collection.{Stands}
use Rattle.wac_types_base.specs.Tree.{tree_of}
use Rattle.wac_types_base.specs.Resolving.{ResolvesTo, resolved, through_alias}
use Rattle.wac_types_base.proofs.Telling.{value_source, value_alias_tree, no_alias}
use Rattle.wac_types_base.proofs.types.Types.+resolve_value_type.Goals as goal

pub resolve_value_type-requires : goal.resolve_value_type-requires
resolve_value_type-requires t c =
    let s = value_source c.args.self.now c.defined_type.ensures.acyclic c.args.ty c.in-Defined.id c.defined_type.result.now c.in-Alias.source c.in-Defined.is c.defined_type.ensures.entry c.defined_type.ensures.own c.in-Alias.is in
    (omega (arith, s.1, c.decreases), s.0)

pub returns-in-Alias-clause-resolved : goal.returns-in-Alias-clause-resolved
returns-in-Alias-clause-resolved t c =
    subst (λ v. ResolvesTo c.args.self.now v c.resolve_value_type.result) (sym c.in-Defined.is)
    (through_alias (c.defined_type.ensures.entry ∙ ap Some c.in-Alias.is) c.resolve_value_type.ensures.resolved)

pub returns-in-Alias-clause-tree : goal.returns-in-Alias-clause-tree
returns-in-Alias-clause-tree t c =
    c.resolve_value_type.ensures.tree
    ∙ sym (value_alias_tree c.args.self.now c.defined_type.ensures.acyclic c.args.ty c.in-Defined.id c.defined_type.result.now c.in-Alias.source c.in-Defined.is c.defined_type.ensures.entry c.defined_type.ensures.own c.in-Alias.is)

pub returns-in_default-defined_type : goal.returns-in_default-defined_type
returns-in_default-defined_type t c = record {
  resolved = subst (λ v. ResolvesTo c.args.self.now v (ValueType.Defined c.in-Defined.id)) (sym c.in-Defined.is) (resolved (no_alias c.args.self.now c.in-Defined.id c.defined_type.result.now c.defined_type.ensures.entry c.in_default-defined_type.not-Alias));
  stands = subst (λ v. Stands c.args.self.now (ItemKind.Value v)) c.in-Defined.is c.requires;
  tree = ap (λ v. tree_of c.args.self.now (ItemKind.Value v)) (sym c.in-Defined.is);
}

pub returns-in_default : goal.returns-in_default
returns-in_default t c = record {
  resolved = resolved (λ d s e at. c.in_default.not-Defined d e);
  stands = c.requires;
  tree = refl;
}
