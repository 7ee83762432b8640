use Rattle.std.proofs.Common.{◌≡◌, ◌∷◌, Some, sym, ap, subst, ◌∙◌, arith}
use Rattle.wac_types_base.specs.declared.ids.DefinedTypeId.{DefinedTypeId}
use Rattle.wac_types_base.specs.declared.item.ItemKind.{ItemKind}
use Rattle.wac_types_base.proofs.Telling.{value_source}
use Rattle.wac_types_fit.specs.Trees.{tree_in}
use Rattle.wac_types_fit.proofs.Unfolded.{alias_tree}
use Rattle.wac_graph_scopes.specs.Known.{IsIndexOf}
use Rattle.wac_graph_scopes.proofs.PlaceLaws.{source_value}
use Rattle.wac_graph_scopes.proofs.value.+known_value.Goals as goal

pub known_value-requires : goal.known_value-requires
known_value-requires t c =
    let s = value_source c.args.types.now c.see_acyclic.ensures c.args.ty c.in-Defined.own c.defined_type.result.now c.in-Alias.source c.in-Defined.is c.defined_type.ensures.entry c.defined_type.ensures.own c.in-Alias.is in
    (omega (arith, s.1, c.decreases), s.0)

pub returns-in-Some-clause-own : goal.returns-in-Some-clause-own
returns-in-Some-clause-own t c d k e is =
    let same : d ≡ c.in-Defined.own = cc (e, c.in-Defined.is) in
    c.in-Some.ensures.own k (subst (λ (x : DefinedTypeId). IsIndexOf c.args.scope.now.known x k) same is)

pub returns-in-Alias-clause-reads : goal.returns-in-Alias-clause-reads
returns-in-Alias-clause-reads t c w outer i h =
    let types = c.args.types.now in
    let at = c.defined_type.ensures.entry ∙ ap Some c.in-Alias.is in
    let same = ap (λ v. tree_in types (ItemKind.Value v)) c.in-Defined.is ∙ alias_tree types c.see_acyclic.ensures c.in-Defined.own c.in-Alias.source at c.defined_type.ensures.own in
    source_value w (i.here ∷ outer) types c.args.ty c.in-Alias.source c.known_value.result (sym same) (c.known_value.ensures.reads w outer i h)

pub returns-in-Alias-clause-own : goal.returns-in-Alias-clause-own
returns-in-Alias-clause-own t c d k e is =
    let same : d ≡ c.in-Defined.own = cc (e, c.in-Defined.is) in
    let found = c.in-None.ensures.own k (subst (λ (x : DefinedTypeId). IsIndexOf c.args.scope.now.known x k) same is) in
    absurd (cc found)

pub returns-in_default-defined_type : goal.returns-in_default-defined_type
returns-in_default-defined_type t c = record {
  reads = λ w outer i h. tt;
  own = λ d k e is.
      let same : d ≡ c.in-Defined.own = cc (e, c.in-Defined.is) in
      let found = c.in-None.ensures.own k (subst (λ (x : DefinedTypeId). IsIndexOf c.args.scope.now.known x k) same is) in
      absurd (cc found);
}
