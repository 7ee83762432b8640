use Rattle.std.proofs.Common.{List, sym, ap, subst, ◌∙◌}
use Rattle.std.specs.Prelude.{IfNone}
use Rattle.wac_types_base.specs.declared.item.ItemKind.{ItemKind}
use Rattle.wac_types_fit.specs.Trees.{tree_in}
use Rattle.wac_graph_scopes.specs.declared.scope.KnownType.{KnownType}
use Rattle.wac_graph_scopes.specs.Known.{HasTree}
use Rattle.wac_graph_scopes.proofs.PlaceLaws.{scope_of_on, if_none_some}
use Rattle.wac_graph_scopes.proofs.value.equal_index.Goals as goal

pub returns-then-is_some-clause-reads : goal.returns-then-is_some-clause-reads
returns-then-is_some-clause-reads c w outer i h = c.in_ok-found.ensures.reads w outer i (c.place_of.ensures.keeps w outer i h)

pub returns-clause-reads : goal.returns-clause-reads
returns-clause-reads c w outer i h = c.in_ok-found-2.ensures.reads w outer i (c.place_of.ensures.keeps w outer i h)

pub returns-then-is_some-clause-none : goal.returns-then-is_some-clause-none
returns-then-is_some-clause-none c h = if_none_some c.in_ok-found.found _ (sym c.is_some.ensures ∙ c.if-is_some.true)

pub returns-clause-none : goal.returns-clause-none
returns-clause-none c h =
    let types = c.args.types.now in
    let s = c.args.scope.now in
    let mid = c.place_of.new.scope in
    subst (λ (l : List KnownType). IfNone c.in_ok-found-2.found (HasTree types l (tree_in types (ItemKind.Value c.args.ty)) → ⊥)) (ap (λ v. v.items) c.place_of.ensures.known) (c.in_ok-found-2.ensures.none (scope_of_on types s mid c.place_of.ensures.keeps h))
