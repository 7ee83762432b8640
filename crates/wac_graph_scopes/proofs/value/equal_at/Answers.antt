use Rattle.std.proofs.Common.{◌≡◌, Some, sym, ap, ◌∙◌, subst}
use Rattle.wac_types_base.specs.declared.item.ItemKind.{ItemKind}
use Rattle.wac_types_base.specs.Collection.{Stands}
use Rattle.wac_types_base.specs.Tree.{Tree}
use Rattle.wac_types_base.specs.Fits.{Fits}
use Rattle.wac_types_fit.specs.Trees.{tree_in}
use Rattle.wac_types_fit.proofs.TreeLaws.{Fits-refl}
use Rattle.wac_graph_scopes.specs.declared.scope.KnownType.{KnownType}
use Rattle.wac_graph_scopes.specs.Known.{type_tree}
use Rattle.wac_graph_scopes.proofs.KnownLaws.{value_equal}
use Rattle.wac_graph_scopes.proofs.value.equal_at.Goals as goal

pub returns-then-equal-clause-reads : goal.returns-then-equal-clause-reads
returns-then-equal-clause-reads c w outer i h =
    let types = c.args.types.now in
    let known = c.in-Some.ensures.reads w types outer i h in
    known.reads
    ∙ ap Some (value_equal types c.see_acyclic.ensures c.in-Some.other.ty (ItemKind.Value c.args.ty) (c.in_ok-equal.ensures.stands c.if-equal.true) (c.in_ok-equal.ensures.fits c.if-equal.true))

pub returns-else-equal-clause-none : goal.returns-else-equal-clause-none
returns-else-equal-clause-none c k at stands same =
    let types = c.args.types.now in
    let this : c.in-Some.other ≡ k = cc (at, c.in-Some.ensures.item) in
    let there = subst (λ (x : KnownType). Stands types (ItemKind.Value x.ty)) (sym this) stands in
    let equal : type_tree types c.in-Some.other.ty ≡ tree_in types (ItemKind.Value c.args.ty) = ap (λ (x : KnownType). type_tree types x.ty) this ∙ same in
    c.in_ok-equal.ensures.differs c.if-equal.false there c.requires (subst (λ (t : Tree). Fits (type_tree types c.in-Some.other.ty) t) equal (Fits-refl (type_tree types c.in-Some.other.ty)))

pub returns-in_default-clause-none : goal.returns-in_default-clause-none
returns-in_default-clause-none c k at stands same = absurd (cc (at, c.in_default.ensures.item))
