-- An export that is there has an alias.
use Rattle.std.proofs.Common.{◌≡◌, ℕ, true, false, None, IsSome, refl, sym, ap, subst, ◌∙◌}
use Rattle.std.proofs.lemmas.Option.{same_Some}
use Rattle.wac_types_base.specs.declared.item.ItemKind.{ItemKind}
use Rattle.wac_types_base.specs.Record.{Collection}
use Rattle.wac_types_base.specs.Entries.{Name}
use Rattle.wac_graph_core.specs.Nodes.{NodeData}
use Rattle.wac_graph_core.specs.Graph.{Graph, ContainsNode, IsOfKind, is_instance, item_export}
use Rattle.wac_graph_plug.specs.Steps.{HasExport}

no_export_of : (c : Collection) (k : ItemKind) (n : Name) → is_instance k ≡ false → item_export c k n ≡ None
no_export_of c (ItemKind.Ty t) n e = refl
no_export_of c (ItemKind.Func f) n e = refl
no_export_of c (ItemKind.Instance i) n e = absurd (cc (e))
no_export_of c (ItemKind.Component w) n e = refl
no_export_of c (ItemKind.Module m) n e = refl
no_export_of c (ItemKind.Value v) n e = refl

pub export_there : (g : Graph) (k : ℕ) (n : Name) → HasExport g k n → ContainsNode g k
export_there g k n has = subst IsSome (sym has.1.there) refl

pub not_missing : (g : Graph) (k : ℕ) (n : Name) → HasExport g k n → IsOfKind g k (λ x. (is_instance x ≡ true) × (item_export g.types x n ≡ None)) → ⊥
not_missing g k n has is =
    let same : is.node ≡ has.1.node = same_Some _ _ (sym is.there ∙ has.1.there) in
    let none : item_export g.types has.1.node.item_kind n ≡ None = ap (λ (x : NodeData). item_export g.types x.item_kind n) (sym same) ∙ is.kind.1 in
    absurd (cc (none, has.1.kind))

pub an_instance : (g : Graph) (k : ℕ) (n : Name) → HasExport g k n → IsOfKind g k (λ x. is_instance x ≡ false) → ⊥
an_instance g k n has is =
    let same : is.node ≡ has.1.node = same_Some _ _ (sym is.there ∙ has.1.there) in
    let none : item_export g.types has.1.node.item_kind n ≡ None = ap (λ (x : NodeData). item_export g.types x.item_kind n) (sym same) ∙ no_export_of g.types is.node.item_kind n is.kind in
    absurd (cc (none, has.1.kind))
