-- Handles of resources.
use Rattle.std.proofs.Common.{◌≡◌, ℕ, List, ◌∷◌, Option, Some, None, sym, ap, ◌∙◌, subst}
use Rattle.wac_types_base.specs.declared.ids.ResourceId.{ResourceId}
use Rattle.wac_types_base.specs.declared.item.ValueType.{ValueType}
use Rattle.wac_types_base.specs.declared.item.«Type».{«Type» as TypeKind}
use Rattle.wac_types_base.specs.declared.item.ItemKind.{ItemKind}
use Rattle.wac_types_base.specs.Record.{Collection}
use Rattle.wac_types_base.specs.Entries.{Name}
use Rattle.wac_types_base.specs.Collection.{Stands, IsAcyclic, resource}
use Rattle.wac_types_base.specs.Tree.{Tree, rigid, handle_own, handle_borrow, end}
use Rattle.wac_types_fit.specs.Trees.{tree_in}
use Rattle.wac_types_fit.specs.Checking.{value_tree}
use Rattle.wac_types_fit.proofs.Unfolded.{own_tree, borrow_tree}
use Rattle.wac_graph_bytes.specs.declared.value.ValueType.{ValueType as Written}
use Rattle.wac_graph_bytes.specs.declared.value.ValueType.TheVariants.{Index}
use Rattle.wac_graph_bytes.specs.declared.entry.DefinedType.TheVariants as code
use Rattle.wac_graph_bytes.specs.Typing.{Worlds, Scope, Inside, defined, type_at, value_of, as_value}
use Rattle.wac_graph_bytes.specs.Views.{defined_view}
use Rattle.wac_graph_scopes.specs.declared.scope.TypeScope.{TypeScope}
use Rattle.wac_graph_scopes.specs.Scopes.{IsScope, AnswersType, AnswersValue, AnswersPlace}
use Rattle.wac_graph_scopes.proofs.ScopeLaws.{Goes-refl}
use Rattle.wac_graph_scopes.proofs.FormLaws.{own_reads, borrow_reads, index_reads}
use Rattle.wac_graph_scopes.proofs.ValueLaws.{value_defined}

-- ---- resources

module _ (w : Worlds) (c : Collection) (outer : List Scope) (i : Inside) (acyclic : IsAcyclic c) (id : ResourceId) (s u : TypeScope) (r k : ℕ) (n : Name) where
  pub own_written : Stands c (ItemKind.Value (ValueType.Own id)) → IsScope w c outer i s → type_at w (i.here ∷ outer) r ≡ Some (tree_in c (ItemKind.Ty (TypeKind.Resource id))) → tree_in c (ItemKind.Ty (TypeKind.Resource id)) ≡ rigid (resource n) end
      → ((j : Inside) (x : Tree) → IsScope w c outer j s → defined w (j.here ∷ outer) (defined_view (code.Own r)) ≡ Some x → AnswersType w c outer j x u k)
      → AnswersValue w c outer i (tree_in c (ItemKind.Value (ValueType.Own id))) u (Index k)
  own_written stands h at is defines =
      let t = tree_in c (ItemKind.Value (ValueType.Own id)) in
      let same : t ≡ handle_own (rigid (resource n) end) = own_tree c acyclic id stands ∙ ap handle_own is in
      value_defined w c outer i t s u (code.Own r) k h defines (own_reads w (i.here ∷ outer) r n (at ∙ ap Some is) ∙ ap Some (sym same))
      (λ x e. index_reads w (x ∷ outer) k t (ap as_value same ∙ ap Some (sym same)) e)

  pub borrow_written : Stands c (ItemKind.Value (ValueType.Borrow id)) → IsScope w c outer i s → type_at w (i.here ∷ outer) r ≡ Some (tree_in c (ItemKind.Ty (TypeKind.Resource id))) → tree_in c (ItemKind.Ty (TypeKind.Resource id)) ≡ rigid (resource n) end
      → ((j : Inside) (x : Tree) → IsScope w c outer j s → defined w (j.here ∷ outer) (defined_view (code.Borrow r)) ≡ Some x → AnswersType w c outer j x u k)
      → AnswersValue w c outer i (tree_in c (ItemKind.Value (ValueType.Borrow id))) u (Index k)
  borrow_written stands h at is defines =
      let t = tree_in c (ItemKind.Value (ValueType.Borrow id)) in
      let same : t ≡ handle_borrow (rigid (resource n) end) = borrow_tree c acyclic id stands ∙ ap handle_borrow is in
      value_defined w c outer i t s u (code.Borrow r) k h defines (borrow_reads w (i.here ∷ outer) r n (at ∙ ap Some is) ∙ ap Some (sym same))
      (λ x e. index_reads w (x ∷ outer) k t (ap as_value same ∙ ap Some (sym same)) e)

-- ---- places

pub place_none : (w : Worlds) (c : Collection) (outer : List Scope) (i : Inside) (s : TypeScope) (o : Option ValueType) → IsScope w c outer i s → o ≡ None → AnswersPlace w c outer i (value_tree c o) s None
place_none w c outer i s None h e = record { after = i; goes = Goes-refl w c outer i s h; value = tt }
place_none w c outer i s (Some v) h e = absurd (cc e)

pub place_some : (w : Worlds) (c : Collection) (outer : List Scope) (i : Inside) (s : TypeScope) (o : Option ValueType) (v : ValueType) (b : Written) → o ≡ Some v → AnswersValue w c outer i (tree_in c (ItemKind.Value v)) s b → AnswersPlace w c outer i (value_tree c o) s (Some b)
place_some w c outer i s None v b e a = absurd (cc e)
place_some w c outer i s (Some x) v b e a =
    let same : v ≡ x = sym (cc e) in
    record { after = a.after; goes = a.goes; value = subst (λ (y : ValueType). value_of w (a.after.here ∷ outer) b ≡ Some (tree_in c (ItemKind.Value y))) same a.value }
