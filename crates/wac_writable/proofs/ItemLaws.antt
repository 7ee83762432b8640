-- Items by their trees, and resources by their roots.
use Rattle.std.proofs.Common.{◌≡◌, ◌<◌, ℕ, zero, suc, Bool, true, false, true≢false, Option, Some, None, Result, Ok, Err, IfOk, OnOk, inl, inr, refl, sym, ap, ◌∙◌, subst, slice_get, arith}
use Rattle.std.specs.Prelude.{◌&&◌, bytes_eq, if◌then◌else◌}
use Rattle.std.specs.Bool.{Decides}
use Rattle.wac_types_base.specs.declared.ids.ResourceId.{ResourceId}
use Rattle.wac_types_base.specs.declared.item.ValueType.{ValueType}
use Rattle.wac_types_base.specs.declared.item.«Type».{«Type» as TypeKind}
use Rattle.wac_types_base.specs.declared.item.ItemKind.{ItemKind}
use Rattle.wac_types_base.specs.declared.defined.Resource.{Resource}
use Rattle.wac_types_base.specs.declared.defined.ResourceAlias.{ResourceAlias}
use Rattle.wac_types_base.specs.Entries.{Name, put_name}
use Rattle.wac_types_base.specs.Record.{Collection}
use Rattle.wac_types_base.specs.Collection.{Stands, IsAcyclic, size_of, item_node, resource, resource_entry_at}
use Rattle.wac_types_base.specs.Stated.{Stated, stated_of, untyped, kind_of, root_name}
use Rattle.wac_types_base.specs.Tree.{tree, rigid, end}
use Rattle.wac_types_base.proofs.Standing.{resource_found}
use Rattle.wac_types_base.proofs.Slots.{stands_typed_value}
use Rattle.wac_types_base.proofs.Telling.{item_kind, kind_stated, untyped_stated, stated_step, resource_node, resource_source}
use Rattle.wac_types_fit.specs.Trees.{tree_in, Fit}
use Rattle.wac_types_base.specs.Fits.{Fits}
use Rattle.wac_types_fit.proofs.Ordering.{tree_in_order}
use Rattle.wac_types_fit.proofs.TreeLaws.{Fits-refl, anti}
use Rattle.wac_types_fit.proofs.Unfolded.{root_tree, source_tree}
use Rattle.wac_composition.specs.Tests.{same_tree}
use Rattle.wac_composition.specs.Writable.{is_resource, is_value_type, is_fresh}
use Rattle.wac_composition.proofs.NotWritten.{trees_decide}
use Rattle.wac_types_parts.specs.Parts.{IsRootName}
use Rattle.wac_writable.specs.declared.holder.Holder.{Holder}
use Rattle.wac_writable.specs.Holders.{value_in, resource_in, is_used_as, same_item, resource_roots}
use Rattle.wac_types_parts.proofs.PartsStated.{stated_nothing, stands_or_not}

-- ---- one tree

pub both_decide : (a b : Bool) {P : Type 0} → Decides a P → Decides b P → a ≡ b
both_decide true true d e = refl
both_decide false false d e = refl
both_decide true false d e = sym (e.1 (d.0 refl))
both_decide false true d e = d.1 (e.0 refl)

pub same_itself : (c : Collection) (a b : ItemKind) → a ≡ b → true ≡ same_item c a b
same_itself c a b e = sym ((trees_decide (stated_of c a) (stated_of c b)).1 (ap (λ k. tree (stated_of c k)) e))

-- what fits both ways is the same
fits_same : (c : Collection) (a b : ItemKind) → tree (stated_of c a) ≡ tree (stated_of c b) → Fit c a c b
unfolding tree_in
fits_same c a b s = subst (Fits (tree (stated_of c a))) s (Fits-refl (tree (stated_of c a)))

same_fits : (c : Collection) (a b : ItemKind) → Fit c a c b → Fit c b c a → tree (stated_of c a) ≡ tree (stated_of c b)
unfolding tree_in
same_fits c a b f g = anti (tree (stated_of c a)) (tree (stated_of c b)) (tree_in_order (stated_of c a)) (tree_in_order (stated_of c b)) f g

pub no_fit : (c : Collection) (a b : ItemKind) (x : Bool) → x ≡ false → Decides x (Fit c a c b) → false ≡ same_item c a b
no_fit c a b x e d = sym e ∙ both_decide x (same_item c a b) (λ t. absurd (true≢false (sym t ∙ e)), λ s. d.1 (fits_same c a b s)) (trees_decide (stated_of c a) (stated_of c b))

pub back_fits : (c : Collection) (a b : ItemKind) (x y : Bool) → x ≡ true → Decides x (Fit c a c b) → Decides y (Fit c b c a) → y ≡ same_item c a b
back_fits c a b x y t f d = both_decide y (same_item c a b) (λ e. same_fits c a b (f.0 t) (d.0 e), λ s. d.1 (fits_same c b a (sym s))) (trees_decide (stated_of c a) (stated_of c b))

-- ---- kinds of items

pub is_value_item : (k : ItemKind) (v : ValueType) → value_in k ≡ Some v → k ≡ ItemKind.Ty (TypeKind.Value v)
is_value_item (ItemKind.Ty (TypeKind.Value w)) v e = let same : w ≡ v = cc e in ap (λ v. ItemKind.Ty (TypeKind.Value v)) same
is_value_item (ItemKind.Ty (TypeKind.Resource r)) v e = absurd (cc e)
is_value_item (ItemKind.Ty (TypeKind.Func f)) v e = absurd (cc e)
is_value_item (ItemKind.Ty (TypeKind.Interface i)) v e = absurd (cc e)
is_value_item (ItemKind.Ty (TypeKind.World w)) v e = absurd (cc e)
is_value_item (ItemKind.Ty (TypeKind.Module m)) v e = absurd (cc e)
is_value_item (ItemKind.Func f) v e = absurd (cc e)
is_value_item (ItemKind.Instance i) v e = absurd (cc e)
is_value_item (ItemKind.Component w) v e = absurd (cc e)
is_value_item (ItemKind.Module m) v e = absurd (cc e)
is_value_item (ItemKind.Value w) v e = absurd (cc e)

no_value_kind : (k : ItemKind) → value_in k ≡ None → is_value_type (item_kind k) ≡ false
no_value_kind (ItemKind.Ty (TypeKind.Value w)) e = absurd (cc e)
no_value_kind (ItemKind.Ty (TypeKind.Resource r)) e = refl
no_value_kind (ItemKind.Ty (TypeKind.Func f)) e = refl
no_value_kind (ItemKind.Ty (TypeKind.Interface i)) e = refl
no_value_kind (ItemKind.Ty (TypeKind.World w)) e = refl
no_value_kind (ItemKind.Ty (TypeKind.Module m)) e = refl
no_value_kind (ItemKind.Func f) e = refl
no_value_kind (ItemKind.Instance i) e = refl
no_value_kind (ItemKind.Component w) e = refl
no_value_kind (ItemKind.Module m) e = refl
no_value_kind (ItemKind.Value w) e = refl

pub is_resource_item : (k : ItemKind) (r : ResourceId) → resource_in k ≡ Some r → k ≡ ItemKind.Ty (TypeKind.Resource r)
is_resource_item (ItemKind.Ty (TypeKind.Resource q)) r e = let same : q ≡ r = cc e in ap (λ r. ItemKind.Ty (TypeKind.Resource r)) same
is_resource_item (ItemKind.Ty (TypeKind.Value w)) r e = absurd (cc e)
is_resource_item (ItemKind.Ty (TypeKind.Func f)) r e = absurd (cc e)
is_resource_item (ItemKind.Ty (TypeKind.Interface i)) r e = absurd (cc e)
is_resource_item (ItemKind.Ty (TypeKind.World w)) r e = absurd (cc e)
is_resource_item (ItemKind.Ty (TypeKind.Module m)) r e = absurd (cc e)
is_resource_item (ItemKind.Func f) r e = absurd (cc e)
is_resource_item (ItemKind.Instance i) r e = absurd (cc e)
is_resource_item (ItemKind.Component w) r e = absurd (cc e)
is_resource_item (ItemKind.Module m) r e = absurd (cc e)
is_resource_item (ItemKind.Value w) r e = absurd (cc e)

no_resource_kind : (k : ItemKind) → resource_in k ≡ None → is_resource (item_kind k) ≡ false
no_resource_kind (ItemKind.Ty (TypeKind.Resource r)) e = absurd (cc e)
no_resource_kind (ItemKind.Ty (TypeKind.Value w)) e = refl
no_resource_kind (ItemKind.Ty (TypeKind.Func f)) e = refl
no_resource_kind (ItemKind.Ty (TypeKind.Interface i)) e = refl
no_resource_kind (ItemKind.Ty (TypeKind.World w)) e = refl
no_resource_kind (ItemKind.Ty (TypeKind.Module m)) e = refl
no_resource_kind (ItemKind.Func f) e = refl
no_resource_kind (ItemKind.Instance i) e = refl
no_resource_kind (ItemKind.Component w) e = refl
no_resource_kind (ItemKind.Module m) e = refl
no_resource_kind (ItemKind.Value w) e = refl

module _ (c : Collection) (a : IsAcyclic c) where
  -- a used item that is the type of a value type
  pub used_value : (k : ItemKind) (w v : ValueType) → value_in k ≡ Some w → Stands c k → is_used_as (stated_of c k) (stated_of c (ItemKind.Value v)) ≡ same_item c (ItemKind.Value w) (ItemKind.Value v)
  unfolding item_node
  used_value k w v e s =
      let is = is_value_item k w e in
      let t = subst (λ k. Stands c k) is s in
      ap (λ k. is_used_as (stated_of c k) (stated_of c (ItemKind.Value v))) is
      ∙ ap (λ k. is_value_type k && same_tree (tree (untyped (stated_of c (ItemKind.Ty (TypeKind.Value w))))) (tree (stated_of c (ItemKind.Value v)))) (kind_stated c a (ItemKind.Ty (TypeKind.Value w)) t)
      ∙ ap (λ x. same_tree (tree x) (tree (stated_of c (ItemKind.Value v)))) (untyped_stated c a (ItemKind.Ty (TypeKind.Value w)) (ItemKind.Value w) refl t)

  pub value_item_stands : (k : ItemKind) (w : ValueType) → value_in k ≡ Some w → Stands c k → Stands c (ItemKind.Value w)
  value_item_stands k w e s = stands_typed_value c w (subst (λ k. Stands c k) (is_value_item k w e) s)

  pub used_no_value : (k : ItemKind) (x : Stated) → value_in k ≡ None → Stands c k → false ≡ is_used_as (stated_of c k) x
  used_no_value k x e s = sym (ap (λ j. is_value_type j && same_tree (tree (untyped (stated_of c k))) (tree x)) (kind_stated c a k s) ∙ ap (λ b. b && same_tree (tree (untyped (stated_of c k))) (tree x)) (no_value_kind k e))

  -- ---- roots

  abbrev Root : ResourceId → Type 0
  Root r = (n : Name) × (tree_in c (ItemKind.Ty (TypeKind.Resource r)) ≡ rigid (resource n) end) × (root_name (stated_of c (ItemKind.Ty (TypeKind.Resource r))) ≡ n)

  root_by_alias : (r : ResourceId) (x : Resource) (o : Option ResourceAlias) → slice_get c.resources r.index ≡ Some x → r.collection ≡ c.number → x.alias ≡ o
      → ((t : ResourceId) → Stands c (ItemKind.Ty (TypeKind.Resource t)) → size_of c (ItemKind.Ty (TypeKind.Resource t)) < size_of c (ItemKind.Ty (TypeKind.Resource r)) → Root t) → Root r
  root_by_alias r x None at own is h =
      (x.name, root_tree c a r x at own is, ap root_name (stated_step c a (ItemKind.Ty (TypeKind.Resource r)) (resource_entry_at x.name None) (resource_node c r x at own ∙ ap (λ o. Some (resource_entry_at x.name o)) is)))
  root_by_alias r x (Some b) at own is h =
      let s = resource_source c a r x b at own is in
      let i = h b.source s.0 s.1 in
      (i.0, source_tree c a r x b at own is ∙ i.1, ap root_name (stated_step c a (ItemKind.Ty (TypeKind.Resource r)) (resource_entry_at x.name (Some b)) (resource_node c r x at own ∙ ap (λ o. Some (resource_entry_at x.name o)) is)) ∙ i.2)

  root_by_size : (n : ℕ) (r : ResourceId) → size_of c (ItemKind.Ty (TypeKind.Resource r)) < n → Stands c (ItemKind.Ty (TypeKind.Resource r)) → Root r
  root_by_size zero r lt s = absurd (omega arith)
  root_by_size (suc n) r lt s =
      let f = resource_found c r s in
      root_by_alias r f.value f.value.alias f.at f.own refl (λ t p q. root_by_size n t (omega arith) p)

  -- the name at the end of the aliases is the root name
  pub root_named : (r : ResourceId) (n : Name) → Stands c (ItemKind.Ty (TypeKind.Resource r)) → IsRootName c r n → root_name (stated_of c (ItemKind.Ty (TypeKind.Resource r))) ≡ n
  root_named r n s is =
      let f = root_by_size (suc (size_of c (ItemKind.Ty (TypeKind.Resource r)))) r (omega arith) s in
      f.2 ∙ same f.0 n (sym f.1 ∙ is s)
    where
      same : (m n : Name) → rigid (resource m) end ≡ rigid (resource n) end → m ≡ n
      same m n e = cc e

  -- ---- resources under their own names

  pub resource_kind : (k : ItemKind) (r : ResourceId) → resource_in k ≡ Some r → Stands c k → is_resource (kind_of (stated_of c k)) ≡ true
  resource_kind k r e s = ap is_resource (kind_stated c a k s ∙ ap item_kind (is_resource_item k r e))

  pub other_kind : (k : ItemKind) → resource_in k ≡ None → is_resource (kind_of (stated_of c k)) ≡ false
  other_kind k e = elim (stands_or_not c k) [
    | inl s ↦ ap is_resource (kind_stated c a k s) ∙ no_resource_kind k e
    | inr n ↦ ap (λ x. is_resource (kind_of x)) (stated_nothing c k n)
  ]

  pub fresh_resource : (k : ItemKind) (r : ResourceId) (n m : Name) → resource_in k ≡ Some r → Stands c k → IsRootName c r m → bytes_eq n m ≡ is_fresh (n, stated_of c k)
  fresh_resource k r n m e s is =
      let t = subst (λ k. Stands c k) (is_resource_item k r e) s in
      let same : root_name (stated_of c k) ≡ m = ap (λ k. root_name (stated_of c k)) (is_resource_item k r e) ∙ root_named r m t is in
      ap (λ m. bytes_eq n m) (sym same) ∙ ap (λ b. b && bytes_eq n (root_name (stated_of c k))) (sym (resource_kind k r e s))

  pub fresh_missing : (k : ItemKind) (n : Name) → (Stands c k → ⊥) → false ≡ is_fresh (n, stated_of c k)
  fresh_missing k n h = sym (ap (λ x. is_fresh (n, x)) (stated_nothing c k h))

  pub fresh_other : (k : ItemKind) (n : Name) → resource_in k ≡ None → false ≡ is_fresh (n, stated_of c k)
  fresh_other k n e = sym (ap (λ b. b && bytes_eq n (root_name (stated_of c k))) (other_kind k e))

  -- the root of a resource is added, and of nothing else
  pub adds_resource : (k : ItemKind) (r : ResourceId) (m : Name) (s t : Holder) {T E : Type 0} (o : Result T E) → resource_in k ≡ Some r → Stands c k → IsRootName c r m → OnOk o (t ≡ record s { roots = put_name s.roots m }) → OnOk o (t ≡ record s { roots = resource_roots c k s.roots })
  adds_resource k r m s t (Err x) e st is h = h
  adds_resource k r m s t (Ok x) e st is h =
      let same : root_name (stated_of c k) ≡ m = ap (λ k. root_name (stated_of c k)) (is_resource_item k r e) ∙ root_named r m (subst (λ k. Stands c k) (is_resource_item k r e) st) is in
      h ∙ ap (λ l. record s { roots = l }) (ap (put_name s.roots) (sym same) ∙ ap (λ b. if b then put_name s.roots (root_name (stated_of c k)) else s.roots) (sym (resource_kind k r e st)))

  pub adds_other : (k : ItemKind) (s : Holder) → resource_in k ≡ None → s ≡ record s { roots = resource_roots c k s.roots }
  adds_other k s e = ap (λ b. record s { roots = if b then put_name s.roots (root_name (stated_of c k)) else s.roots }) (sym (other_kind k e))

pub if_ok_all : {T E : Type 0} {Q : T → Type 0} (r : Result T E) → ((x : T) → Q x) → IfOk r Q
if_ok_all (Ok x) f = f x
if_ok_all (Err e) f = tt
