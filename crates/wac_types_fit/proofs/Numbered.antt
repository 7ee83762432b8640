-- A cache stays true while true pairs are added.
use Rattle.std.proofs.Common.{◌≡◌, ℕ, List, [], Option, Some, None, IsSome, Bool, true, false, refl, sym, ap, subst, ◌∙◌, inl, inr}
use Rattle.std.specs.Prelude.{if◌then◌else◌, ◌==◌, slice_get}
use Rattle.std.specs.Option.{option_map}
use Rattle.std.proofs.lemmas.Bool.{eqb-true}
use Rattle.wac_types_base.specs.declared.item.ItemKind.{ItemKind}
use Rattle.wac_types_base.specs.declared.item.PrimitiveType.{PrimitiveType}
use Rattle.wac_types_base.specs.declared.item.ValueType.{ValueType}
use Rattle.wac_types_base.specs.declared.item.«Type».{«Type» as TypeKind}
use Rattle.wac_types_base.specs.Record.{Collection}
use Rattle.wac_types_base.specs.Collection.{Shape, Entry, Stands, IsAcyclic, item_node, entry_at, primitive, type_of, defined_entry, resource_entry, func_entry, interface_entry, world_entry, module_entry}
use Rattle.wac_types_fit.specs.Trees.{tree_in, Fit, OneOrApart}
use Rattle.wac_types_fit.specs.Checking.{OnlyMore, IsTruePair, IsTrueOf, OnlyTrue}
use Rattle.wac_types_base.specs.Fits.{Fits}
use Rattle.wac_types_fit.proofs.Unfolded.{tree_step}
use Rattle.wac_types_base.proofs.Slots.{stands-labelled}

numbered : (b : Bool) (o : Option Entry) → IsSome (if b then o else None) → b ≡ true
numbered true o h = refl
numbered false o h = absurd (cc h)

number_is : {E : Type 0} (f : E → Entry) (n : ℕ) (es : List E) (col i : ℕ) → IsSome (entry_at f n es col i) → col ≡ n
number_is f n es col i h = eqb-true col n (numbered (col == n) (option_map f (slice_get es i)) h)

-- the number of a kind's id
abbrev number_in : ItemKind → Option ℕ
number_in (ItemKind.Ty (TypeKind.Resource r)) = Some r.collection
number_in (ItemKind.Ty (TypeKind.Func r)) = Some r.collection
number_in (ItemKind.Ty (TypeKind.Interface r)) = Some r.collection
number_in (ItemKind.Ty (TypeKind.World r)) = Some r.collection
number_in (ItemKind.Ty (TypeKind.Module r)) = Some r.collection
number_in (ItemKind.Ty (TypeKind.Value (ValueType.Primitive p))) = None
number_in (ItemKind.Ty (TypeKind.Value (ValueType.Borrow r))) = Some r.collection
number_in (ItemKind.Ty (TypeKind.Value (ValueType.Own r))) = Some r.collection
number_in (ItemKind.Ty (TypeKind.Value (ValueType.Defined r))) = Some r.collection
number_in (ItemKind.Func r) = Some r.collection
number_in (ItemKind.Instance r) = Some r.collection
number_in (ItemKind.Component r) = Some r.collection
number_in (ItemKind.Module r) = Some r.collection
number_in (ItemKind.Value (ValueType.Primitive p)) = None
number_in (ItemKind.Value (ValueType.Borrow r)) = Some r.collection
number_in (ItemKind.Value (ValueType.Own r)) = Some r.collection
number_in (ItemKind.Value (ValueType.Defined r)) = Some r.collection

abbrev leaf_of : ItemKind → Shape
leaf_of (ItemKind.Ty (TypeKind.Value (ValueType.Primitive p))) = type_of (primitive p)
leaf_of (ItemKind.Value (ValueType.Primitive p)) = primitive p
leaf_of _ = type_of (primitive PrimitiveType.U8)

abbrev Numbered : Collection → ItemKind → Option ℕ → Type 0
Numbered c k None = item_node c k ≡ Some (leaf_of k, [])
Numbered c k (Some n) = n ≡ c.number

stands_numbered : (c : Collection) (k : ItemKind) → Stands c k → Numbered c k (number_in k)
unfolding item_node
stands_numbered c (ItemKind.Ty (TypeKind.Resource r)) h = number_is resource_entry c.number c.resources r.collection r.index h
stands_numbered c (ItemKind.Ty (TypeKind.Func r)) h = number_is func_entry c.number c.func_types r.collection r.index (stands-labelled type_of _ h)
stands_numbered c (ItemKind.Ty (TypeKind.Interface r)) h = number_is interface_entry c.number c.interfaces r.collection r.index (stands-labelled type_of _ h)
stands_numbered c (ItemKind.Ty (TypeKind.World r)) h = number_is world_entry c.number c.worlds r.collection r.index (stands-labelled type_of _ h)
stands_numbered c (ItemKind.Ty (TypeKind.Module r)) h = number_is module_entry c.number c.modules r.collection r.index (stands-labelled type_of _ h)
stands_numbered c (ItemKind.Ty (TypeKind.Value (ValueType.Primitive p))) h = refl
stands_numbered c (ItemKind.Ty (TypeKind.Value (ValueType.Borrow r))) h = number_is resource_entry c.number c.resources r.collection r.index (stands-labelled _ _ (stands-labelled type_of _ h))
stands_numbered c (ItemKind.Ty (TypeKind.Value (ValueType.Own r))) h = number_is resource_entry c.number c.resources r.collection r.index (stands-labelled _ _ (stands-labelled type_of _ h))
stands_numbered c (ItemKind.Ty (TypeKind.Value (ValueType.Defined r))) h = number_is defined_entry c.number c.defined_types r.collection r.index (stands-labelled type_of _ h)
stands_numbered c (ItemKind.Func r) h = number_is func_entry c.number c.func_types r.collection r.index h
stands_numbered c (ItemKind.Instance r) h = number_is interface_entry c.number c.interfaces r.collection r.index h
stands_numbered c (ItemKind.Component r) h = number_is world_entry c.number c.worlds r.collection r.index h
stands_numbered c (ItemKind.Module r) h = number_is module_entry c.number c.modules r.collection r.index h
stands_numbered c (ItemKind.Value (ValueType.Primitive p)) h = refl
stands_numbered c (ItemKind.Value (ValueType.Borrow r)) h = number_is resource_entry c.number c.resources r.collection r.index (stands-labelled _ _ h)
stands_numbered c (ItemKind.Value (ValueType.Own r)) h = number_is resource_entry c.number c.resources r.collection r.index (stands-labelled _ _ h)
stands_numbered c (ItemKind.Value (ValueType.Defined r)) h = number_is defined_entry c.number c.defined_types r.collection r.index h

leaf_tree : (c d : Collection) → IsAcyclic c → IsAcyclic d → (k : ItemKind) (s : Shape) → item_node c k ≡ Some (s, []) → item_node d k ≡ Some (s, []) → tree_in c k ≡ tree_in d k
leaf_tree c d a b k s e f = tree_step c a k (s, []) e ∙ sym (tree_step d b k (s, []) f)

by_number : (c d : Collection) → IsAcyclic c → IsAcyclic d → (c.number ≡ d.number → ⊥) → (k : ItemKind) (o : Option ℕ) → Numbered c k o → Numbered d k o → tree_in c k ≡ tree_in d k
by_number c d ha hb apart k None e f = leaf_tree c d ha hb k (leaf_of k) e f
by_number c d ha hb apart k (Some n) e f = absurd (apart (sym e ∙ f))

-- what stands in both collections has one tree
pub same_anywhere : (c d : Collection) → IsAcyclic c → IsAcyclic d → OneOrApart c d → (k : ItemKind) → Stands c k → Stands d k → tree_in c k ≡ tree_in d k
same_anywhere c d ha hb (inl e) k s r = ap (λ x. tree_in x k) e
same_anywhere c d ha hb (inr apart) k s r = by_number c d ha hb apart k (number_in k) (stands_numbered c k s) (stands_numbered d k r)

-- a fit of the same pair by the other collections
pub fit_turned : (c d : Collection) → IsAcyclic c → IsAcyclic d → OneOrApart c d → (j k : ItemKind) → Stands c j → Stands d k → Stands d j → Stands c k → Fit c j d k → Fit d j c k
fit_turned c d ha hb o j k s r s' r' f =
    subst (λ t. Fits t (tree_in c k)) (same_anywhere c d ha hb o j s s') (subst (λ u. Fits (tree_in c j) u) (sym (same_anywhere c d ha hb o k r' r)) f)

pub remember_true : (c d : Collection) → IsAcyclic c → IsAcyclic d → OneOrApart c d → (old new : List (ItemKind × ItemKind)) (a b : ItemKind) → Stands c a → Stands d b → Fit c a d b → IsTrueOf c d old → OnlyMore old new a b → IsTrueOf c d new
remember_true c d ha hb o old new a b s r f t m = record {
  along = λ j k h p q. elim (m j k h) [
    | inl g ↦ t.along j k g p q
    | inr e ↦ subst (λ x. Fit c x d k) (sym e.0) (subst (λ x. Fit c a d x) (sym e.1) f)
  ];
  back = λ j k h p q. elim (m j k h) [
    | inl g ↦ t.back j k g p q
    | inr e ↦ subst (λ x. Fit d x c k) (sym e.0) (subst (λ x. Fit d a c x) (sym e.1)
        (fit_turned c d ha hb o a b s r (subst (Stands d) e.0 p) (subst (Stands c) e.1 q) f))
  ];
}

pub only_refl : (c d : Collection) (xs : List (ItemKind × ItemKind)) → OnlyTrue c d xs xs
only_refl c d xs j k h = inl h

pub only_trans : (c d : Collection) (xs ys zs : List (ItemKind × ItemKind)) → OnlyTrue c d xs ys → OnlyTrue c d ys zs → OnlyTrue c d xs zs
only_trans c d xs ys zs f g j k h = elim (g j k h) [ inl m ↦ f j k m | inr t ↦ inr t ]

pub only_more : (c d : Collection) (old new : List (ItemKind × ItemKind)) (a b : ItemKind) → IsTruePair c a d b → OnlyMore old new a b → OnlyTrue c d old new
only_more c d old new a b f m j k h = elim (m j k h) [
  | inl g ↦ inl g
  | inr e ↦ inr (inl (subst (λ x. IsTruePair c x d k) (sym e.0) (subst (λ x. IsTruePair c a d x) (sym e.1) f)))
]

pub true_turned : (c d : Collection) (ps : List (ItemKind × ItemKind)) → IsTrueOf c d ps → IsTrueOf d c ps
true_turned c d ps t = record { along = t.back; back = t.along }

pub only_turned : (c d : Collection) (old new : List (ItemKind × ItemKind)) → OnlyTrue c d old new → OnlyTrue d c old new
only_turned c d old new f j k m = elim (f j k m) [
  | inl h ↦ inl h
  | inr (inl h) ↦ inr (inr h)
  | inr (inr h) ↦ inr (inl h)
]

pub apart_turned : (c d : Collection) → OneOrApart c d → OneOrApart d c
apart_turned c d (inl e) = inl (sym e)
apart_turned c d (inr h) = inr (λ e. h (sym e))
