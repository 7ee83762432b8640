-- The maps in the tree of an id are in order.
use Rattle.std.proofs.Common.{◌≡◌, List, [], ◌∷◌, refl, sym, ap, subst, ◌∙◌}
use Rattle.std.specs.Ordering.{ordering_reverse}
use Rattle.std.specs.declared.cmp.Ordering.{Ordering}
use Rattle.std.proofs.lemmas.Cmp.{nat_list_cmp_total}
use Rattle.wac_types_base.specs.declared.item.ItemKind.{ItemKind}
use Rattle.wac_types_base.specs.Record.{Collection}
use Rattle.wac_types_base.specs.Entries.{Name}
use Rattle.wac_types_base.specs.Graph.{Whole, Wholes, node, no_more, more, hole}
use Rattle.wac_types_base.specs.Collection.{Shape, primitive, tuple, list, fixed_size_list, option, result, variant, record_of, flags, enum, alias, stream, future, resource, resource_alias, func, interface, world, module_type, type_of, borrow_of, own_of}
use Rattle.wac_types_base.specs.Stated.{stated_of}
use Rattle.wac_types_base.specs.Tree.{Tree, Row, Fields, end, place, gap, no_fields, field, put_at, put, fields, past, first, put_core_at, put_core, ascending, name_cmp, pair_cmp_at, pair_cmp, tree_at, tree, trees}
use Rattle.wac_types_fit.specs.Ordered.{IsBelow, IsBelowKeys, AreAscending, IsBelowFields, InOrder, AllInOrder}
use Rattle.wac_types_fit.specs.Trees.{tree_in}
use Rattle.wac_types_fit.proofs.Looking.{same_name, cmp_refl}

abbrev Below : Name → Name → Type 0
Below n m = IsBelow name_cmp n m

pub never : (n m : Name) → Below n m → Below m n → ⊥
never n m a b = absurd (cc (a, nat_list_cmp_total.antisymm n m ∙ ap ordering_reverse b))

above_all : (n m : Name) (xs : Fields) → ((k : Name) → Below m k → Below n k) → IsBelowFields m xs → IsBelowFields n xs
above_all n m no_fields h a = tt
above_all n m (field k t xs) h a = (h k a.0, above_all n m xs h a.1)

Above-put_at : (o : Ordering) (k n m : Name) (t u : Tree) (xs rest : Fields) → Below k n → Below k m → IsBelowFields k xs → IsBelowFields k rest → IsBelowFields k (put_at o n t m u xs rest)
Above-put_at Ordering.Less k n m t u xs rest a b c d = (a, (b, c))
Above-put_at Ordering.Equal k n m t u xs rest a b c d = (a, c)
Above-put_at Ordering.Greater k n m t u xs rest a b c d = (b, d)

Above-put : (k n : Name) (t : Tree) (xs : Fields) → Below k n → IsBelowFields k xs → IsBelowFields k (put n t xs)
Above-put k n t no_fields a b = (a, tt)
Above-put k n t (field m u xs) a b = Above-put_at (name_cmp n m) k n m t u xs (put n t xs) a b.0 b.1 (Above-put k n t xs a b.1)

InOrder-put_at : (o : Ordering) (n m : Name) (t u : Tree) (xs rest : Fields) → name_cmp n m ≡ o → InOrder t → AllInOrder (field m u xs) → AllInOrder rest → (Below m n → IsBelowFields m rest) → AllInOrder (put_at o n t m u xs rest)
InOrder-put_at Ordering.Less n m t u xs rest e a b c d = ((e, above_all n m xs (λ k h. nat_list_cmp_total.trans n m k e h) b.0), a, b)
InOrder-put_at Ordering.Equal n m t u xs rest e a b c d = (above_all n m xs (λ k h. nat_list_cmp_total.congr n m k e ∙ h) b.0, a, b.2)
InOrder-put_at Ordering.Greater n m t u xs rest e a b c d = (d (nat_list_cmp_total.antisymm m n ∙ ap ordering_reverse e), b.1, c)

pub AllInOrder-put : (n : Name) (t : Tree) (xs : Fields) → InOrder t → AllInOrder xs → AllInOrder (put n t xs)
AllInOrder-put n t no_fields a b = (tt, a, tt)
AllInOrder-put n t (field m u xs) a b =
    InOrder-put_at (name_cmp n m) n m t u xs (put n t xs) refl a b (AllInOrder-put n t xs a b.2) (λ h. Above-put m n t xs h b.0)

-- ---- core items

-- an order on keys: equal ones are one, and it goes on
pub record IsKeyOrder {K : Type 0} (cmp : K → K → Ordering) : Type 0 where
  pub same : (n m : K) → cmp n m ≡ Ordering.Equal → n ≡ m
  pub itself : (n : K) → cmp n n ≡ Ordering.Equal
  pub turned : (n m : K) → cmp n m ≡ ordering_reverse (cmp m n)
  pub trans : (n m k : K) → IsBelow cmp n m → IsBelow cmp m k → IsBelow cmp n k

module _ {K V : Type 0} (cmp : K → K → Ordering) (o : IsKeyOrder cmp) where
  below_keys : (n m : K) (xs : List (K × V)) → IsBelow cmp n m → IsBelowKeys cmp m xs → IsBelowKeys cmp n xs
  below_keys n m [] b h = tt
  below_keys n m (x ∷ xs) b h = (o.trans n m x.0 b h.0, below_keys n m xs b h.1)

  below-put_at : (r : Ordering) (k : K) (e x : K × V) (xs rest : List (K × V)) → IsBelow cmp k e.0 → IsBelow cmp k x.0 → IsBelowKeys cmp k xs → IsBelowKeys cmp k rest → IsBelowKeys cmp k (put_core_at r e x xs rest)
  below-put_at Ordering.Less k e x xs rest a b c d = (a, (b, c))
  below-put_at Ordering.Equal k e x xs rest a b c d = (a, c)
  below-put_at Ordering.Greater k e x xs rest a b c d = (b, d)

  below-put : (k : K) (e : K × V) (xs : List (K × V)) → IsBelow cmp k e.0 → IsBelowKeys cmp k xs → IsBelowKeys cmp k (put_core cmp e xs)
  below-put k e [] a b = (a, tt)
  below-put k e (x ∷ xs) a b = below-put_at (cmp e.0 x.0) k e x xs (put_core cmp e xs) a b.0 b.1 (below-put k e xs a b.1)

  ascending-put_at : (r : Ordering) (e x : K × V) (xs rest : List (K × V)) → cmp e.0 x.0 ≡ r → AreAscending cmp (x ∷ xs) → AreAscending cmp rest → (IsBelow cmp x.0 e.0 → IsBelowKeys cmp x.0 rest) → AreAscending cmp (put_core_at r e x xs rest)
  ascending-put_at Ordering.Less e x xs rest r b c d = ((r, below_keys e.0 x.0 xs r b.0), b)
  ascending-put_at Ordering.Equal e x xs rest r b c d = (subst (λ k. IsBelowKeys cmp k xs) (sym (o.same e.0 x.0 r)) b.0, b.1)
  ascending-put_at Ordering.Greater e x xs rest r b c d = (d (o.turned x.0 e.0 ∙ ap ordering_reverse r), c)

  ascending-put : (e : K × V) (xs : List (K × V)) → AreAscending cmp xs → AreAscending cmp (put_core cmp e xs)
  ascending-put e [] a = (tt, tt)
  ascending-put e (x ∷ xs) a = ascending-put_at (cmp e.0 x.0) e x xs (put_core cmp e xs) refl a (ascending-put e xs a.1) (λ h. below-put x.0 e xs h a.0)

  pub ascending_in_order : (es : List (K × V)) → AreAscending cmp (ascending cmp es)
  ascending_in_order [] = tt
  ascending_in_order (e ∷ es) = ascending-put e (ascending cmp es) (ascending_in_order es)

pub name_order : IsKeyOrder name_cmp
name_order = record {
  same = same_name;
  itself = cmp_refl;
  turned = λ n m. nat_list_cmp_total.antisymm n m;
  trans = λ n m k a b. nat_list_cmp_total.trans n m k a b;
}

pairs_same : (a b c d : Name) (r : Ordering) → name_cmp a c ≡ r → pair_cmp_at r (name_cmp b d) ≡ Ordering.Equal → (a ≡ c) × (b ≡ d)
pairs_same a b c d Ordering.Less e h = absurd (cc h)
pairs_same a b c d Ordering.Equal e h = (same_name a c e, same_name b d h)
pairs_same a b c d Ordering.Greater e h = absurd (cc h)

pairs_turned : (r p : Ordering) → pair_cmp_at (ordering_reverse r) (ordering_reverse p) ≡ ordering_reverse (pair_cmp_at r p)
pairs_turned Ordering.Less p = refl
pairs_turned Ordering.Equal p = refl
pairs_turned Ordering.Greater p = refl

pairs_trans : (a b c d e f : Name) (r q : Ordering) → name_cmp a c ≡ r → name_cmp c e ≡ q → pair_cmp_at r (name_cmp b d) ≡ Ordering.Less → pair_cmp_at q (name_cmp d f) ≡ Ordering.Less → pair_cmp_at (name_cmp a e) (name_cmp b f) ≡ Ordering.Less
pairs_trans a b c d e f Ordering.Less Ordering.Less x y h k = rw (nat_list_cmp_total.trans a c e x y) refl
pairs_trans a b c d e f Ordering.Less Ordering.Equal x y h k =
    let is : c ≡ e = same_name c e y in
    let z : name_cmp a e ≡ Ordering.Less = ap (name_cmp a) (sym is) ∙ x in
    rw z refl
pairs_trans a b c d e f Ordering.Less Ordering.Greater x y h k = absurd (cc k)
pairs_trans a b c d e f Ordering.Equal Ordering.Less x y h k =
    let z : name_cmp a e ≡ Ordering.Less = nat_list_cmp_total.congr a c e x ∙ y in
    rw z refl
pairs_trans a b c d e f Ordering.Equal Ordering.Equal x y h k =
    let z : name_cmp a e ≡ Ordering.Equal = nat_list_cmp_total.congr a c e x ∙ y in
    rw z (nat_list_cmp_total.trans b d f h k)
pairs_trans a b c d e f Ordering.Equal Ordering.Greater x y h k = absurd (cc k)
pairs_trans a b c d e f Ordering.Greater q x y h k = absurd (cc h)

joined_pair : (a b : Name × Name) → (a.0 ≡ b.0) × (a.1 ≡ b.1) → a ≡ b
joined_pair a b h = λ i. (h.0 i, h.1 i)

pub pair_order : IsKeyOrder pair_cmp
pair_order = record {
  same = λ n m e. joined_pair n m (pairs_same n.0 n.1 m.0 m.1 (name_cmp n.0 m.0) refl e);
  itself = λ n. ap (λ r. pair_cmp_at r (name_cmp n.1 n.1)) (cmp_refl n.0) ∙ cmp_refl n.1;
  turned = λ n m. ap (λ r. pair_cmp_at r (name_cmp n.1 m.1)) (nat_list_cmp_total.antisymm n.0 m.0)
      ∙ ap (pair_cmp_at (ordering_reverse (name_cmp m.0 n.0))) (nat_list_cmp_total.antisymm n.1 m.1)
      ∙ pairs_turned (name_cmp m.0 n.0) (name_cmp m.1 n.1);
  trans = λ n m k a b. pairs_trans n.0 n.1 m.0 m.1 k.0 k.1 (name_cmp n.0 m.0) (name_cmp m.0 k.0) refl refl a b;
}

-- ---- trees

-- each tree in a row
abbrev RowInOrder : Row → Type 0
RowInOrder end = Unit {0}
RowInOrder (gap r) = RowInOrder r
RowInOrder (place t r) = InOrder t × RowInOrder r

fields_in_order : (ns : List Name) (r : Row) → RowInOrder r → AllInOrder (fields ns r)
fields_in_order [] r h = tt
fields_in_order (n ∷ ns) end h = tt
fields_in_order (n ∷ ns) (gap r) h = fields_in_order ns r h
fields_in_order (n ∷ ns) (place t r) h = AllInOrder-put n t (fields ns r) h.0 (fields_in_order ns r h.1)

past_in_order : {A : Type 0} (xs : List A) (r : Row) → RowInOrder r → RowInOrder (past xs r)
past_in_order [] r h = h
past_in_order (x ∷ xs) end h = tt
past_in_order (x ∷ xs) (gap r) h = past_in_order xs r h
past_in_order (x ∷ xs) (place t r) h = past_in_order xs r h.1

first_in_order : (s : Shape) (r : Row) → RowInOrder r → InOrder (first s r)
first_in_order s end h = tt
first_in_order s (gap r) h = tt
first_in_order s (place t r) h = h.0

tree_at_in_order : (s : Shape) (r : Row) → RowInOrder r → InOrder (tree_at s r)
tree_at_in_order alias r h = first_in_order alias r h
tree_at_in_order (resource_alias n) r h = first_in_order (resource_alias n) r h
tree_at_in_order (interface i us ns) r h = fields_in_order ns (past us r) (past_in_order us r h)
tree_at_in_order (world i us is es) r h = (fields_in_order is (past us r) (past_in_order us r h), fields_in_order es (past is (past us r)) (past_in_order is (past us r) (past_in_order us r h)))
tree_at_in_order (module_type m) r h = (ascending_in_order pair_cmp pair_order m.imports, ascending_in_order name_cmp name_order m.exports)
tree_at_in_order (type_of s) r h = tree_at_in_order s r h
tree_at_in_order (borrow_of s) r h = tt
tree_at_in_order (own_of s) r h = tt
tree_at_in_order (primitive p) r h = tt
tree_at_in_order tuple r h = tt
tree_at_in_order list r h = tt
tree_at_in_order (fixed_size_list n) r h = tt
tree_at_in_order option r h = tt
tree_at_in_order result r h = tt
tree_at_in_order (variant ns) r h = tt
tree_at_in_order (record_of ns) r h = tt
tree_at_in_order (flags ns) r h = tt
tree_at_in_order (enum ns) r h = tt
tree_at_in_order stream r h = tt
tree_at_in_order future r h = tt
tree_at_in_order (resource n) r h = tt
tree_at_in_order (func ns a) r h = tt

mutual
  pub tree_in_order : (w : Whole Shape) → InOrder (tree w)
  tree_in_order (node s ts) = tree_at_in_order s (trees ts) (trees_in_order ts)

  trees_in_order : (ws : Wholes Shape) → RowInOrder (trees ws)
  trees_in_order no_more = tt
  trees_in_order (more w ws) = (tree_in_order w, trees_in_order ws)
  trees_in_order (hole ws) = trees_in_order ws

-- the tree of an id is in order
pub named_in_order : (c : Collection) (k : ItemKind) → InOrder (tree_in c k)
unfolding tree_in
named_in_order c k = tree_in_order (stated_of c k)
