-- What is under a name in a map of trees, and types as items.
use Rattle.std.proofs.Common.{◌≡◌, Bool, true, false, cond, List, [], ◌∷◌, Option, Some, None, refl, sym, ap, ◌∙◌}
use Rattle.std.specs.Ordering.{nat_cmp}
use Rattle.std.proofs.Common.{is_eq}
use Rattle.std.specs.Cmp.Lexicographic.{slice_cmp}
use Rattle.std.specs.declared.cmp.Ordering.{Ordering}
use Rattle.std.proofs.lemmas.Map.Text.{is_eq-slice_cmp}
use Rattle.std.proofs.lemmas.Slice.Eq.{bytes_eq-Decides}
use Rattle.wac_types_base.specs.Entries.{Name, value_at}
use Rattle.wac_types_base.specs.Collection.{resource}
use Rattle.wac_types_base.specs.Tree.{Tree, rigid, Fields, no_fields, field, put, put_at}
use Rattle.wac_graph_bytes.specs.Typing.{get, get_at, fields_in, item_of, type_in, same_name}

-- the type that a type's item is, is that type
pub type_in_item : (t : Tree) → type_in (item_of t) ≡ Some t
type_in_item (rigid (resource n) r) = refl
type_in_item (rigid _ r) = refl
type_in_item _ = refl

found_is : (o : Ordering) (t : Tree) (rest : Option Tree) → get_at o t rest ≡ cond (is_eq o) (Some t) rest
found_is Ordering.Less t rest = refl
found_is Ordering.Equal t rest = refl
found_is Ordering.Greater t rest = refl

here_or : (k n : Name) (t : Tree) (rest : Option Tree) → get_at (slice_cmp nat_cmp k n) t rest ≡ cond (same_name k n) (Some t) rest
here_or k n t rest = found_is (slice_cmp nat_cmp k n) t rest ∙ ap (λ (b : Bool). cond b (Some t) rest) (is_eq-slice_cmp k n)

true_false : true ≡ false → ⊥
true_false e = cc

-- two names in another order
swap : (a b : Bool) (x y r : Option Tree) → (a ≡ true → b ≡ true → ⊥) → cond a x (cond b y r) ≡ cond b y (cond a x r)
swap true true x y r h = absurd (h refl refl)
swap true false x y r h = refl
swap false true x y r h = refl
swap false false x y r h = refl

same_twice : (b : Bool) (x y r : Option Tree) → cond b x r ≡ cond b x (cond b y r)
same_twice true x y r = refl
same_twice false x y r = refl

-- a name that was put, or another
pub get_put : (n k : Name) (t : Tree) (xs : Fields) → get k (put n t xs) ≡ cond (same_name k n) (Some t) (get k xs)
get_put n k t no_fields = here_or k n t None
get_put n k t (field m u ys) = go (slice_cmp nat_cmp n m) refl (get_put n k t ys)
  where
    equal_is : slice_cmp nat_cmp n m ≡ Ordering.Equal → n ≡ m
    equal_is e = (bytes_eq-Decides n m).0 (sym (is_eq-slice_cmp n m) ∙ ap is_eq e)

    not_equal : slice_cmp nat_cmp n m ≡ Ordering.Greater → same_name k m ≡ true → same_name k n ≡ true → ⊥
    not_equal e a b =
        let same : n ≡ m = sym ((bytes_eq-Decides k n).0 b) ∙ (bytes_eq-Decides k m).0 a in
        true_false (sym ((bytes_eq-Decides n m).1 same) ∙ sym (is_eq-slice_cmp n m) ∙ ap is_eq e)

    go : (o : Ordering) → slice_cmp nat_cmp n m ≡ o → get k (put n t ys) ≡ cond (same_name k n) (Some t) (get k ys) → get k (put_at o n t m u ys (put n t ys)) ≡ cond (same_name k n) (Some t) (get k (field m u ys))
    go Ordering.Less e h = here_or k n t (get k (field m u ys))
    go Ordering.Equal e h =
        here_or k n t (get k ys) ∙ same_twice (same_name k n) (Some t) (Some u) (get k ys)
        ∙ ap (λ (r : Option Tree). cond (same_name k n) (Some t) r) (ap (λ (x : Name). cond (same_name k x) (Some u) (get k ys)) (equal_is e) ∙ sym (here_or k m u (get k ys)))
    go Ordering.Greater e h =
        here_or k m u (get k (put n t ys)) ∙ ap (λ (r : Option Tree). cond (same_name k m) (Some u) r) h
        ∙ swap (same_name k m) (same_name k n) (Some u) (Some t) (get k ys) (not_equal e)
        ∙ ap (λ (r : Option Tree). cond (same_name k n) (Some t) r) (sym (here_or k m u (get k ys)))

-- what is under a name is what stands first under it in the list
pub get_in : (n : Name) (xs : List (Name × Tree)) → get n (fields_in xs) ≡ value_at xs n
get_in n [] = refl
get_in n (x ∷ xs) = get_put x.0 n x.1 (fields_in xs) ∙ ap (λ (r : Option Tree). cond (same_name n x.0) (Some x.1) r) (get_in n xs)
