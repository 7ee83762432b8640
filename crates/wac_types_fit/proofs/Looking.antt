-- What a map in a tree has under a name.
use Rattle.std.proofs.Common.{◌≡◌, Option, Some, None, refl, sym, ap, subst, ◌∙◌}
use Rattle.std.specs.Ordering.{ordering_reverse}
use Rattle.std.specs.FinMap.{slice_cmp-IsAntisymmetric, nat_cmp-IsAntisymmetric}
use Rattle.std.specs.declared.cmp.Ordering.{Ordering}
use Rattle.std.proofs.lemmas.Cmp.{nat_list_cmp_total}
use Rattle.wac_types_base.specs.Entries.{Name}
use Rattle.wac_types_base.specs.Tree.{Tree, Fields, no_fields, field, put, put_at, name_cmp}
use Rattle.wac_types_base.specs.Fits.{HasField, at_first, at_later, Fits, FieldsFit, none_asked, one_asked}
use Rattle.wac_types_fit.specs.Ordered.{IsBelow, IsBelowFields, InOrder, AllInOrder}
use Rattle.wac_types_fit.specs.Lookups.{found, lookup}

pub same_name : (n m : Name) → name_cmp n m ≡ Ordering.Equal → n ≡ m
same_name n m e = slice_cmp-IsAntisymmetric nat_cmp-IsAntisymmetric n m e

itself : (o : Ordering) → o ≡ ordering_reverse o → o ≡ Ordering.Equal
itself Ordering.Less e = absurd (cc e)
itself Ordering.Equal e = refl
itself Ordering.Greater e = absurd (cc e)

pub cmp_refl : (n : Name) → name_cmp n n ≡ Ordering.Equal
cmp_refl n = itself (name_cmp n n) (nat_list_cmp_total.antisymm n n)

found_is : (o : Ordering) (n m : Name) (t u : Tree) (p : Option Tree) (xs : Fields) → name_cmp n m ≡ o → (p ≡ Some u → HasField n u xs) → found o t p ≡ Some u → HasField n u (field m t xs)
found_is Ordering.Less n m t u p xs c h e = at_later (h e)
found_is Ordering.Equal n m t u p xs c h e = subst (λ k. HasField k u (field m t xs)) (sym (same_name n m c)) (subst (λ v. HasField m v (field m t xs)) (cc e) at_first)
found_is Ordering.Greater n m t u p xs c h e = at_later (h e)

-- what a look-up finds is there
pub looked-has : (n : Name) (u : Tree) (xs : Fields) → lookup n xs ≡ Some u → HasField n u xs
looked-has n u no_fields e = absurd (cc e)
looked-has n u (field m t xs) e = found_is (name_cmp n m) n m t u (lookup n xs) xs refl (looked-has n u xs) e

pub above : (n m : Name) (t : Tree) (xs : Fields) → IsBelowFields n xs → HasField m t xs → IsBelow name_cmp n m
above n m t (field k u xs) h at_first = h.0
above n m t (field k u xs) h (at_later q) = above n m t xs h.1 q
above n m t no_fields h q = elim q [ ]

-- in a map in order, what is there is found
pub has-looked : (n : Name) (u : Tree) (xs : Fields) → AllInOrder xs → HasField n u xs → lookup n xs ≡ Some u
has-looked n u (field m t xs) h at_first = rw (cmp_refl m) refl
has-looked n u (field m t xs) h (at_later q) =
    let b = above m n u xs h.0 q in
    let e : name_cmp n m ≡ Ordering.Greater = nat_list_cmp_total.antisymm n m ∙ ap ordering_reverse b in
    rw e (has-looked n u xs h.2 q)
has-looked n u no_fields h q = elim q [ ]

pub in_order-at : (n : Name) (u : Tree) (xs : Fields) → AllInOrder xs → HasField n u xs → InOrder u
in_order-at n u (field m t xs) h at_first = h.1
in_order-at n u (field m t xs) h (at_later q) = in_order-at n u xs h.2 q
in_order-at n u no_fields h q = elim q [ ]

-- what is asked is given
pub given : (xs ys : Fields) (n : Name) (u : Tree) → FieldsFit xs ys → HasField n u ys → (t : Tree) × HasField n t xs × Fits t u
given xs (field m v ys) n u (one_asked {t = t} h f r) at_first = (t, h, f)
given xs (field m v ys) n u (one_asked h f r) (at_later k) = given xs ys n u r k
given xs no_fields n u none_asked k = elim k [ ]

pub all_given : (xs ys : Fields) → ((n : Name) (u : Tree) → HasField n u ys → (t : Tree) × HasField n t xs × Fits t u) → FieldsFit xs ys
all_given xs no_fields h = none_asked
all_given xs (field n u ys) h = let g = h n u at_first in one_asked g.1 g.2 (all_given xs ys (λ m v k. h m v (at_later k)))

found_put : (o : Ordering) (n m : Name) (t u : Tree) (xs rest : Fields) → name_cmp n m ≡ o → lookup n rest ≡ Some t → lookup n (put_at o n t m u xs rest) ≡ Some t
found_put Ordering.Less n m t u xs rest e h = rw (cmp_refl n) refl
found_put Ordering.Equal n m t u xs rest e h = rw (cmp_refl n) refl
found_put Ordering.Greater n m t u xs rest e h = rw e h

-- what was put is found
pub looked-put : (n : Name) (t : Tree) (xs : Fields) → lookup n (put n t xs) ≡ Some t
looked-put n t no_fields = rw (cmp_refl n) refl
looked-put n t (field m u xs) = found_put (name_cmp n m) n m t u xs (put n t xs) refl (looked-put n t xs)

skipped : (o : Ordering) (t : Tree) (p : Option Tree) → (o ≡ Ordering.Equal → ⊥) → found o t p ≡ p
skipped Ordering.Less t p h = refl
skipped Ordering.Equal t p h = absurd (h refl)
skipped Ordering.Greater t p h = refl

other_put : (o : Ordering) (k n m : Name) (t u : Tree) (xs rest : Fields) → (k ≡ n → ⊥) → name_cmp n m ≡ o → lookup k rest ≡ lookup k xs → lookup k (put_at o n t m u xs rest) ≡ lookup k (field m u xs)
other_put Ordering.Less k n m t u xs rest a e h = skipped (name_cmp k n) t (lookup k (field m u xs)) (λ q. a (same_name k n q))
other_put Ordering.Equal k n m t u xs rest a e h =
    let is : n ≡ m = same_name n m e in
    skipped (name_cmp k n) t (lookup k xs) (λ q. a (same_name k n q)) ∙ sym (skipped (name_cmp k m) u (lookup k xs) (λ q. a (same_name k m q ∙ sym is)))
other_put Ordering.Greater k n m t u xs rest a e h = ap (found (name_cmp k m) u) h

-- and nothing else changes
pub looked-other : (k n : Name) (t : Tree) (xs : Fields) → (k ≡ n → ⊥) → lookup k (put n t xs) ≡ lookup k xs
looked-other k n t no_fields a = skipped (name_cmp k n) t None (λ q. a (same_name k n q))
looked-other k n t (field m u xs) a = other_put (name_cmp n m) k n m t u xs (put n t xs) a refl (looked-other k n t xs a)
