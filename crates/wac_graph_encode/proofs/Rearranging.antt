-- Exports in another order.
use Rattle.std.specs.Prelude.{option_to_list, if◌then◌else◌, not, ◌==◌, ◌||◌, is_some}
use Rattle.std.specs.Cmp.Lexicographic.{pointwise}
use Rattle.std.proofs.Common.{◌≡◌, ◌∙◌, ℕ, zero, suc, Bool, true, false, List, [], ◌∷◌, ◌++◌, length, Option, Some, None, slice_get, refl, sym, ap, subst, inl, inr, append_assoc}
use Rattle.std.specs.List.{AllZip}
use Rattle.std.proofs.lemmas.List.{append-nil, map-append}
use Rattle.std.proofs.lemmas.Slice.Eq.{bytes_eq-Decides}
use Rattle.std.proofs.lemmas.Option.{slice_get_within}
use Rattle.wac_types_base.specs.Graph.{Among}
use Rattle.wac_types_base.specs.Entries.{Name, names_of, value_at, has_name, AreDistinct}
use Rattle.wac_types_base.proofs.Lists.{not_among, value_none}
use Rattle.wac_types_base.proofs.Looked.{among-get}
use Rattle.wac_types_fit.proofs.Items.{value_at-among, among-value_at}
use Rattle.wac_graph_bytes.specs.declared.entry.Entry.{Entry as CodeEntry}
use Rattle.wac_graph_scopes.specs.declared.imports.SortIndex.{SortIndex}
use Rattle.wac_graph_scopes.specs.Orders.{IsOrder}
use Rattle.wac_graph_scopes.specs.Imports.{names_at}
use Rattle.wac_graph_scopes.proofs.WritingLaws.{among_has}
use Rattle.wac_types_parts.proofs.Lists.{distinct-append}
use Rattle.wac_graph_scopes.proofs.ImportLaws.{named_place, one_place}
use Rattle.wac_graph_encode.specs.Standing.{AreFirst, Rearranges}
use Rattle.wac_graph_encode.specs.Writing.{IsExportOf, AddsExport, AddsExports, other_exports, exports_at}

-- ---- at places

place_of : (x : Name × ℕ) (xs : List (Name × ℕ)) → Among x xs → (k : ℕ) × (slice_get xs k ≡ Some x)
place_of x [] m = absurd m
place_of x (y ∷ xs) (inl e) = (0, ap Some (sym e))
place_of x (y ∷ xs) (inr m) = let p = place_of x xs m in (suc p.0, p.1)

names_in_order : (xs : List (Name × ℕ)) (ks : List ℕ) → names_of (exports_at xs ks) ≡ names_at (names_of xs) ks
names_in_order xs [] = refl
names_in_order xs (k ∷ ks) = one xs k (exports_at xs ks) ∙ ap (λ l. option_to_list (slice_get (names_of xs) k) ++ l) (names_in_order xs ks)
  where
    one : (ys : List (Name × ℕ)) (j : ℕ) (zs : List (Name × ℕ)) → names_of (option_to_list (slice_get ys j) ++ zs) ≡ option_to_list (slice_get (names_of ys) j) ++ names_of zs
    one [] j zs = refl
    one (y ∷ ys) zero zs = refl
    one (y ∷ ys) (suc j) zs = one ys j zs

distinct_in_order : (ns : List Name) (ks : List ℕ) → AreDistinct ns → AreDistinct ks → AreDistinct (names_at ns ks)
distinct_in_order ns [] d e = tt
distinct_in_order ns (k ∷ ks) d e = go (distinct_in_order ns ks d e.1) (slice_get ns k) refl
  where
    go : AreDistinct (names_at ns ks) → (o : Option Name) → slice_get ns k ≡ o → AreDistinct (option_to_list o ++ names_at ns ks)
    go rest None q = rest
    go rest (Some n) q = (
      λ m. let p = named_place ns ks n m in let same = one_place ns p.0 k n d p.2 q in e.0 (subst (λ (j : ℕ). Among j ks) same p.1),
      rest,
    )

-- what stands at one of these places, and back
there_in_order : (xs : List (Name × ℕ)) (ks : List ℕ) (k : ℕ) (x : Name × ℕ) → Among k ks → slice_get xs k ≡ Some x → Among x (exports_at xs ks)
there_in_order xs [] k x m at = absurd m
there_in_order xs (j ∷ ks) k x (inl same) at = subst (λ (o : Option (Name × ℕ)). Among x (option_to_list o ++ exports_at xs ks)) (sym (ap (slice_get xs) (sym same) ∙ at)) (inl refl)
there_in_order xs (j ∷ ks) k x (inr m) at = go (slice_get xs j) (there_in_order xs ks k x m at)
  where
    go : (o : Option (Name × ℕ)) → Among x (exports_at xs ks) → Among x (option_to_list o ++ exports_at xs ks)
    go None a = a
    go (Some y) a = inr a

back_in_order : (xs : List (Name × ℕ)) (ks : List ℕ) (x : Name × ℕ) → Among x (exports_at xs ks) → Among x xs
back_in_order xs [] x m = absurd m
back_in_order xs (j ∷ ks) x m = go (back_in_order xs ks x) (slice_get xs j) refl m
  where
    go : (Among x (exports_at xs ks) → Among x xs) → (o : Option (Name × ℕ)) → slice_get xs j ≡ o → Among x (option_to_list o ++ exports_at xs ks) → Among x xs
    go rest None q a = rest a
    go rest (Some y) q (inl e) = subst (λ z. Among z xs) (sym e) (among-get xs j y q)
    go rest (Some y) q (inr a) = rest a

pub rearranged : (xs : List (Name × ℕ)) (order : List ℕ) → AreDistinct (names_of xs) → IsOrder (length xs) [] order → Rearranges xs (exports_at xs order)
rearranged xs order d is = record { distinct = apart; kept = λ n. kept n (value_at xs n) refl (value_at (exports_at xs order) n) refl }
  where
    apart : AreDistinct (names_of (exports_at xs order))
    apart = subst AreDistinct (sym (names_in_order xs order)) (distinct_in_order (names_of xs) order d is.distinct)

    kept : (n : Name) (o : Option ℕ) → value_at xs n ≡ o → (p : Option ℕ) → value_at (exports_at xs order) n ≡ p → value_at (exports_at xs order) n ≡ value_at xs n
    kept n (Some k) e p q =
        let place = place_of (n, k) xs (value_at-among xs n k e) in
        let there = there_in_order xs order place.0 (n, k) (is.all place.0 (slice_get_within xs place.0 (n, k) place.1)) place.1 in
        among-value_at (exports_at xs order) n k apart there ∙ sym e
    kept n None e None q = q ∙ sym e
    kept n None e (Some k) q =
        let there = back_in_order xs order (n, k) (value_at-among (exports_at xs order) n k q) in
        absurd (cc (sym e ∙ among-value_at xs n k d there))

-- ---- behind some that come first

-- a name stands where something is found under it
pub named_there : {V : Type 0} (es : List (Name × V)) (n : Name) → has_name (names_of es) n ≡ is_some (value_at es n)
named_there [] n = refl
named_there (e ∷ es) n = by (pointwise ◌==◌ n e.0) (named_there es n)
  where
    by : (b : Bool) → has_name (names_of es) n ≡ is_some (value_at es n) → (b || has_name (names_of es) n) ≡ is_some (if b then Some e.1 else value_at es n)
    by true h = refl
    by false h = h

module _ (given : List (Name × ℕ)) where
  -- those whose names are not among them
  other_named : (xs : List (Name × ℕ)) (n : Name) → Among n (names_of (other_exports given xs)) → Among n (names_of xs) × (Among n (names_of given) → ⊥)
  other_named [] n m = absurd m
  other_named (x ∷ xs) n m = by (other_named xs n) (has_name (names_of given) x.0) refl m
    where
      by : (Among n (names_of (other_exports given xs)) → Among n (names_of xs) × (Among n (names_of given) → ⊥)) → (b : Bool) → has_name (names_of given) x.0 ≡ b
          → Among n (names_of (if not b then x ∷ other_exports given xs else other_exports given xs)) → Among n (names_of (x ∷ xs)) × (Among n (names_of given) → ⊥)
      by rest true q k = let r = rest k in (inr r.0, r.1)
      by rest false q (inl e) = (inl e, λ a. not_among (names_of given) x.0 q (subst (λ (y : Name). Among y (names_of given)) e a))
      by rest false q (inr k) = let r = rest k in (inr r.0, r.1)

  others_distinct : (xs : List (Name × ℕ)) → AreDistinct (names_of xs) → AreDistinct (names_of (other_exports given xs))
  others_distinct [] d = tt
  others_distinct (x ∷ xs) d = by (has_name (names_of given) x.0) (others_distinct xs d.1)
    where
      by : (b : Bool) → AreDistinct (names_of (other_exports given xs)) → AreDistinct (names_of (if not b then x ∷ other_exports given xs else other_exports given xs))
      by true r = r
      by false r = (λ m. d.0 (other_named xs x.0 m).0, r)

  -- what is under a name that is not among them
  other_value : (xs : List (Name × ℕ)) (n : Name) → (Among n (names_of given) → ⊥) → value_at (other_exports given xs) n ≡ value_at xs n
  other_value [] n far = refl
  other_value (x ∷ xs) n far = by (has_name (names_of given) x.0) refl (other_value xs n far)
    where
      by : (b : Bool) → has_name (names_of given) x.0 ≡ b → value_at (other_exports given xs) n ≡ value_at xs n
          → value_at (if not b then x ∷ other_exports given xs else other_exports given xs) n ≡ (if pointwise ◌==◌ n x.0 then Some x.1 else value_at xs n)
      by false q r = ap (λ (o : Option ℕ). if pointwise ◌==◌ n x.0 then Some x.1 else o) r
      by true q r = apart (pointwise ◌==◌ n x.0) refl
        where
          apart : (t : Bool) → pointwise ◌==◌ n x.0 ≡ t → value_at (other_exports given xs) n ≡ (if t then Some x.1 else value_at xs n)
          apart false e = r
          apart true e = absurd (far (subst (λ (y : Name). Among y (names_of given)) (sym ((bytes_eq-Decides n x.0).0 e)) (among_has (names_of given) x.0 q)))

  first_value : (xs : List (Name × ℕ)) (n : Name) (k : ℕ) → value_at given n ≡ Some k → value_at (given ++ xs) n ≡ Some k
  first_value xs n k e = front given e
    where
      front : (gs : List (Name × ℕ)) → value_at gs n ≡ Some k → value_at (gs ++ xs) n ≡ Some k
      front [] q = absurd (cc q)
      front (g ∷ gs) q = by (pointwise ◌==◌ n g.0) q (front gs)
        where
          by : (t : Bool) → (if t then Some g.1 else value_at gs n) ≡ Some k → (value_at gs n ≡ Some k → value_at (gs ++ xs) n ≡ Some k) → (if t then Some g.1 else value_at (gs ++ xs) n) ≡ Some k
          by true a r = a
          by false a r = r a

  behind_value : (xs : List (Name × ℕ)) (n : Name) → value_at given n ≡ None → value_at (given ++ xs) n ≡ value_at xs n
  behind_value xs n e = front given e
    where
      front : (gs : List (Name × ℕ)) → value_at gs n ≡ None → value_at (gs ++ xs) n ≡ value_at xs n
      front [] q = refl
      front (g ∷ gs) q = by (pointwise ◌==◌ n g.0) q (front gs)
        where
          by : (t : Bool) → (if t then Some g.1 else value_at gs n) ≡ None → (value_at gs n ≡ None → value_at (gs ++ xs) n ≡ value_at xs n) → (if t then Some g.1 else value_at (gs ++ xs) n) ≡ value_at xs n
          by true a r = absurd (cc a)
          by false a r = r a

  pub first_rearranged : (xs ys : List (Name × ℕ)) → AreFirst given xs → Rearranges xs ys → Rearranges xs (given ++ other_exports given ys)
  first_rearranged xs ys first r = record {
    distinct = subst AreDistinct (sym (map-append (λ (x : Name × ℕ). x.0) given (other_exports given ys)))
        (distinct-append (names_of given) (names_of (other_exports given ys)) first.once (others_distinct ys r.distinct) (λ n a b. (other_named ys n b).1 a));
    kept = λ n. kept n (value_at given n) refl;
  }
    where
      kept : (n : Name) (o : Option ℕ) → value_at given n ≡ o → value_at (given ++ other_exports given ys) n ≡ value_at xs n
      kept n (Some k) e = first_value (other_exports given ys) n k e ∙ sym (first.there (n, k) (value_at-among given n k e))
      kept n None e =
          behind_value (other_exports given ys) n e
          ∙ other_value ys n (λ m. value_none given n e m)
          ∙ r.kept n

-- ---- one after another

pub others_next : (given xs ys : List (Name × ℕ)) → other_exports given (xs ++ ys) ≡ other_exports given xs ++ other_exports given ys
others_next given [] ys = refl
others_next given (x ∷ xs) ys = by (has_name (names_of given) x.0) (others_next given xs ys)
  where
    by : (b : Bool) → other_exports given (xs ++ ys) ≡ other_exports given xs ++ other_exports given ys
        → (if not b then x ∷ other_exports given (xs ++ ys) else other_exports given (xs ++ ys)) ≡ (if not b then x ∷ other_exports given xs else other_exports given xs) ++ other_exports given ys
    by true r = r
    by false r = ap (λ l. x ∷ l) r

pub exports_next : (xs : List (Name × ℕ)) (ks : List ℕ) (k : ℕ) → exports_at xs (ks ++ k ∷ []) ≡ exports_at xs ks ++ exports_at xs (k ∷ [])
exports_next xs [] k = refl
exports_next xs (j ∷ ks) k = ap (λ l. option_to_list (slice_get xs j) ++ l) (exports_next xs ks k) ∙ sym (append_assoc (option_to_list (slice_get xs j)) (exports_at xs ks) (exports_at xs (k ∷ [])))

pub zips_append : {A B : Type 0} (R : A → B → Type 0) (xs us : List A) (ys vs : List B) → AllZip R xs ys → AllZip R us vs → AllZip R (xs ++ us) (ys ++ vs)
zips_append R [] us [] vs a b = b
zips_append R [] us (y ∷ ys) vs a b = absurd a
zips_append R (x ∷ xs) us [] vs a b = absurd a
zips_append R (x ∷ xs) us (y ∷ ys) vs a b = (a.0, zips_append R xs us ys vs a.1 b)

pub adds_none : (nodes : List (ℕ × SortIndex)) (old : List CodeEntry) → AddsExports nodes [] old old
adds_none nodes old = record { entries = []; added = sym (append-nil old); are = tt }

pub adds_more : (nodes : List (ℕ × SortIndex)) (xs ys : List (Name × ℕ)) (old mid new : List CodeEntry) → AddsExports nodes xs old mid → AddsExports nodes ys mid new → AddsExports nodes (xs ++ ys) old new
adds_more nodes xs ys old mid new a b = record {
  entries = a.entries ++ b.entries;
  added = b.added ∙ ap (λ l. l ++ b.entries) a.added ∙ append_assoc old a.entries b.entries;
  are = zips_append (IsExportOf nodes) xs ys a.entries b.entries a.are b.are;
}

pub adds_one : (nodes : List (ℕ × SortIndex)) (x : Name × ℕ) (old new : List CodeEntry) → AddsExport nodes x old new → AddsExports nodes (x ∷ []) old new
adds_one nodes x old new a = record { entries = a.entry ∷ []; added = a.added; are = (a.is, tt) }
