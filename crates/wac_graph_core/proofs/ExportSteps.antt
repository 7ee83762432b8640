-- Exports that are added, taken away and told.
use Rattle.std.proofs.Common.{◌≡◌, ◌≢◌, ◌⊎◌, ℕ, zero, suc, ◌+◌, ◌<◌, ◌≤◌, Bool, true, false, ◌==◌, List, [], ◌∷◌, ◌++◌, Option, Some, None, IsSome, cond, length, get_or, slice_get, refl, sym, ap, subst, ◌∙◌, inl, inr, arith}
use Rattle.std.specs.Option.{option_map}
use Rattle.std.specs.List.{swap_remove, sum_by}
use Rattle.std.specs.List.Sorted.{IsPermutation}
use Rattle.std.proofs.lemmas.List.Recursion.{is_sum_by}
use Rattle.std.proofs.lemmas.List.Sorted.{IsPermutation-swap_remove, IsPermutation-sym, All-permutation, sum_by-IsPermutation}
use Rattle.std.specs.Cmp.Lexicographic.{pointwise, same_text}
use Rattle.std.specs.FinMap as map
use Rattle.wac_types_base.specs.Entries.{Name, value_at, names_of, AreDistinct}
use Rattle.wac_types_base.specs.Graph.{Among}
use Rattle.wac_types_base.proofs.Adding.{All-among}
use Rattle.wac_types_base.proofs.Copying.{Among-All}
use Rattle.wac_types_base.proofs.Lists.{last_among}
use Rattle.wac_graph_core.specs.Nodes.{NodeData}
use Rattle.wac_graph_core.specs.Graph.{Graph, node_at, NodeStands, AreExports, IsGraph}
use Rattle.wac_graph_core.specs.Exporting.{place_of}
use Rattle.wac_graph_core.proofs.NodeMap.{get-insert_same}
use Rattle.wac_graph_core.proofs.Found.{same_name, Among-front}
use Rattle.wac_graph_core.proofs.NodeSteps.{new_at, each_node, AreOnce-below, IsBelow-written, IsAbove-written, some_there}
use Rattle.wac_graph_core.proofs.GraphSteps.{AreWired-by, NodeStands-kept, same_places, same_stated}
use Rattle.wac_types_fit.proofs.Items.{Among-last}

-- ---- names

pub not_among : (xs : List (Name × ℕ)) (n : Name) → value_at xs n ≡ None → Among n (names_of xs) → ⊥
not_among [] n h m = absurd m
not_among (e ∷ xs) n h m = by_test (pointwise ◌==◌ n e.0) (not_among xs n) refl h m
  where
    by_test : (b : Bool) → (value_at xs n ≡ None → Among n (names_of xs) → ⊥) → pointwise ◌==◌ n e.0 ≡ b → cond b (Some e.1) (value_at xs n) ≡ None → Among n (names_of (e ∷ xs)) → ⊥
    by_test true ih is h m = absurd (cc (h))
    by_test false ih is h (inl same) = absurd (cc (is, ap (pointwise ◌==◌ n) (sym same), same_name n))
    by_test false ih is h (inr m) = ih h m

pub among_name : (xs : List (Name × ℕ)) (n : Name) (k : ℕ) → Among (n, k) xs → Among n (names_of xs)
among_name [] n k m = absurd m
among_name (e ∷ xs) n k (inl same) = inl (ap (λ (e : Name × ℕ). e.0) same)
among_name (e ∷ xs) n k (inr m) = inr (among_name xs n k m)

name_last : (xs : List (Name × ℕ)) (n m : Name) (k : ℕ) → Among m (names_of (xs ++ (n, k) ∷ [])) → Among m (names_of xs) ⊎ (m ≡ n)
name_last [] n m k (inl same) = inr same
name_last [] n m k (inr none) = absurd none
name_last (e ∷ xs) n m k (inl same) = inl (inl same)
name_last (e ∷ xs) n m k (inr rest) = elim (name_last xs n m k rest) [ inl old ↦ inl (inr old) | inr same ↦ inr same ]

pub distinct_last : (xs : List (Name × ℕ)) (n : Name) (k : ℕ) → AreDistinct (names_of xs) → (Among n (names_of xs) → ⊥) → AreDistinct (names_of (xs ++ (n, k) ∷ []))
distinct_last [] n k d none = (λ m. absurd m, tt)
distinct_last (e ∷ xs) n k d none =
    (λ m. elim (name_last xs n e.0 k m) [ inl old ↦ d.0 old | inr same ↦ none (inl (sym same)) ], distinct_last xs n k d.1 (λ m. none (inr m)))

-- ---- another order

pub Among-permuted : {X : Type 0} (xs ys : List X) (y : X) → IsPermutation xs ys → Among y ys → Among y xs
Among-permuted xs ys y moved m = All-among (λ z. Among z xs) ys y (All-permutation (λ z. Among z xs) xs ys moved (Among-All (λ z. Among z xs) xs (λ z at. at))) m

abbrev one_if : Bool → ℕ
one_if b = cond b 1 0

abbrev counted : Name → Name × ℕ → ℕ
counted n e = one_if (pointwise ◌==◌ n e.0)

abbrev count : Name → List (Name × ℕ) → ℕ
count n [] = 0
count n (e ∷ xs) = counted n e + count n xs

is_count : (n : Name) (xs : List (Name × ℕ)) → count n xs ≡ sum_by (counted n) xs
is_count n xs = is_sum_by (count n) (counted n) refl (λ x xs. refl) xs

count_none : (xs : List (Name × ℕ)) (n : Name) → (Among n (names_of xs) → ⊥) → count n xs ≡ 0
count_none [] n none = refl
count_none (e ∷ xs) n none =
    let ih : count n xs ≡ 0 = count_none xs n (λ m. none (inr m)) in
    let here : counted n e ≡ 0 = by_test (pointwise ◌==◌ n e.0) refl in
    omega (arith, ih, here)
  where
    by_test : (b : Bool) → pointwise ◌==◌ n e.0 ≡ b → one_if b ≡ 0
    by_test true is = absurd (none (inl (same_text n e.0 (sym is))))
    by_test false is = refl

distinct_count : (xs : List (Name × ℕ)) (n : Name) → AreDistinct (names_of xs) → count n xs ≤ 1
distinct_count [] n d = omega arith
distinct_count (e ∷ xs) n d = by_test (pointwise ◌==◌ n e.0) (distinct_count xs n d.1) refl
  where
    by_test : (b : Bool) → count n xs ≤ 1 → pointwise ◌==◌ n e.0 ≡ b → counted n e + count n xs ≤ 1
    by_test true rest is =
        let none : count n xs ≡ 0 = count_none xs n (λ m. d.0 (subst (λ n. Among n (names_of xs)) (same_text n e.0 (sym is)) m)) in
        let here : counted n e ≡ 1 = ap one_if is in
        omega (arith, none, here)
    by_test false rest is =
        let here : counted n e ≡ 0 = ap one_if is in
        omega (arith, rest, here)

count_some : (xs : List (Name × ℕ)) (n : Name) → Among n (names_of xs) → 1 ≤ count n xs
count_some [] n m = absurd m
count_some (e ∷ xs) n (inl same) =
    let here : counted n e ≡ 1 = ap one_if (ap (pointwise ◌==◌ n) (sym same) ∙ same_name n) in
    omega (arith, here)
count_some (e ∷ xs) n (inr m) =
    let rest : 1 ≤ count n xs = count_some xs n m in
    omega (arith, rest)

count_distinct : (xs : List (Name × ℕ)) → ((n : Name) → count n xs ≤ 1) → AreDistinct (names_of xs)
count_distinct [] h = tt
count_distinct (e ∷ xs) h = (
  λ m.
      let one : counted e.0 e ≡ 1 = ap one_if (same_name e.0) in
      let more : 1 ≤ count e.0 xs = count_some xs e.0 m in
      let all : counted e.0 e + count e.0 xs ≤ 1 = h e.0 in
      absurd (omega (arith, one, more, all)),
  count_distinct xs (λ n.
      let all : counted n e + count n xs ≤ 1 = h n in
      omega (arith, all)),
)

pub distinct_permuted : (xs ys : List (Name × ℕ)) → IsPermutation xs ys → AreDistinct (names_of xs) → AreDistinct (names_of ys)
distinct_permuted xs ys moved d =
    count_distinct ys (λ n.
    let same : count n ys ≡ count n xs = is_count n ys ∙ sum_by-IsPermutation (counted n) xs ys moved ∙ sym (is_count n xs) in
    let few : count n xs ≤ 1 = distinct_count xs n d in
    omega (arith, same, few))

-- ---- swap_remove

within : {X : Type 0} (xs : List X) (i : ℕ) (x : X) → slice_get xs i ≡ Some x → (i < length xs) × (x ≡ get_or xs i x)
within [] i x at = absurd (cc (at))
within (y ∷ xs) zero x at =
    let same : y ≡ x = cc in
    (omega arith, sym same)
within (y ∷ xs) (suc i) x at = let r = within xs i x at in (omega (arith, r.0), r.1)

-- the item that is read there
pub got : {X : Type 0} (xs : List X) (i : ℕ) (x d : X) → slice_get xs i ≡ Some x → d ≡ get_or xs i d → d ≡ x
got [] i x d at is = absurd (cc (at))
got (y ∷ xs) zero x d at is =
    let same : y ≡ x = cc in
    is ∙ same
got (y ∷ xs) (suc i) x d at is = got xs i x d at is

moved_front : {X : Type 0} (xs : List X) (i : ℕ) (x : X) → slice_get xs i ≡ Some x → IsPermutation xs (x ∷ swap_remove xs i x)
moved_front xs i x at = let r = within xs i x at in IsPermutation-swap_remove xs i x r.0 r.1

pub swap_sub : {X : Type 0} (xs : List X) (i : ℕ) (x y : X) → slice_get xs i ≡ Some x → Among y (swap_remove xs i x) → Among y xs
swap_sub xs i x y at m = Among-permuted xs (x ∷ swap_remove xs i x) y (moved_front xs i x at) (inr m)

pub swap_kept : {X : Type 0} (xs : List X) (i : ℕ) (x y : X) → slice_get xs i ≡ Some x → y ≢ x → Among y xs → Among y (swap_remove xs i x)
swap_kept xs i x y at ne m =
    let back = IsPermutation-sym xs (x ∷ swap_remove xs i x) (moved_front xs i x at) in
    elim (Among-permuted (x ∷ swap_remove xs i x) xs y back m) [ inl same ↦ absurd (ne same) | inr rest ↦ rest ]

pub swap_distinct : (xs : List (Name × ℕ)) (i : ℕ) (x : Name × ℕ) → slice_get xs i ≡ Some x → AreDistinct (names_of xs) → AreDistinct (names_of (swap_remove xs i x))
swap_distinct xs i x at d = (distinct_permuted xs (x ∷ swap_remove xs i x) (moved_front xs i x at) d).1

-- ---- places

pub place_found : (xs : List (Name × ℕ)) (n : Name) (i : ℕ) → place_of xs n ≡ Some i → (k : ℕ) × (slice_get xs i ≡ Some (n, k))
place_found [] n i h = absurd (cc (h))
place_found (e ∷ xs) n i h = by_test (pointwise ◌==◌ n e.0) (place_found xs n) refl h
  where
    later : (o : Option ℕ) → ((j : ℕ) → place_of xs n ≡ Some j → (k : ℕ) × (slice_get xs j ≡ Some (n, k))) → place_of xs n ≡ o → option_map suc o ≡ Some i → (k : ℕ) × (slice_get (e ∷ xs) i ≡ Some (n, k))
    later None ih is h = absurd (cc (h))
    later (Some j) ih is h =
        let r = ih j is in
        let next : suc j ≡ i = cc in
        (r.0, subst (λ i. slice_get (e ∷ xs) i ≡ Some (n, r.0)) next r.1)

    by_test : (b : Bool) → ((j : ℕ) → place_of xs n ≡ Some j → (k : ℕ) × (slice_get xs j ≡ Some (n, k))) → pointwise ◌==◌ n e.0 ≡ b → cond b (Some 0) (option_map suc (place_of xs n)) ≡ Some i → (k : ℕ) × (slice_get (e ∷ xs) i ≡ Some (n, k))
    by_test true ih is h =
        let first : 0 ≡ i = cc in
        let named : e.0 ≡ n = sym (same_text n e.0 (sym is)) in
        (e.1, subst (λ i. slice_get (e ∷ xs) i ≡ Some (n, e.1)) first (ap (λ n. Some (n, e.1)) named))
    by_test false ih is h = later (place_of xs n) ih refl h

pub place_none : (xs : List (Name × ℕ)) (n : Name) (k : ℕ) → place_of xs n ≡ None → Among (n, k) xs → ⊥
place_none [] n k h m = absurd m
place_none (e ∷ xs) n k h m = by_test (pointwise ◌==◌ n e.0) (place_none xs n k) refl h m
  where
    later : (o : Option ℕ) → place_of xs n ≡ o → option_map suc o ≡ None → place_of xs n ≡ None
    later None is h = is
    later (Some j) is h = absurd (cc (h))

    by_test : (b : Bool) → (place_of xs n ≡ None → Among (n, k) xs → ⊥) → pointwise ◌==◌ n e.0 ≡ b → cond b (Some 0) (option_map suc (place_of xs n)) ≡ None → Among (n, k) (e ∷ xs) → ⊥
    by_test true ih is h m = absurd (cc (h))
    by_test false ih is h (inl same) = absurd (cc (is, ap (λ (e : Name × ℕ). pointwise ◌==◌ n e.0) (sym same), same_name n))
    by_test false ih is h (inr m) = ih (later (place_of xs n) refl h) m

-- a name stands for one node
pub one_named : (xs : List (Name × ℕ)) (n : Name) (j k : ℕ) → AreDistinct (names_of xs) → Among (n, j) xs → Among (n, k) xs → j ≡ k
one_named [] n j k d a b = absurd a
one_named (e ∷ xs) n j k d (inl a) (inl b) = ap (λ (e : Name × ℕ). e.1) a ∙ sym (ap (λ (e : Name × ℕ). e.1) b)
one_named (e ∷ xs) n j k d (inl a) (inr b) = absurd (d.0 (subst (λ n. Among n (names_of xs)) (ap (λ (e : Name × ℕ). e.0) a) (among_name xs n k b)))
one_named (e ∷ xs) n j k d (inr a) (inl b) = absurd (d.0 (subst (λ n. Among n (names_of xs)) (ap (λ (e : Name × ℕ). e.0) b) (among_name xs n j a)))
one_named (e ∷ xs) n j k d (inr a) (inr b) = one_named xs n j k d.1 a b

-- ---- graphs

-- a node gets other names
pub IsGraph-written : (g : Graph) (k : ℕ) (n o : NodeData) (xs : List (Name × ℕ)) → node_at g k ≡ Some o → o.role ≡ n.role → o.of ≡ n.of → o.item_kind ≡ n.item_kind → AreExports (map.insert g.nodes k n) xs → IsGraph g
    → IsGraph (record g { nodes = map.insert g.nodes k n; exports = xs })
IsGraph-written g k n o xs at role of item exports is =
    record {
      nodes = each_node (NodeStands g.types g.places) g.nodes k n (NodeStands-kept g.types g.types g.places g.places o n (λ j s. s) (λ id e there. refl) role of item (is.nodes k o at)) is.nodes;
      once = AreOnce-below g.nodes (map.insert g.nodes k n) (IsBelow-written g.nodes k n o at role of item) is.once;
      acyclic = is.acyclic;
      keyed = is.keyed;
      wired = AreWired-by g (record g { nodes = map.insert g.nodes k n; exports = xs }) (IsAbove-written g.nodes k n o at role of item) (same_places g.nodes g.places) (same_stated g.types) is
          (λ e at. inl at) (λ i j m at. at)
          (λ j x here role'. inl (IsBelow-written g.nodes k n o at role of item j x here));
      exported = exports;
      packages = is.packages;
    }

-- a node gets a name
pub IsGraph-named : (g : Graph) (k : ℕ) (o : NodeData) (name : Name) → node_at g k ≡ Some o → IsGraph g → IsGraph (record g { nodes = map.insert g.nodes k (record o { name = Some name }) })
IsGraph-named g k o name at is =
    IsGraph-written g k (record o { name = Some name }) o g.exports at refl refl refl
    (record {
      distinct = is.exported.distinct;
      stand = λ n j m. some_there g.nodes _ j (IsAbove-written g.nodes k (record o { name = Some name }) o at refl refl refl) (is.exported.stand n j m);
      named = λ j x n here told. elim (new_at g.nodes k (record o { name = Some name }) j x here) [
        | inl p ↦ is.exported.named j o n (ap (node_at g) p.0 ∙ at) (ap (λ (y : NodeData). y.export) p.1 ∙ told)
        | inr q ↦ is.exported.named j x n q.1 told
      ];
    })
    is

-- a node is exported
pub IsGraph-exported : (g : Graph) (k : ℕ) (o : NodeData) (name : Name) → node_at g k ≡ Some o → value_at g.exports name ≡ None → IsGraph g
    → IsGraph (record g { nodes = map.insert g.nodes k (record o { export = Some name }); exports = g.exports ++ (name, k) ∷ [] })
IsGraph-exported g k o name at none is =
    IsGraph-written g k (record o { export = Some name }) o (g.exports ++ (name, k) ∷ []) at refl refl refl
    (record {
      distinct = distinct_last g.exports name k is.exported.distinct (not_among g.exports name none);
      stand = λ n j m. elim (Among-last g.exports (name, k) (n, j) m) [
        | inl old ↦ some_there g.nodes _ j (IsAbove-written g.nodes k (record o { export = Some name }) o at refl refl refl) (is.exported.stand n j old)
        | inr same ↦ subst IsSome (sym (ap (map.get (map.insert g.nodes k (record o { export = Some name }))) (ap (λ (e : Name × ℕ). e.1) same) ∙ get-insert_same g.nodes k (record o { export = Some name }))) refl
      ];
      named = λ j x n here told. elim (new_at g.nodes k (record o { export = Some name }) j x here) [
        | inl p ↦ told_new j x n p.0 (ap (λ (y : NodeData). y.export) p.1 ∙ told)
        | inr q ↦ Among-front g.exports (name, k) (n, j) (is.exported.named j x n q.1 told)
      ];
    })
    is
  where
    told_new : (j : ℕ) (x : NodeData) (n : Name) → j ≡ k → Some name ≡ Some n → Among (n, j) (g.exports ++ (name, k) ∷ [])
    told_new j x n here told =
        let same : name ≡ n = cc in
        subst (λ n. Among (n, j) (g.exports ++ (name, k) ∷ [])) same (subst (λ j. Among (name, j) (g.exports ++ (name, k) ∷ [])) (sym here) (last_among g.exports (name, k)))

-- an export is taken away
pub IsGraph-unexported : (g : Graph) (k : ℕ) (o : NodeData) (name : Name) (i : ℕ) → node_at g k ≡ Some o → slice_get g.exports i ≡ Some (name, k) → IsGraph g
    → IsGraph (record g { nodes = map.insert g.nodes k (record o { export = None }); exports = swap_remove g.exports i (name, k) })
IsGraph-unexported g k o name i at place is =
    IsGraph-written g k (record o { export = None }) o (swap_remove g.exports i (name, k)) at refl refl refl
    (record {
      distinct = swap_distinct g.exports i (name, k) place is.exported.distinct;
      stand = λ n j m. some_there g.nodes _ j (IsAbove-written g.nodes k (record o { export = None }) o at refl refl refl) (is.exported.stand n j (swap_sub g.exports i (name, k) (n, j) place m));
      named = λ j x n here told. elim (new_at g.nodes k (record o { export = None }) j x here) [
        | inl p ↦ absurd (untold x n (ap (λ (y : NodeData). y.export) p.1 ∙ told))
        | inr q ↦ swap_kept g.exports i (name, k) (n, j) place (λ same. q.0 (ap (λ (e : Name × ℕ). e.1) same)) (is.exported.named j x n q.1 told)
      ];
    })
    is
  where
    untold : (x : NodeData) (n : Name) → None ≡ Some n → ⊥
    untold x n h = absurd (cc (h))
