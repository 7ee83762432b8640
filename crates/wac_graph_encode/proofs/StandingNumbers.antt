-- Numbers of instances stay while more are written.
use Rattle.std.specs.Prelude.{not}
use Rattle.std.specs.List.{AllZip}
use Rattle.std.proofs.Common.{◌≡◌, ◌==◌, ℕ, ◌+◌, Bool, true, false, true≢false, cond, List, [], ◌∷◌, ◌++◌, length, inl, inr, refl, sym, ap, subst, ◌∙◌, arith}
use Rattle.wac_types_base.specs.Graph.{Among}
use Rattle.wac_types_base.specs.Entries.{Name}
use Rattle.wac_graph_bytes.specs.Wirings.{Source, Absent, Outer, Inst, Projection, Bundle, Definition, project, Uses, IsNamed}
use Rattle.wac_graph_bytes.proofs.Replace.{replace_alike, Uses-weaker}
use Rattle.wac_graph_core.proofs.Found.{eq_same}
use Rattle.wac_types_base.proofs.Replacing.{same_number}
use Rattle.wac_graph_encode.specs.Standing.{number_in, by_number}

pub later : (i j : ℕ) (is : List ℕ) → (i == j) ≡ false → Among j (i ∷ is) → Among j is
later i j is e (inl s) = absurd (true≢false (sym (eq_same i) ∙ ap (λ x. i == x) (sym s) ∙ e))
later i j is e (inr m) = m

one_on : (b : Bool) (x y : ℕ) → (b ≡ false → x ≡ y) → cond (not b) (1 + x) 0 ≡ cond (not b) (1 + y) 0
one_on true x y h = refl
one_on false x y h = ap (λ n. 1 + n) (h refl)

pub number_more : (order : List ℕ) (k j : ℕ) → Among j order → number_in (order ++ k ∷ []) j ≡ number_in order j
number_more [] k j m = absurd m
number_more (i ∷ is) k j m = one_on (i == j) (number_in (is ++ k ∷ []) j) (number_in is j) (λ e. number_more is k j (later i j is e m))

last_by : (b : Bool) (x : ℕ) (n : ℕ) → b ≡ false → x ≡ n → cond (not b) (1 + x) 0 ≡ 1 + n
last_by true x n e h = absurd (true≢false e)
last_by false x n e h = ap (λ y. 1 + y) h

apart : (i k : ℕ) (is : List ℕ) → (Among k (i ∷ is) → ⊥) → (i == k) ≡ false
apart i k is h = go (i == k) refl
  where
    go : (b : Bool) → (i == k) ≡ b → b ≡ false
    go true e = absurd (h (inl (sym (same_number i k e))))
    go false e = refl

pub number_last : (order : List ℕ) (k : ℕ) → (Among k order → ⊥) → number_in (order ++ k ∷ []) k ≡ length order
number_last [] k h = ap (λ b. cond (not b) (1 + 0) 0) (eq_same k)
number_last (i ∷ is) k h =
    let e = last_by (i == k) (number_in (is ++ k ∷ []) k) (length is) (apart i k is h) (number_last is k (λ m. h (inr m))) in
    omega (arith, e)

-- a source all of whose instances are written has the same numbers when more are
pub by_number_on : (order more : List ℕ) → ((j : ℕ) → Among j order → number_in more j ≡ number_in order j) → (s : Source ℕ) → Uses (λ i. Among i order) s → by_number more s ≡ by_number order s
by_number_on order more h s u = replace_alike Outer Outer (λ i. Inst (number_in more i)) (λ i. Inst (number_in order i)) (λ n. refl) s (Uses-weaker (λ i m. ap Inst (h i m)) s u)

-- ---- named sources

pub project_named : {I : Type 0} (s : Source I) (n : Name) → IsNamed s → project s n ≡ Projection s n
project_named Absent n h = absurd h
project_named (Outer m) n h = refl
project_named (Inst k) n h = refl
project_named (Projection s m) n h = refl
project_named (Bundle f) n h = absurd h
project_named (Definition t) n h = refl

pub named_number : (order : List ℕ) (s : Source ℕ) → IsNamed s → IsNamed (by_number order s)
named_number order Absent h = h
named_number order (Outer m) h = tt
named_number order (Inst k) h = tt
named_number order (Projection s m) h = subst IsNamed (sym (project_named (by_number order s) m (named_number order s h))) (named_number order s h)
named_number order (Bundle f) h = h
named_number order (Definition t) h = tt

-- ---- lists in turn

pub zip_map : {A B : Type 0} (R S : A → B → Type 0) → ((x : A) (y : B) → R x y → S x y) → (xs : List A) (ys : List B) → AllZip R xs ys → AllZip S xs ys
zip_map R S f [] [] h = tt
zip_map R S f [] (y ∷ ys) h = h
zip_map R S f (x ∷ xs) [] h = h
zip_map R S f (x ∷ xs) (y ∷ ys) h = (f x y h.0, zip_map R S f xs ys h.1)

pub zip_length : {A B : Type 0} (R : A → B → Type 0) (xs : List A) (ys : List B) → AllZip R xs ys → length xs ≡ length ys
zip_length R [] [] h = refl
zip_length R [] (y ∷ ys) h = absurd h
zip_length R (x ∷ xs) [] h = absurd h
zip_length R (x ∷ xs) (y ∷ ys) h = let e = zip_length R xs ys h.1 in omega (arith, e)
