-- How many aliases and arguments lead to a node, one behind another: more than to any node that it needs.
use Rattle.std.specs.Prelude.{max}
use Rattle.std.proofs.Common.{◌≡◌, ◌==◌, ◌&&◌, ◌<◌, ◌≤◌, ◌+◌, ◌-◌, ℕ, zero, suc, Bool, true, false, if◌then◌else◌, List, [], ◌∷◌, length, inl, inr, refl, sym, ap, subst, ◌∙◌, arith}
use Rattle.std.proofs.lemmas.Bool.{and_parts}
use Rattle.wac_types_base.specs.Graph.{Among}
use Rattle.wac_types_base.proofs.Replacing.{same_number}
use Rattle.wac_graph_core.specs.declared.edge.Edge.{Edge}
use Rattle.wac_graph_core.specs.declared.edge.Follow.{Follow}
use Rattle.wac_graph_core.specs.Edges.{IsAcyclic, IsRank, follows}
use Rattle.wac_graph_core.proofs.Found.{eq_same}

-- ---- a rank that is no greater than the number of edges

-- how many edges lead to what has this rank at most
ends_within : (ℕ → ℕ) → List Edge → ℕ → ℕ
ends_within rank [] n = 0
ends_within rank (e ∷ es) n = (1 - (rank e.to - n)) + ends_within rank es n

ends_most : (rank : ℕ → ℕ) (es : List Edge) (n : ℕ) → ends_within rank es n ≤ length es
unfolding ends_within
ends_most rank [] n = omega arith
ends_most rank (e ∷ es) n = let rest = ends_most rank es n in omega (arith, rest)

ends_rise : (rank : ℕ → ℕ) (es : List Edge) (m n : ℕ) → m ≤ n → ends_within rank es m ≤ ends_within rank es n
unfolding ends_within
ends_rise rank [] m n h = omega arith
ends_rise rank (e ∷ es) m n h = let rest = ends_rise rank es m n h in omega (arith, rest, h)

ends_more : (rank : ℕ → ℕ) (es : List Edge) (e : Edge) (m : ℕ) → Among e es → m < rank e.to → ends_within rank es m < ends_within rank es (rank e.to)
unfolding ends_within
ends_more rank [] e m there h = absurd there
ends_more rank (x ∷ es) e m (inl s) h =
    let own : rank x.to ≡ rank e.to = ap (λ (y : Edge). rank y.to) (sym s) in
    let rest = ends_rise rank es m (rank e.to) (omega (arith, h)) in
    omega (arith, own, rest, h)
ends_more rank (x ∷ es) e m (inr there) h =
    let rest = ends_more rank es e m there h in
    omega (arith, rest, h)

low_rank : (es : List Edge) (rank : ℕ → ℕ) → IsRank es rank → IsRank es (λ k. ends_within rank es (rank k))
low_rank es rank is = record { rises = λ e there flows. ends_more rank es e (rank e.from) there (is.rises e there flows) }

-- ---- depths

-- whether an alias or an argument leads to the node
abbrev leads : Edge → ℕ → Bool
leads e k = follows Follow.Flow e.label && (e.to == k)

-- one more than the greatest of what leads to the node, by these numbers
above : (ℕ → ℕ) → List Edge → ℕ → ℕ
above d [] k = 0
above d (e ∷ es) k = max (if leads e k then suc (d e.from) else 0) (above d es k)

depth_within : List Edge → ℕ → ℕ → ℕ
depth_within es zero k = 0
depth_within es (suc n) k = above (depth_within es n) es k

pub depth_of : List Edge → ℕ → ℕ
depth_of es k = depth_within es (length es) k

above_same : (d f : ℕ → ℕ) (es : List Edge) (k : ℕ) → ((e : Edge) → Among e es → leads e k ≡ true → d e.from ≡ f e.from) → above d es k ≡ above f es k
unfolding above
above_same d f [] k h = refl
above_same d f (e ∷ es) k h = (λ i. max (first (leads e k) refl i) (above_same d f es k (λ x m. h x (inr m)) i))
  where
    first : (b : Bool) → leads e k ≡ b → (if b then suc (d e.from) else 0) ≡ (if b then suc (f e.from) else 0)
    first true q = ap suc (h e (inl refl) q)
    first false q = refl

above_none : (d : ℕ → ℕ) (es : List Edge) (k : ℕ) → ((e : Edge) → Among e es → leads e k ≡ true → ⊥) → above d es k ≡ 0
unfolding above
above_none d [] k h = refl
above_none d (e ∷ es) k h = (λ i. max (first (leads e k) refl i) (above_none d es k (λ x m. h x (inr m)) i))
  where
    first : (b : Bool) → leads e k ≡ b → (if b then suc (d e.from) else 0) ≡ 0
    first true q = absurd (h e (inl refl) q)
    first false q = refl

above_least : (d : ℕ → ℕ) (es : List Edge) (k : ℕ) (e : Edge) → Among e es → leads e k ≡ true → suc (d e.from) ≤ above d es k
unfolding above
above_least d [] k e there q = absurd there
above_least d (x ∷ es) k e (inl s) q =
    let yes : leads x k ≡ true = ap (λ (y : Edge). leads y k) (sym s) ∙ q in
    let own : (if leads x k then suc (d x.from) else 0) ≡ suc (d e.from) = ap (λ b. if b then suc (d x.from) else 0) yes ∙ ap (λ (y : Edge). suc (d y.from)) (sym s) in
    omega (arith, own)
above_least d (x ∷ es) k e (inr there) q = let rest = above_least d es k e there q in omega (arith, rest)

module _ (es : List Edge) (rank : ℕ → ℕ) (is : IsRank es rank) where
  lower : (e : Edge) (k : ℕ) → Among e es → leads e k ≡ true → rank e.from < rank k
  lower e k there q = let b = and_parts (follows Follow.Flow e.label) (e.to == k) q in subst (λ j. rank e.from < rank j) (same_number e.to k b.1) (is.rises e there b.0)

  -- over as many edges as a node's rank all is counted
  settled : (n k : ℕ) → rank k ≤ n → depth_within es n k ≡ depth_within es (suc n) k
  unfolding depth_within
  settled zero k low = sym (above_none (depth_within es 0) es k (λ e there q. let l = lower e k there q in absurd (omega (arith, l, low))))
  settled (suc n) k low = above_same (depth_within es n) (depth_within es (suc n)) es k (λ e there q. let l = lower e k there q in settled n e.from (omega (arith, l, low)))

rise : (es : List Edge) (rank : ℕ → ℕ) (is : IsRank es rank) (e : Edge) → Among e es → follows Follow.Flow e.label ≡ true → depth_of es e.from < depth_of es e.to
unfolding depth_of depth_within
rise es rank is e there flows =
    let settle = settled es (λ k. ends_within rank es (rank k)) (low_rank es rank is) (length es) e.to (ends_most rank es (rank e.to)) in
    let leads_there : leads e e.to ≡ true = (λ j. flows j && eq_same e.to j) in
    let least = above_least (depth_within es (length es)) es e.to e there leads_there in
    omega (arith, settle, least)

pub depths_rise : (es : List Edge) → IsAcyclic es → IsRank es (depth_of es)
depths_rise es a = record { rises = rise es a.0 a.1 }

-- ---- of several nodes

-- one more than the greatest of them
pub above_all : (ℕ → ℕ) → List ℕ → ℕ
above_all d [] = 0
above_all d (k ∷ ks) = max (suc (d k)) (above_all d ks)

pub all_below : (d : ℕ → ℕ) (ks : List ℕ) (k : ℕ) → Among k ks → d k < above_all d ks
unfolding above_all
all_below d [] k there = absurd there
all_below d (j ∷ ks) k (inl s) = let own : d j ≡ d k = ap d (sym s) in omega (arith, own)
all_below d (j ∷ ks) k (inr there) = let rest = all_below d ks k there in omega (arith, rest)

pub above_most : (d : ℕ → ℕ) (ks : List ℕ) (m : ℕ) → ((k : ℕ) → Among k ks → d k < m) → above_all d ks ≤ m
unfolding above_all
above_most d [] m h = omega arith
above_most d (k ∷ ks) m h = let first = h k (inl refl) in let rest = above_most d ks m (λ j there. h j (inr there)) in omega (arith, first, rest)
