-- What searches for edges find, and what stays among a list.
use Rattle.std.proofs.Common.{◌≡◌, ◌≢◌, ℕ, Bool, true, false, ◌&&◌, ◌==◌, List, [], ◌∷◌, ◌++◌, Option, Some, None, cond, filter, refl, sym, ap, ◌∙◌, inl, inr, arith}
use Rattle.std.proofs.lemmas.Bool.{and_parts}
use Rattle.std.specs.Cmp.Derive.{both_true}
use Rattle.std.proofs.lemmas.Bool.Decides.{nat_tests}
use Rattle.std.specs.Cmp.Lexicographic.{pointwise, same_text}
use Rattle.wac_types_base.specs.Entries.{Name}
use Rattle.wac_types_base.specs.Graph.{Among}
use Rattle.wac_graph_core.specs.declared.edge.Edge.{Edge}
use Rattle.wac_graph_core.specs.declared.edge.Label.{Label}
use Rattle.wac_graph_core.specs.Edges.{argument_edge, HasAlias, HasArgument}
use Rattle.wac_graph_core.specs.Walking.{is_argument, first_argument, first_source, source_by}
use Rattle.wac_types_base.proofs.Replacing.{same_number}
use Rattle.wac_types_fit.proofs.ValueTrees.{not_both}

pub eq_same : (a : ℕ) → (a == a) ≡ true
eq_same a = grind (arith, nat_tests)

pub eq_false : (a b : ℕ) → a ≢ b → (a == b) ≡ false
eq_false a b ne = grind (arith, nat_tests)

pub same_name : (m : Name) → pointwise ◌==◌ m m ≡ true
same_name [] = refl
same_name (x ∷ m) = ap (λ b. b && pointwise ◌==◌ m m) (eq_same x) ∙ same_name m

abbrev pub edge : ℕ → ℕ → Label → Edge
edge a b l = record { from = a; to = b; label = l }

pub same_edge : (e : Edge) (a b : ℕ) (l : Label) → e.from ≡ a → e.to ≡ b → e.label ≡ l → edge a b l ≡ e
same_edge e a b l p q r = sym (ap (λ x. edge x e.to e.label) p ∙ ap (λ y. edge a y e.label) q ∙ ap (edge a b) r)

argument_label : (l : Label) (n : Name) → is_argument l n ≡ true → l ≡ Label.Argument n
argument_label (Label.Alias m) n h = absurd (cc)
argument_label (Label.Argument m) n h = ap Label.Argument (same_text m n (sym h))
argument_label Label.Dependency n h = absurd (cc)

-- ---- arguments

argument_here : (a i : ℕ) (n : Name) (e : Edge) → argument_edge a i n ≡ e → ((e.to == i) && is_argument e.label n) ≡ true
argument_here a i n e same = ap (λ (d : Edge). (d.to == i) && is_argument d.label n) (sym same) ∙ both_true (eq_same i) (same_name n)

argument_at : (b : Bool) (e : Edge) (es : List Edge) (i a : ℕ) (n : Name) → ((e.to == i) && is_argument e.label n) ≡ b
    → (first_argument es i n ≡ Some a → HasArgument es i n a) → cond b (Some e.from) (first_argument es i n) ≡ Some a → HasArgument (e ∷ es) i n a
argument_at true e es i a n is ih h =
    let t = and_parts (e.to == i) (is_argument e.label n) is in
    let from : e.from ≡ a = cc in
    inl (same_edge e a i (Label.Argument n) from (same_number e.to i t.0) (argument_label e.label n t.1))
argument_at false e es i a n is ih h = inr (ih h)

pub argument_found : (es : List Edge) (i a : ℕ) (n : Name) → first_argument es i n ≡ Some a → HasArgument es i n a
argument_found [] i a n h = absurd (cc)
argument_found (e ∷ es) i a n h = argument_at ((e.to == i) && is_argument e.label n) e es i a n refl (argument_found es i a n) h

no_argument_at : (b : Bool) (e : Edge) (es : List Edge) (i a : ℕ) (n : Name) → ((e.to == i) && is_argument e.label n) ≡ b
    → (first_argument es i n ≡ None → HasArgument es i n a → ⊥) → cond b (Some e.from) (first_argument es i n) ≡ None → HasArgument (e ∷ es) i n a → ⊥
no_argument_at true e es i a n is ih h m = absurd (cc)
no_argument_at false e es i a n is ih h (inl same) = not_both _ is (argument_here a i n e same)
no_argument_at false e es i a n is ih h (inr m) = ih h m

pub no_argument : (es : List Edge) (i a : ℕ) (n : Name) → first_argument es i n ≡ None → HasArgument es i n a → ⊥
no_argument [] i a n h m = absurd m
no_argument (e ∷ es) i a n h m = no_argument_at ((e.to == i) && is_argument e.label n) e es i a n refl (no_argument es i a n) h m

-- ---- lists with one more, and parts of lists

pub Among-front : {X : Type 0} (xs : List X) (x y : X) → Among y xs → Among y (xs ++ x ∷ [])
Among-front [] x y m = absurd m
Among-front (z ∷ xs) x y (inl e) = inl e
Among-front (z ∷ xs) x y (inr m) = inr (Among-front xs x y m)

passes_at : {X : Type 0} (p : X → Bool) (b : Bool) (x d : X) (xs : List X) → p x ≡ b → (Among d xs → Among d (filter p xs)) → p d ≡ true → Among d (x ∷ xs) → Among d (cond b (x ∷ filter p xs) (filter p xs))
passes_at p true x d xs is ih h (inl s) = inl s
passes_at p true x d xs is ih h (inr m) = inr (ih m)
passes_at p false x d xs is ih h (inl s) = absurd (not_both (p x) is (ap p (sym s) ∙ h))
passes_at p false x d xs is ih h (inr m) = ih m

pub passes : {X : Type 0} (p : X → Bool) (xs : List X) (d : X) → p d ≡ true → Among d xs → Among d (filter p xs)
passes p [] d h m = absurd m
passes p (x ∷ xs) d h m = passes_at p (p x) x d xs refl (passes p xs d h) h m

-- ---- sources

abbrev first_or : Option (ℕ × Name) → ℕ → ℕ
first_or None d = d
first_or (Some p) d = p.0

abbrev second_or : Option (ℕ × Name) → Name → Name
second_or None d = d
second_or (Some p) d = p.1

source_at : (b : Bool) (l : Label) (e : Edge) (es : List Edge) (k i : ℕ) (n : Name) → (e.to == k) ≡ b → e.label ≡ l
    → (first_source es k ≡ Some (i, n) → HasAlias es i n k) → source_by b l e.from (first_source es k) ≡ Some (i, n) → HasAlias (e ∷ es) i n k
source_at true (Label.Alias m) e es k i n is label ih h =
    let pair : Some (e.from, m) ≡ Some (i, n) = h in
    let from : e.from ≡ i = ap (λ o. first_or o i) pair in
    let name : m ≡ n = ap (λ o. second_or o n) pair in
    inl (same_edge e i k (Label.Alias n) from (same_number e.to k is) (label ∙ ap Label.Alias name))
source_at true (Label.Argument m) e es k i n is label ih h = inr (ih h)
source_at true Label.Dependency e es k i n is label ih h = inr (ih h)
source_at false l e es k i n is label ih h = inr (ih h)

pub source_found : (es : List Edge) (k i : ℕ) (n : Name) → first_source es k ≡ Some (i, n) → HasAlias es i n k
source_found [] k i n h = absurd (cc)
source_found (e ∷ es) k i n h = source_at (e.to == k) e.label e es k i n refl refl (source_found es k i n) h

no_source_at : (b : Bool) (l : Label) (e : Edge) (es : List Edge) (k i : ℕ) (n : Name) → (e.to == k) ≡ b → e.label ≡ l
    → (first_source es k ≡ None → HasAlias es i n k → ⊥) → source_by b l e.from (first_source es k) ≡ None → HasAlias (e ∷ es) i n k → ⊥
no_source_at true (Label.Alias m) e es k i n is label ih h at = absurd (cc (h))
no_source_at true (Label.Argument m) e es k i n is label ih h (inl same) = absurd (cc (label, ap (λ (d : Edge). d.label) same))
no_source_at true (Label.Argument m) e es k i n is label ih h (inr at) = ih h at
no_source_at true Label.Dependency e es k i n is label ih h (inl same) = absurd (cc (label, ap (λ (d : Edge). d.label) same))
no_source_at true Label.Dependency e es k i n is label ih h (inr at) = ih h at
no_source_at false l e es k i n is label ih h (inl same) = absurd (cc (is, ap (λ (d : Edge). d.to == k) (sym same), eq_same k))
no_source_at false l e es k i n is label ih h (inr at) = ih h at

pub no_source : (es : List Edge) (k i : ℕ) (n : Name) → first_source es k ≡ None → HasAlias es i n k → ⊥
no_source [] k i n h m = absurd m
no_source (e ∷ es) k i n h m = no_source_at (e.to == k) e.label e es k i n refl refl (no_source es k i n) h m
