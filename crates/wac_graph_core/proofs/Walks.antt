-- What is in a list with one more, and how many edges end outside it.
use Rattle.std.proofs.Common.{◌≡◌, ◌⊎◌, ℕ, ◌+◌, ◌<◌, ◌≤◌, Bool, true, false, List, [], ◌∷◌, ◌++◌, length, drop, get_or, cond, ◌==◌, refl, sym, ap, ◌∙◌, inl, inr, arith}
use Rattle.std.proofs.lemmas.List.{drop_more}
use Rattle.std.proofs.lemmas.Bool.Decides.{nat_tests}
use Rattle.wac_types_base.specs.Graph.{Among}
use Rattle.wac_graph_core.specs.declared.edge.Edge.{Edge}
use Rattle.wac_graph_core.specs.Edges.{has}
use Rattle.wac_graph_core.specs.Walking.{outside}
use Rattle.wac_types_base.proofs.Replacing.{same_number}

-- the list from a place on, by the item that is read there
pub drop_here : {A : Type 0} (xs : List A) (i : ℕ) (x : A) → i < length xs → x ≡ get_or xs i x → drop i xs ≡ x ∷ drop (i + 1) xs
drop_here xs i x within is = drop_more xs i x within ∙ ap (λ y. y ∷ drop (i + 1) xs) (sym is)

eq_refl : (a : ℕ) → (a == a) ≡ true
eq_refl a = grind (arith, nat_tests)

-- what is in a list with one more
has_push_at : (b : Bool) (js : List ℕ) (x k : ℕ) → (has (js ++ x ∷ []) k ≡ true → (has js k ≡ true) ⊎ (x ≡ k)) → cond b true (has (js ++ x ∷ []) k) ≡ true → (cond b true (has js k) ≡ true) ⊎ (x ≡ k)
has_push_at true js x k ih h = inl refl
has_push_at false js x k ih h = ih h

has_last_at : (b : Bool) (x k : ℕ) → (x == k) ≡ b → cond b true false ≡ true → (false ≡ true) ⊎ (x ≡ k)
has_last_at true x k e h = inr (same_number _ _ e)
has_last_at false x k e h = inl h

pub has-push : (js : List ℕ) (x k : ℕ) → has (js ++ x ∷ []) k ≡ true → (has js k ≡ true) ⊎ (x ≡ k)
has-push [] x k h = has_last_at (x == k) x k refl h
has-push (j ∷ js) x k h = has_push_at (j == k) js x k (has-push js x k) h

has_kept_at : (b : Bool) (js : List ℕ) (x k : ℕ) → (has js k ≡ true → has (js ++ x ∷ []) k ≡ true) → cond b true (has js k) ≡ true → cond b true (has (js ++ x ∷ []) k) ≡ true
has_kept_at true js x k ih h = refl
has_kept_at false js x k ih h = ih h

pub has-kept : (js : List ℕ) (x k : ℕ) → has js k ≡ true → has (js ++ x ∷ []) k ≡ true
has-kept [] x k h = absurd (cc)
has-kept (j ∷ js) x k h = has_kept_at (j == k) js x k (has-kept js x k) h

either : (b : Bool) → cond b true true ≡ true
either true = refl
either false = refl

pub has_pushed : (js : List ℕ) (x : ℕ) → has (js ++ x ∷ []) x ≡ true
has_pushed [] x = ap (λ b. cond b true false) (eq_refl x)
has_pushed (j ∷ js) x = ap (λ b. cond (j == x) true b) (has_pushed js x) ∙ either (j == x)

-- how many edges end outside
one_outside : (b c : Bool) (m n : ℕ) → (b ≡ true → c ≡ true) → m ≤ n → cond c 0 1 + m ≤ cond b 0 1 + n
one_outside true true m n k h = omega arith
one_outside true false m n k h = absurd (cc (k refl))
one_outside false true m n k h = omega arith
one_outside false false m n k h = omega arith

pub outside_le : (seen : List ℕ) (x : ℕ) (es : List Edge) → outside (seen ++ x ∷ []) es ≤ outside seen es
outside_le seen x [] = omega arith
outside_le seen x (e ∷ es) = one_outside (has seen e.to) (has (seen ++ x ∷ []) e.to) _ _ (has-kept seen x e.to) (outside_le seen x es)

one_less : (b c : Bool) (m n : ℕ) → b ≡ false → c ≡ true → m ≤ n → cond c 0 1 + m < cond b 0 1 + n
one_less false true m n p q h = omega arith
one_less true c m n p q h = absurd (cc)
one_less false false m n p q h = absurd (cc)

more_less : (b c : Bool) (m n : ℕ) → (b ≡ true → c ≡ true) → m < n → cond c 0 1 + m < cond b 0 1 + n
more_less true true m n k h = omega arith
more_less true false m n k h = absurd (cc (k refl))
more_less false true m n k h = omega arith
more_less false false m n k h = omega arith

pub outside_lt : (seen : List ℕ) (x : ℕ) (es : List Edge) (d : Edge) → Among d es → has seen d.to ≡ false → d.to ≡ x → outside (seen ++ x ∷ []) es < outside seen es
outside_lt seen x [] d at out to = absurd at
outside_lt seen x (e ∷ es) d (inl same) out to =
    let end : e.to ≡ x = ap (λ e. e.to) (sym same) ∙ to in
    one_less (has seen e.to) (has (seen ++ x ∷ []) e.to) _ _ (ap (λ e. has seen e.to) (sym same) ∙ out) (ap (has (seen ++ x ∷ [])) end ∙ has_pushed seen x) (outside_le seen x es)
outside_lt seen x (e ∷ es) d (inr later) out to =
    more_less (has seen e.to) (has (seen ++ x ∷ []) e.to) _ _ (has-kept seen x e.to) (outside_lt seen x es d later out to)
