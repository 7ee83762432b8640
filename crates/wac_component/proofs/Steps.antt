-- What a step of a rule read, or where it failed.
use Rattle.std.proofs.Common.{◌≡◌, ℕ, ◌+◌, ◌-◌, ◌≤◌, ◌⊎◌, inl, inr, Bool, true, false, List, [], ◌∷◌, ◌++◌, length, take, drop, Result, Ok, Err, refl, sym, ap, arith, rules, cond, eqb, ltb}
use Rattle.std.proofs.lemmas.Bool.{ltb-false, le-ltb, eqb-true}
use Rattle.std.proofs.lemmas.List.{take_at, drop_at, take-append-drop, length-append, length-drop}
use Rattle.wac_component.specs.declared.fault.Fault.{Fault}
use Rattle.wac_component.specs.declared.fault.FaultKind.{FaultKind}
use Rattle.wac_component.specs.declared.fault.FaultKind.TheVariants as kind
use Rattle.wac_component.specs.Rules.{fault, and_then, byte_at, end_at, up_to, front}

-- two pairs that are equal in both parts
pub pair : {A B : Type 0} {a b : A} {c d : B} → a ≡ b → c ≡ d → ◌≡◌ {A = A × B} (a, c) (b, d)
pair e f = rw (e, f) refl

pub inside : {X : Type 0} {p q : X} → ◌≡◌ {A = Result X Fault} (Ok p) (Ok q) → p ≡ q
inside e = cc

pub both : {A B : Type 0} (o : Result (A × List ℕ) Fault) (g : A → List ℕ → Result (B × List ℕ) Fault) (q : B × List ℕ) → and_then o g ≡ Ok q
    → (a : A) × (m : List ℕ) × (o ≡ Ok (a, m)) × (g a m ≡ Ok q)
both (Err e) g q h = cc
both (Ok p) g q h = (p.0, p.1, refl, h)

pub byte_sound : (s : List ℕ) (b : ℕ) (r : List ℕ) → byte_at s ≡ Ok (b, r) → s ≡ b ∷ r
byte_sound [] b r e = cc
byte_sound (c ∷ s) b r e = let same = inside e in let head = ap (λ p. p.0) same in let tail = ap (λ p. p.1) same in cc

-- a test that did not fail
pub passed : {X : Type 0} (b : Bool) (f : Fault) (x : Result X Fault) (y : X) → cond b (Err f) x ≡ Ok y → (b ≡ false) × (x ≡ Ok y)
passed true f x y e = cc
passed false f x y e = (refl, e)

pub at_end : (b : Bool) (r : List ℕ) (q : Unit {0} × List ℕ) → cond {A = Result (Unit {0} × List ℕ) Fault} b (Ok (tt, r)) (Err (fault kind.Size r)) ≡ Ok q → (b ≡ true) × (r ≡ q.1)
at_end true r q e = (refl, ap (λ p. p.1) (inside e))
at_end false r q e = cc

pub end_sound : (n : ℕ) (s r t : List ℕ) → end_at n s r ≡ Ok (tt, t) → (r ≡ t) × (length r + n ≡ length s)
end_sound n s r t e = let g = at_end (eqb (length r + n) (length s)) r (tt, t) e in (g.1, eqb-true _ _ g.0)

pub end_complete : (n : ℕ) (s r : List ℕ) → length r + n ≡ length s → end_at n s r ≡ Ok (tt, r)
end_complete n s r e = rw e (search rules)

pub up_to_sound : (n : ℕ) (s m t r : List ℕ) → up_to n s m ≡ Ok (t, r) → (m ≡ t ++ r) × (length r + n ≡ length s)
up_to_sound n s m t r e =
    let k = length m + n - length s in
    let g = passed (ltb (length s) n) (fault kind.Short s) _ (t, r) e in
    let h = passed (ltb (length m + n) (length s)) (fault kind.Size m) (Ok (take k m, drop k m)) (t, r) g.1 in
    let front : take k m ≡ t = ap (λ p. p.0) (inside h.1) in
    let rest : drop k m ≡ r = ap (λ p. p.1) (inside h.1) in
    let fits : n ≤ length s = ltb-false _ _ g.0 in
    let reaches : length s ≤ length m + n = ltb-false _ _ h.0 in
    (rw (← front, ← rest) (sym (take-append-drop k m)), rw (← rest) (omega (arith, fits, reaches, length-drop k m)))

pub up_to_complete : (n : ℕ) (s m t r : List ℕ) → m ≡ t ++ r → length r + n ≡ length s → up_to n s m ≡ Ok (t, r)
up_to_complete n s m t r e l =
    let len = length-append t r in
    let fits : ltb (length s) n ≡ false = le-ltb _ _ (omega (arith, l)) in
    let reaches : ltb (length (t ++ r) + n) (length s) ≡ false = le-ltb _ _ (omega (arith, l, len)) in
    let k : length t ≡ length (t ++ r) + n - length s = omega (arith, l, len) in
    rw (e, fits, reaches, take_at t r (length (t ++ r) + n - length s) k, drop_at t r (length (t ++ r) + n - length s) k) refl

pub in_front : {X : Type 0} (x : X) (o : Result (List X × List ℕ) Fault) (q : List X × List ℕ) → front x o ≡ Ok q
    → (ys : List X) × (r : List ℕ) × (o ≡ Ok (ys, r)) × (◌≡◌ {A = List X × List ℕ} (x ∷ ys, r) q)
in_front x (Err e) q h = cc
in_front x (Ok p) q h = (p.0, p.1, refl, inside h)

pub same_fault : {X : Type 0} {e f : Fault} → ◌≡◌ {A = Result X Fault} (Err e) (Err f) → e ≡ f
same_fault h = cc

-- where a fault stands that is met behind these bytes
pub left_is : {X : Type 0} (k : FaultKind) (s : List ℕ) (f : Fault) → ◌≡◌ {A = Result X Fault} (Err (fault k s)) (Err f) → length s ≡ f.left
left_is k s f h = ap (λ (f : Fault). f.left) (same_fault h)

-- which step failed
pub failed : {A B : Type 0} (o : Result (A × List ℕ) Fault) (g : A → List ℕ → Result (B × List ℕ) Fault) (f : Fault) → and_then o g ≡ Err f
    → (o ≡ Err f) ⊎ ((a : A) × (m : List ℕ) × (o ≡ Ok (a, m)) × (g a m ≡ Err f))
failed (Err e) g f h = inl (ap (λ (e : Fault). Err e) (same_fault h))
failed (Ok p) g f h = inr (p.0, p.1, refl, h)

-- a test that failed
pub missed : {X : Type 0} (b : Bool) (e f : Fault) (x : X) → cond {A = Result X Fault} b (Err e) (Ok x) ≡ Err f → e ≡ f
missed true e f x h = same_fault h
missed false e f x h = cc

pub front_failed : {X : Type 0} (x : X) (o : Result (List X × List ℕ) Fault) (f : Fault) → front x o ≡ Err f → o ≡ Err f
front_failed x (Err e) f h = ap (λ (e : Fault). Err e) (same_fault h)
front_failed x (Ok p) f h = cc
