-- Reading values one after the other, as a loop does.
use Rattle.std.proofs.Common.{◌≡◌, ℕ, suc, ◌-◌, ◌+◌, ◌≤◌, ◌<◌, List, [], ◌∷◌, ◌++◌, Result, Ok, Err, refl, sym, ap, ◌∙◌, append_assoc, arith}
use Rattle.std.proofs.lemmas.List.{append-nil}
use Rattle.wac_component.specs.declared.fault.Fault.{Fault}
use Rattle.wac_component.specs.declared.fault.Stop.{Stop}
use Rattle.wac_component.specs.declared.fault.Stop.TheVariants as stop
use Rattle.wac_component.specs.Rules.{Rule, and_then, times}
use Rattle.wac_component.specs.Numbers.{number, vec}
use Rattle.wac_component.specs.Reads.{Fails}

-- what was read before, and what is still read
abbrev pub with_front : {X : Type 0} → List X → Result (List X × List ℕ) Fault → Result (List X × List ℕ) Fault
with_front front read = and_then read (λ xs r. Ok (front ++ xs, r))

regroup : {X : Type 0} (front : List X) (x : X) (read : Result (List X × List ℕ) Fault) → with_front front (and_then read (λ xs r. Ok (x ∷ xs, r))) ≡ with_front (front ++ x ∷ []) read
regroup front x (Ok p) = ap (λ xs. Ok (xs, p.1)) (simp append_assoc)
regroup front x (Err f) = refl

pub none_before : {X : Type 0} (read : Result (List X × List ℕ) Fault) → with_front [] read ≡ read
none_before (Ok p) = refl
none_before (Err f) = refl

-- the count was read
pub begins : {X : Type 0} (p : Rule X) (bytes first : List ℕ) (n : ℕ) → number.read bytes ≡ Ok (n, first)
    → with_front [] ((times (n - 0) p).read first) ≡ (vec p).read bytes
begins p bytes first n h =
    let k : n - 0 ≡ n = omega arith in
    rw (h, k) (none_before ((times n p).read first))

pub goes_on : {X : Type 0} (p : Rule X) (front : List X) (count i : ℕ) (bytes : List ℕ) (x : X) (after : List ℕ) (total : Result (List X × List ℕ) Fault) → i < count → p.read bytes ≡ Ok (x, after)
    → with_front front ((times (count - i) p).read bytes) ≡ total → with_front (front ++ x ∷ []) ((times (count - (i + 1)) p).read after) ≡ total
unfolding times
goes_on p front count i bytes x after total lt h so_far =
    let k : count - i ≡ suc (count - (i + 1)) = omega arith in
    let one : with_front front ((times (count - i) p).read bytes) ≡ with_front (front ++ x ∷ []) ((times (count - (i + 1)) p).read after) = rw (k, h) (regroup front x ((times (count - (i + 1)) p).read after)) in
    sym one ∙ so_far

pub ends : {X : Type 0} (p : Rule X) (e : Stop) (front : List X) (count i : ℕ) (bytes : List ℕ) (total : Result (List X × List ℕ) Fault) → i < count → Fails e (p.read bytes)
    → with_front front ((times (count - i) p).read bytes) ≡ total → Fails e total
unfolding times
ends p stop.Memory front count i bytes total lt h so_far = tt
ends p (stop.Fault f) front count i bytes total lt h so_far =
    let k : count - i ≡ suc (count - (i + 1)) = omega arith in
    let one : with_front front ((times (count - i) p).read bytes) ≡ Err f = rw (k, h) refl in
    sym so_far ∙ one

pub is_done : {X : Type 0} (p : Rule X) (front : List X) (count i : ℕ) (bytes : List ℕ) (total : Result (List X × List ℕ) Fault) → count ≤ i → with_front front ((times (count - i) p).read bytes) ≡ total → total ≡ Ok (front, bytes)
unfolding times
is_done p front count i bytes total le so_far =
    let k : count - i ≡ 0 = omega arith in
    let one : with_front front ((times (count - i) p).read bytes) ≡ Ok (front, bytes) = rw k (ap (λ xs. Ok (xs, bytes)) (append-nil front)) in
    sym so_far ∙ one
