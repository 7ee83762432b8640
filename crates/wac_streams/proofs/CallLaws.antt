-- Stretches of calls, one after another.
use Rattle.std.proofs.Common.{◌≡◌, ℕ, ◌+◌, ◌≤◌, List, [], ◌++◌, length, Option, Some, None, refl, ap, sym, ◌∙◌, arith, append_assoc, IfSome, subst, ◌<◌, take, drop}
use Rattle.std.specs.Io.KnownBytes.{Consumes, Appends, Keeps}
use Rattle.std.proofs.lemmas.List.{append-nil, take-append-drop, take_rest, length-drop}
use Rattle.std.proofs.Math.Seq.{take-add}
use Rattle.std.specs.Prelude.{◌-◌}
use Rattle.wac_streams.specs.Calls.{Calls, FailedOnce, NoneFailed, CallsAtMost, AppendsPrefix, one_more}

pub Consumes-none : (a : Option (List ℕ)) → Consumes a a []
Consumes-none None = tt
Consumes-none (Some xs) = refl

pub Consumes-more : (a b c : Option (List ℕ)) (p q : List ℕ) → Consumes a b p → Consumes b c q → Consumes a c (p ++ q)
Consumes-more None b c p q h k = tt
Consumes-more (Some xs) None c p q h k = absurd h
Consumes-more (Some xs) (Some ys) None p q h k = absurd k
Consumes-more (Some xs) (Some ys) (Some zs) p q h k = h ∙ ap (λ t. p ++ t) k ∙ sym (append_assoc p q zs)

pub Appends-none : (a : Option (List ℕ)) → Appends a a []
Appends-none None = tt
Appends-none (Some xs) = sym (append-nil xs)

pub Appends-more : (a b c : Option (List ℕ)) (p q : List ℕ) → Appends a b p → Appends b c q → Appends a c (p ++ q)
Appends-more None b c p q h k = tt
Appends-more (Some xs) None c p q h k = absurd h
Appends-more (Some xs) (Some ys) None p q h k = absurd k
Appends-more (Some xs) (Some ys) (Some zs) p q h k = k ∙ ap (λ t. t ++ q) h ∙ append_assoc xs p q

pub Appends-kept : (a b c : Option (List ℕ)) (p : List ℕ) → Appends a b p → Keeps b c → Appends a c p
Appends-kept None b c p h k = tt
Appends-kept (Some xs) None c p h k = absurd h
Appends-kept (Some xs) (Some ys) None p h k = absurd k
Appends-kept (Some xs) (Some ys) (Some zs) p h k = k ∙ h

pub NoneFailed-none : (a : Option Calls) → NoneFailed a a
NoneFailed-none None = tt
NoneFailed-none (Some k) = (k, refl, refl)

pub NoneFailed-more : (a b c : Option Calls) → NoneFailed a b → NoneFailed b c → NoneFailed a c
NoneFailed-more None b c h k = tt
NoneFailed-more (Some x) b c h k =
    let next = subst (λ (t : Option Calls). NoneFailed t c) h.1 k in
    (next.0, next.1, next.2 ∙ h.2)

pub FailedOnce-after : (a b c : Option Calls) → NoneFailed a b → FailedOnce b c → FailedOnce a c
FailedOnce-after None b c h k = tt
FailedOnce-after (Some x) b c h k =
    let next = subst (λ (t : Option Calls). FailedOnce t c) h.1 k in
    (next.0, next.1, next.2 ∙ ap (λ n. n + 1) h.2)

pub CallsAtMost-none : (a : Option Calls) → CallsAtMost a a 0
CallsAtMost-none None = tt
CallsAtMost-none (Some k) = (k, refl, omega arith)

pub CallsAtMost-more : (a b c : Option Calls) (m n : ℕ) → CallsAtMost a b m → CallsAtMost b c n → CallsAtMost a c (m + n)
CallsAtMost-more None b c m n h k = tt
CallsAtMost-more (Some x) b c m n h k =
    let next = subst (λ (t : Option Calls). CallsAtMost t c n) h.1 k in
    (next.0, next.1, omega (arith, next.2, h.2))

pub CallsAtMost-less : (a b : Option Calls) (m n : ℕ) → m ≤ n → CallsAtMost a b m → CallsAtMost a b n
CallsAtMost-less None b m n le h = tt
CallsAtMost-less (Some x) b m n le h = (h.0, h.1, omega (arith, h.2, le))

-- a write that takes something is no failure
pub counted_well : (a b : Option Calls) (n failures : ℕ) → 0 < n → IfSome a (λ k. b ≡ Some (one_more k failures)) → failures ≡ 0 → NoneFailed a b
counted_well None b n failures p h z = tt
counted_well (Some k) b n failures p h z = (_, h, omega (arith, z))

-- a front of a text is one of a longer text
pub front_early : (a b : Option (List ℕ)) (p q : List ℕ) → AppendsPrefix a b p → AppendsPrefix a b (p ++ q)
front_early a b p q h = (h.0, h.1 ++ q, ap (λ t. t ++ q) h.2 ∙ append_assoc h.0 h.1 q, h.3)

pub front_late : (a b c : Option (List ℕ)) (p q : List ℕ) → Appends a b p → AppendsPrefix b c q → AppendsPrefix a c (p ++ q)
front_late a b c p q h k = (p ++ k.0, k.1, ap (λ t. p ++ t) k.2 ∙ sym (append_assoc p k.0 k.1), Appends-more a b c p k.0 h k.3)

-- the front grows by what was taken of the rest
pub front_more : (a b c : Option (List ℕ)) (bytes : List ℕ) (at n : ℕ) → Appends a b (take at bytes) → Appends b c (take n (take (length bytes - at) (drop at bytes))) → Appends a c (take (at + n) bytes)
front_more a b c bytes at n h k =
    let rest = ap (λ (t : List ℕ). take n t) (take_rest bytes at) in
    let both = Appends-more a b c (take at bytes) (take n (take (length bytes - at) (drop at bytes))) h k in
    subst (λ (t : List ℕ). Appends a c t) (ap (λ (t : List ℕ). take at bytes ++ t) rest ∙ sym (take-add at n bytes)) both

pub front_stays : (a b c : Option (List ℕ)) (bytes : List ℕ) (at : ℕ) → Appends a b (take at bytes) → Appends b c [] → AppendsPrefix a c bytes
front_stays a b c bytes at h k =
    let both = Appends-more a b c (take at bytes) [] h k in
    (take at bytes, drop at bytes, sym (take-append-drop at bytes), subst (λ (t : List ℕ). Appends a c t) (append-nil (take at bytes)) both)

pub within_more : (bytes : List ℕ) (at n : ℕ) → at ≤ length bytes → n ≤ length (take (length bytes - at) (drop at bytes)) → at + n ≤ length bytes
within_more bytes at n h k = omega (arith, h, k, ap (λ (t : List ℕ). length t) (take_rest bytes at), length-drop at bytes)
