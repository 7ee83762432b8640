-- Rules of a grammar of bytes. A rule says which value the bytes up to a rest spell, and how it is read, or which fault
-- stands in the way.
use Rattle.std.specs.Prelude.{◌≡◌, ℕ, zero, suc, ◌+◌, ◌-◌, ◌≤◌, ◌⊎◌, Bool, true, false, if◌then◌else◌, List, [], ◌∷◌, ◌++◌, length, take, drop, Option, Some, None, Result, Ok, Err, nat_lt, ◌==◌}
use Rattle.wac_component.specs.declared.fault.Fault.{Fault}
use Rattle.wac_component.specs.declared.fault.FaultKind.{FaultKind}
use Rattle.wac_component.specs.declared.fault.FaultKind.TheVariants as kind

pub record Rule (X : Type 0) : Type 1 where
  pub Is : X → List ℕ → List ℕ → Type 0
  pub read : List ℕ → Result (X × List ℕ) Fault

-- a fault before these bytes, the last ones of all
abbrev pub fault : FaultKind → List ℕ → Fault
fault k s = record { kind = k; left = length s }

abbrev pub and_then : {A B : Type 0} → Result (A × List ℕ) Fault → (A → List ℕ → Result (B × List ℕ) Fault)
    → Result (B × List ℕ) Fault
and_then (Err e) f = Err e
and_then (Ok p) f = f p.0 p.1

infixl 10 ◌>>=◌
abbrev pub ◌>>=◌ : {A B : Type 0} → Rule A → (A → Rule B) → Rule B
p >>= f = record {
  Is = λ y s r. (a : _) × (m : List ℕ) × p.Is a s m × (f a).Is y m r;
  read = λ s. and_then (p.read s) (λ a m. (f a).read m);
}

infixl 10 ◌>>◌
abbrev pub ◌>>◌ : {A B : Type 0} → Rule A → Rule B → Rule B
p >> q = p >>= (λ _. q)

-- no byte
abbrev pub pure : {X : Type 0} → X → Rule X
pure x = record { Is = λ y s r. (y ≡ x) × (r ≡ s); read = λ s. Ok (x, s) }

-- nothing, for that cause
abbrev pub refuse : {X : Type 0} → FaultKind → Rule X
refuse k = record { Is = λ y s r. ⊥; read = λ s. Err (fault k s) }

abbrev pub choose : {X : Type 0} → Bool → Rule X → Rule X → Rule X
choose b p q = record {
  Is = λ y s r. ((b ≡ true) × p.Is y s r) ⊎ ((b ≡ false) × q.Is y s r);
  read = λ s. if b then p.read s else q.read s;
}

-- what was found, or else a fault
abbrev pub or_refuse : {X : Type 0} → FaultKind → Option X → Rule X
or_refuse k (Some x) = pure x
or_refuse k None = refuse k

-- ---- bytes

abbrev pub byte_at : List ℕ → Result (ℕ × List ℕ) Fault
byte_at [] = Err (fault kind.Short [])
byte_at (b ∷ s) = Ok (b, s)

abbrev pub byte : Rule ℕ
byte = record { Is = λ b s r. s ≡ b ∷ r; read = byte_at }

-- the next byte, which stays
abbrev pub peek : Rule ℕ
peek = record {
  Is = λ b s r. (rest : List ℕ) × (s ≡ b ∷ rest) × (r ≡ s);
  read = λ s. and_then (byte_at s) (λ b _. Ok (b, s));
}

-- that byte, or else a fault behind it
abbrev pub exactly : ℕ → FaultKind → Rule (Unit {0})
exactly n k = byte >>= λ b. choose (b == n) (pure tt) (refuse k)

-- so many bytes
abbrev pub bytes : ℕ → Rule (List ℕ)
bytes n = record {
  Is = λ x s r. (length x ≡ n) × (s ≡ x ++ r);
  read = λ s. if nat_lt (length s) n then Err (fault kind.Short s) else Ok (take n s, drop n s);
}

-- that many bytes are there
abbrev pub room : ℕ → Rule (Unit {0})
room n = record {
  Is = λ x s r. (n ≤ length s) × (r ≡ s);
  read = λ s. if nat_lt (length s) n then Err (fault kind.Short s) else Ok (tt, s);
}

-- the rest r stands that many bytes behind the beginning of s
abbrev pub end_at : ℕ → List ℕ → List ℕ → Result (Unit {0} × List ℕ) Fault
end_at n s r = if length r + n == length s then Ok (tt, r) else Err (fault kind.Size r)

-- a rule that takes so many bytes
abbrev pub within : {X : Type 0} → ℕ → Rule X → Rule X
within n p = record {
  Is = λ x s r. p.Is x s r × (length r + n ≡ length s);
  read = λ s. and_then (p.read s) (λ x r. and_then (end_at n s r) (λ _ r. Ok (x, r)));
}

-- the bytes of m up to that many behind the beginning of s
abbrev pub up_to : ℕ → List ℕ → List ℕ → Result (List ℕ × List ℕ) Fault
up_to n s m = if nat_lt (length s) n then Err (fault kind.Short s)
    else if nat_lt (length m + n) (length s) then Err (fault kind.Size m)
    else Ok (take (length m + n - length s) m, drop (length m + n - length s) m)

-- a rule, and the bytes behind it up to so many
abbrev pub with_rest : {X : Type 0} → ℕ → Rule X → Rule (X × List ℕ)
with_rest n p = record {
  Is = λ x s r. (m : List ℕ) × p.Is x.0 s m × (m ≡ x.1 ++ r) × (length r + n ≡ length s);
  read = λ s. and_then (p.read s) (λ x m. and_then (up_to n s m) (λ t r. Ok ((x, t), r)));
}

-- ---- lists

-- so many values
unfoldable pub times : {X : Type 0} → ℕ → Rule X → Rule (List X)
times zero p = pure []
times (suc n) p = p >>= λ x. times n p >>= λ xs. pure (x ∷ xs)

-- values to the end
abbrev pub IsAll : {X : Type 0} → (X → List ℕ → List ℕ → Type 0) → List X → List ℕ → List ℕ → Type 0
IsAll Is [] s r = (s ≡ []) × (r ≡ s)
IsAll Is (x ∷ xs) s r = (m : List ℕ) × Is x s m × IsAll Is xs m r

abbrev pub front : {X : Type 0} → X → Result (List X × List ℕ) Fault → Result (List X × List ℕ) Fault
front x (Err e) = Err e
front x (Ok p) = Ok (x ∷ p.0, p.1)

abbrev pub has_byte : List ℕ → Bool
has_byte [] = false
has_byte (b ∷ s) = true

-- the number bounds the values
unfoldable pub read_all : {X : Type 0} → (List ℕ → Result (X × List ℕ) Fault) → ℕ → List ℕ
    → Result (List X × List ℕ) Fault
read_all read zero s = Ok ([], s)
read_all read (suc n) s = if has_byte s then and_then (read s) (λ x m. front x (read_all read n m)) else Ok ([], s)

abbrev pub all_of : {X : Type 0} → Rule X → Rule (List X)
all_of p = record { Is = IsAll p.Is; read = λ s. read_all p.read (length s) s }
