-- Values to the end: how many bytes they take, what the loop over them keeps, and that the rule reads just what it says.
use Rattle.std.proofs.Common.{◌≡◌, ℕ, zero, suc, ◌-◌, ◌+◌, ◌≤◌, ◌<◌, inl, inr, Bool, true, false, List, [], ◌∷◌, ◌++◌, length, Result, Ok, Err, refl, sym, ap, subst, ◌∙◌, append_assoc, arith, eqb}
use Rattle.std.proofs.lemmas.Bool.{eqb-true}
use Rattle.std.proofs.lemmas.List.{append-nil, length-append}
use Rattle.wac_component.specs.declared.fault.Fault.{Fault}
use Rattle.wac_component.specs.declared.fault.FaultKind.{FaultKind}
use Rattle.wac_component.specs.declared.fault.FaultKind.TheVariants as kind
use Rattle.wac_component.specs.declared.fault.Stop.{Stop}
use Rattle.wac_component.specs.declared.fault.Stop.TheVariants as stop
use Rattle.wac_component.specs.Rules.{Rule, ◌>>=◌, pure, refuse, choose, byte, bytes, room, within, with_rest, front, has_byte, read_all, IsAll, all_of}
use Rattle.wac_component.specs.Numbers.{digits, name}
use Rattle.wac_component.specs.Sections.{section_list, contents, section}
use Rattle.wac_component.specs.Reads.{Fails}
use Rattle.wac_component.proofs.Exact.{Exact}
use Rattle.wac_component.proofs.Stays.{all_stays}
use Rattle.wac_component.proofs.Steps.{both, inside, in_front}
use Rattle.wac_component.proofs.Loops.{with_front, none_before}

-- ---- how many bytes a rule takes

pub record Keeps {X : Type 0} (p : Rule X) : Type 0 where
  pub keeps : (s : List ℕ) (x : X) (r : List ℕ) → p.Is x s r → length r ≤ length s

pub record Takes {X : Type 0} (p : Rule X) : Type 0 where
  pub takes : (s : List ℕ) (x : X) (r : List ℕ) → p.Is x s r → length r < length s

bind_keeps : {A B : Type 0} (p : Rule A) (f : A → Rule B) → Keeps p → ((a : A) → Keeps (f a)) → Keeps (p >>= f)
bind_keeps p f kp kf = record { keeps = λ s y r h. let a = kp.keeps s h.0 h.1 h.2 in let b = (kf h.0).keeps h.1 y r h.3 in omega (arith, a, b) }

bind_takes : {A B : Type 0} (p : Rule A) (f : A → Rule B) → Takes p → ((a : A) → Keeps (f a)) → Takes (p >>= f)
bind_takes p f tp kf = record { takes = λ s y r h. let a = tp.takes s h.0 h.1 h.2 in let b = (kf h.0).keeps h.1 y r h.3 in omega (arith, a, b) }

pure_keeps : {X : Type 0} (x : X) → Keeps (pure x)
pure_keeps x = record { keeps = λ s y r h. omega (arith, ap length h.1) }

refuse_keeps : {X : Type 0} (k : FaultKind) → Keeps (refuse {X = X} k)
refuse_keeps k = record { keeps = λ s y r h. absurd h }

choose_keeps : {X : Type 0} (b : Bool) (p q : Rule X) → Keeps p → Keeps q → Keeps (choose b p q)
choose_keeps b p q kp kq = record { keeps = λ s y r h. elim h [ inl w ↦ kp.keeps s y r w.1 | inr w ↦ kq.keeps s y r w.1 ] }

byte_takes : Takes byte
byte_takes = record { takes = λ s b r h. omega (arith, ap length h) }

byte_keeps : Keeps byte
byte_keeps = record { keeps = λ s b r h. omega (arith, ap length h) }

bytes_keeps : (n : ℕ) → Keeps (bytes n)
bytes_keeps n = record { keeps = λ s x r h. omega (arith, ap length h.1, length-append x r) }

room_keeps : (n : ℕ) → Keeps (room n)
room_keeps n = record { keeps = λ s x r h. omega (arith, ap length h.1) }

within_keeps : {X : Type 0} (n : ℕ) (p : Rule X) → Keeps (within n p)
within_keeps n p = record { keeps = λ s x r h. omega (arith, h.1) }

with_rest_keeps : {X : Type 0} (n : ℕ) (p : Rule X) → Keeps (with_rest n p)
with_rest_keeps n p = record { keeps = λ s x r h. omega (arith, h.3) }

digits_keeps : (n limit : ℕ) → Keeps (digits n limit)
unfolding digits
digits_keeps zero limit = refuse_keeps kind.Number
digits_keeps (suc n) limit =
    bind_keeps _ _ byte_keeps (λ b. choose_keeps _ _ _ (pure_keeps b) (choose_keeps _ _ _ (refuse_keeps kind.Number)
    (bind_keeps _ _ (digits_keeps n limit) (λ high. choose_keeps _ _ _ (pure_keeps _) (refuse_keeps kind.Number)))))

contents_keeps : (size b : ℕ) → Keeps (contents size b)
contents_keeps size b =
    choose_keeps _ _ _ (bind_keeps _ _ (with_rest_keeps size name) (λ x. pure_keeps _))
    (choose_keeps _ _ _ (bind_keeps _ _ (bytes_keeps size) (λ x. pure_keeps _))
    (choose_keeps _ _ _ (bind_keeps _ _ (bytes_keeps size) (λ x. pure_keeps _)) (within_keeps size (section_list b))))

pub section_takes : Takes section
unfolding section
section_takes =
    bind_takes _ _ byte_takes (λ b. bind_keeps _ _ (digits_keeps 5 128) (λ size. bind_keeps _ _ (room_keeps size) (λ _. contents_keeps size b)))

-- ---- values to the end

read_none : {X : Type 0} (read : List ℕ → Result (X × List ℕ) Fault) (n : ℕ) → read_all read n [] ≡ Ok ([], [])
unfolding read_all
read_none read zero = refl
read_none read (suc n) = refl

module _ {X : Type 0} (p : Rule X) (exact : Exact p) (takes : Takes p) where
  all_sound : (n : ℕ) (s : List ℕ) (q : List X × List ℕ) → length s ≤ n → read_all p.read n s ≡ Ok q → IsAll p.Is q.0 s q.1
  unfolding read_all
  all_sound zero [] q le e = subst (λ (q : List X × List ℕ). IsAll p.Is q.0 [] q.1) (inside e) (refl, refl)
  all_sound zero (b ∷ s) q le e = absurd (omega (arith, le))
  all_sound (suc n) [] q le e = subst (λ (q : List X × List ℕ). IsAll p.Is q.0 [] q.1) (inside e) (refl, refl)
  all_sound (suc n) (b ∷ s) q le e =
      let a = both (p.read (b ∷ s)) (λ x m. front x (read_all p.read n m)) q e in
      let is = exact.sound (b ∷ s) a.0 a.1 a.2 in
      let f = in_front a.0 (read_all p.read n a.1) q a.3 in
      let fewer = takes.takes (b ∷ s) a.0 a.1 is in
      let rest = all_sound n a.1 (f.0, f.1) (omega (arith, le, fewer)) f.2 in
      subst (λ (q : List X × List ℕ). IsAll p.Is q.0 (b ∷ s) q.1) f.3 (a.1, is, rest)

  all_complete : (n : ℕ) (s : List ℕ) (xs : List X) (r : List ℕ) → length s ≤ n → IsAll p.Is xs s r → read_all p.read n s ≡ Ok (xs, r)
  unfolding read_all
  all_complete n s [] r le h = rw (h.1, h.0) (read_none p.read n)
  all_complete n [] (x ∷ xs) r le h = absurd (omega (arith, takes.takes [] x h.0 h.1))
  all_complete zero (b ∷ s) (x ∷ xs) r le h = absurd (omega (arith, le))
  all_complete (suc n) (b ∷ s) (x ∷ xs) r le h =
      let fewer = takes.takes (b ∷ s) x h.0 h.1 in
      rw (exact.complete (b ∷ s) x h.0 h.1, all_complete n h.0 xs r (omega (arith, le, fewer)) h.2) refl

  pub all_exact : Exact (all_of p)
  all_exact = record {
    sound = λ s xs r e. all_sound (length s) s (xs, r) (omega arith) e;
    complete = λ s xs r h. all_complete (length s) s xs r (omega arith) h;
    stays = all_stays p exact.stays;
  }

-- nothing is left
pub all_is_end : {X : Type 0} (Is : X → List ℕ → List ℕ → Type 0) (xs : List X) (s r : List ℕ) → IsAll Is xs s r → r ≡ []
all_is_end Is [] s r h = h.1 ∙ h.0
all_is_end Is (x ∷ xs) s r h = all_is_end Is xs h.0 r h.2

-- ---- the loop

regroup : {X : Type 0} (xs : List X) (x : X) (read : Result (List X × List ℕ) Fault) → with_front xs (front x read) ≡ with_front (xs ++ x ∷ []) read
regroup {X = X} xs x (Ok p) = ap (λ (ys : List X). Ok (ys, p.1)) (simp append_assoc)
regroup {X = X} xs x (Err f) = refl

some_byte : (s : List ℕ) → eqb (length s) 0 ≡ false → has_byte s ≡ true
some_byte [] e = cc
some_byte (b ∷ s) e = refl

no_byte : (s : List ℕ) → eqb (length s) 0 ≡ true → s ≡ []
no_byte [] e = refl
no_byte (b ∷ s) e = absurd (omega (arith, eqb-true (length (b ∷ s)) 0 e))

pub all_begins : {X : Type 0} (p : Rule X) (bytes : List ℕ) (n : ℕ) → with_front [] (read_all p.read n bytes) ≡ read_all p.read (0 + n) bytes
all_begins p bytes n = let e : 0 + n ≡ n = omega arith in rw e (none_before (read_all p.read n bytes))

pub all_goes_on : {X : Type 0} (p : Rule X) (xs : List X) (s m bytes : List ℕ) (x : X) (k : ℕ) → eqb (length s) 0 ≡ false → p.read s ≡ Ok (x, m)
    → ((n : ℕ) → with_front xs (read_all p.read n s) ≡ read_all p.read (k + n) bytes)
    → (n : ℕ) → with_front (xs ++ x ∷ []) (read_all p.read n m) ≡ read_all p.read ((k + 1) + n) bytes
unfolding read_all
all_goes_on p xs s m bytes x k some h so_far n =
    let e : k + suc n ≡ (k + 1) + n = omega arith in
    let one : with_front xs (read_all p.read (suc n) s) ≡ with_front (xs ++ x ∷ []) (read_all p.read n m) = rw (some_byte s some, h) (regroup xs x (read_all p.read n m)) in
    sym one ∙ so_far (suc n) ∙ ap (λ (n : ℕ). read_all p.read n bytes) e

pub all_ends : {X : Type 0} (p : Rule X) (e : Stop) (xs : List X) (s bytes : List ℕ) (k : ℕ) → eqb (length s) 0 ≡ false → k + length s ≤ length bytes → Fails e (p.read s)
    → ((n : ℕ) → with_front xs (read_all p.read n s) ≡ read_all p.read (k + n) bytes)
    → Fails e (read_all p.read (length bytes) bytes)
unfolding read_all
all_ends p stop.Memory xs s bytes k some le h so_far = tt
all_ends p (stop.Fault f) xs [] bytes k some le h so_far = cc
all_ends p (stop.Fault f) xs (b ∷ s) bytes k some le h so_far =
    let n = length bytes - k - 1 in
    let e : k + suc n ≡ length bytes = omega (arith, le) in
    let one : with_front xs (read_all p.read (suc n) (b ∷ s)) ≡ Err f = rw h refl in
    ap (λ (n : ℕ). read_all p.read n bytes) (sym e) ∙ sym (so_far (suc n)) ∙ one

pub all_is_done : {X : Type 0} (p : Rule X) (xs : List X) (s bytes : List ℕ) (k : ℕ) → eqb (length s) 0 ≡ true → k + length s ≤ length bytes
    → ((n : ℕ) → with_front xs (read_all p.read n s) ≡ read_all p.read (k + n) bytes)
    → read_all p.read (length bytes) bytes ≡ Ok (xs, [])
all_is_done p xs s bytes k none le so_far =
    let n = length bytes - k in
    let e : k + n ≡ length bytes = omega (arith, le) in
    let one : with_front xs (read_all p.read n s) ≡ Ok (xs, []) = rw (no_byte s none, read_none p.read n) (ap (λ (ys : _). Ok (ys, [])) (append-nil xs)) in
    ap (λ (n : ℕ). read_all p.read n bytes) (sym e) ∙ sym (so_far n) ∙ one
