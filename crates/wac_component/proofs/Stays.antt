-- Behind a rule no more bytes are left than there were before it, and a fault stands where no more are left.
use Rattle.std.proofs.Common.{◌≡◌, ℕ, zero, suc, ◌+◌, ◌≤◌, inl, inr, Bool, true, false, List, [], ◌∷◌, length, take, drop, Result, Ok, Err, ap, arith, cond, eqb, ltb}
use Rattle.std.proofs.lemmas.List.{length-drop}
use Rattle.wac_component.specs.declared.fault.Fault.{Fault}
use Rattle.wac_component.specs.declared.fault.FaultKind.{FaultKind}
use Rattle.wac_component.specs.declared.fault.FaultKind.TheVariants as kind
use Rattle.wac_component.specs.Rules.{Rule, fault, and_then, ◌>>=◌, pure, refuse, choose, byte_at, byte, peek, bytes, room, end_at, within, up_to, with_rest, times, front, read_all, all_of}
use Rattle.wac_component.proofs.Steps.{both, inside, passed, byte_sound, end_sound, up_to_sound, in_front, left_is, failed, missed, front_failed}

pub record Stays {X : Type 0} (p : Rule X) : Type 0 where
  pub keeps : (s : List ℕ) (x : X) (r : List ℕ) → p.read s ≡ Ok (x, r) → length r ≤ length s
  pub faults : (s : List ℕ) (f : Fault) → p.read s ≡ Err f → f.left ≤ length s

pub bind_stays : {A B : Type 0} (p : Rule A) (f : A → Rule B) → Stays p → ((a : A) → Stays (f a)) → Stays (p >>= f)
bind_stays p f sp sf = record {
  keeps = λ s y r e.
      let b = both (p.read s) (λ a m. (f a).read m) (y, r) e in
      let one = sp.keeps s b.0 b.1 b.2 in
      let two = (sf b.0).keeps b.1 y r b.3 in
      omega (arith, one, two);
  faults = λ s g e. elim (failed (p.read s) (λ a m. (f a).read m) g e) [
    | inl h ↦ sp.faults s g h
    | inr h ↦ (let one = sp.keeps s h.0 h.1 h.2 in let two = (sf h.0).faults h.1 g h.3 in omega (arith, one, two))
  ];
}

pub pure_stays : {X : Type 0} (x : X) → Stays (pure x)
pure_stays x = record { keeps = λ s y r e. let same = ap (λ p. length p.1) (inside e) in omega (arith, same); faults = λ s f e. cc }

pub refuse_stays : {X : Type 0} (k : FaultKind) → Stays (refuse {X = X} k)
refuse_stays k = record { keeps = λ s y r e. cc; faults = λ s f e. let at = left_is k s f e in omega (arith, at) }

pub choose_stays : {X : Type 0} (b : Bool) (p q : Rule X) → Stays p → Stays q → Stays (choose b p q)
choose_stays true p q sp sq = record { keeps = λ s x r e. sp.keeps s x r e; faults = λ s f e. sp.faults s f e }
choose_stays false p q sp sq = record { keeps = λ s x r e. sq.keeps s x r e; faults = λ s f e. sq.faults s f e }

byte_faults : (s : List ℕ) (f : Fault) → byte_at s ≡ Err f → f.left ≤ length s
byte_faults [] f e = let at = left_is kind.Short [] f e in omega (arith, at)
byte_faults (b ∷ s) f e = cc

pub byte_stays : Stays byte
byte_stays = record { keeps = λ s b r e. let is = ap length (byte_sound s b r e) in omega (arith, is); faults = byte_faults }

pub peek_stays : Stays peek
peek_stays = record {
  keeps = λ s x r e.
      let b = both (byte_at s) (λ b _. Ok (b, s)) (x, r) e in
      let same = ap (λ p. length p.1) (inside b.3) in
      omega (arith, same);
  faults = λ s f e. elim (failed (byte_at s) (λ b _. Ok (b, s)) f e) [ inl h ↦ byte_faults s f h | inr h ↦ (let no = h.3 in cc) ];
}

pub bytes_stays : (n : ℕ) → Stays (bytes n)
bytes_stays n = record {
  keeps = λ s x r e.
      let g = passed (ltb (length s) n) (fault kind.Short s) (Ok (take n s, drop n s)) (x, r) e in
      let rest = ap (λ p. length p.1) (inside g.1) in
      omega (arith, rest, length-drop n s);
  faults = λ s f e. let at = ap (λ (f : Fault). f.left) (missed (ltb (length s) n) (fault kind.Short s) f (take n s, drop n s) e) in omega (arith, at);
}

pub room_stays : (n : ℕ) → Stays (room n)
room_stays n = record {
  keeps = λ s x r e.
      let g = passed (ltb (length s) n) (fault kind.Short s) (Ok (tt, s)) (x, r) e in
      let rest = ap (λ p. length p.1) (inside g.1) in
      omega (arith, rest);
  faults = λ s f e. let at = ap (λ (f : Fault). f.left) (missed (ltb (length s) n) (fault kind.Short s) f (tt, s) e) in omega (arith, at);
}

end_faults : (b : Bool) (r : List ℕ) (f : Fault) → cond {A = Result (Unit {0} × List ℕ) Fault} b (Ok (tt, r)) (Err (fault kind.Size r)) ≡ Err f → length r ≡ f.left
end_faults true r f e = cc
end_faults false r f e = left_is kind.Size r f e

pub within_stays : {X : Type 0} (n : ℕ) (p : Rule X) → Stays p → Stays (within n p)
within_stays n p sp = record {
  keeps = λ s x r e.
      let a = both (p.read s) (λ x r. and_then (end_at n s r) (λ _ r. Ok (x, r))) (x, r) e in
      let b = both (end_at n s a.1) (λ _ r. Ok (a.0, r)) (x, r) a.3 in
      let c = end_sound n s a.1 b.1 b.2 in
      let first = ap length c.0 in
      let rest = ap (λ p. length p.1) (inside b.3) in
      omega (arith, c.1, first, rest);
  faults = λ s f e. elim (failed (p.read s) (λ x r. and_then (end_at n s r) (λ _ r. Ok (x, r))) f e) [
    | inl h ↦ sp.faults s f h
    | inr h ↦ (elim (failed (end_at n s h.1) (λ _ r. Ok (h.0, r)) f h.3) [
      | inl g ↦ (let at = end_faults (eqb (length h.1 + n) (length s)) h.1 f g in let kept = sp.keeps s h.0 h.1 h.2 in omega (arith, at, kept))
      | inr g ↦ (let no = g.3 in cc)
    ])
  ];
}

up_to_faults : (a b : Bool) (s m : List ℕ) (q : List ℕ × List ℕ) (f : Fault) → length m ≤ length s
    → cond {A = Result (List ℕ × List ℕ) Fault} a (Err (fault kind.Short s)) (cond b (Err (fault kind.Size m)) (Ok q)) ≡ Err f → f.left ≤ length s
up_to_faults true b s m q f le e = let at = left_is kind.Short s f e in omega (arith, at)
up_to_faults false true s m q f le e = let at = left_is kind.Size m f e in omega (arith, at, le)
up_to_faults false false s m q f le e = cc

pub with_rest_stays : {X : Type 0} (n : ℕ) (p : Rule X) → Stays p → Stays (with_rest n p)
with_rest_stays n p sp = record {
  keeps = λ s x r e.
      let a = both (p.read s) (λ x m. and_then (up_to n s m) (λ t r. Ok ((x, t), r))) (x, r) e in
      let b = both (up_to n s a.1) (λ t r. Ok ((a.0, t), r)) (x, r) a.3 in
      let c = up_to_sound n s a.1 b.0 b.1 b.2 in
      let rest = ap (λ p. length p.1) (inside b.3) in
      omega (arith, c.1, rest);
  faults = λ s f e. elim (failed (p.read s) (λ x m. and_then (up_to n s m) (λ t r. Ok ((x, t), r))) f e) [
    | inl h ↦ sp.faults s f h
    | inr h ↦ (elim (failed (up_to n s h.1) (λ t r. Ok ((h.0, t), r)) f h.3) [
      | inl g ↦ up_to_faults (ltb (length s) n) (ltb (length h.1 + n) (length s)) s h.1 _ f (sp.keeps s h.0 h.1 h.2) g
      | inr g ↦ (let no = g.3 in cc)
    ])
  ];
}

pub times_stays : {X : Type 0} (n : ℕ) (p : Rule X) → Stays p → Stays (times n p)
unfolding times
times_stays zero p sp = pure_stays []
times_stays (suc n) p sp = bind_stays _ _ sp (λ x. bind_stays _ _ (times_stays n p sp) (λ xs. pure_stays (x ∷ xs)))

module _ {X : Type 0} (p : Rule X) (sp : Stays p) where
  all_keeps : (n : ℕ) (s : List ℕ) (q : List X × List ℕ) → read_all p.read n s ≡ Ok q → length q.1 ≤ length s
  unfolding read_all
  all_keeps zero s q e = let same = ap (λ p. length p.1) (inside e) in omega (arith, same)
  all_keeps (suc n) [] q e = let same = ap (λ p. length p.1) (inside e) in omega (arith, same)
  all_keeps (suc n) (b ∷ s) q e =
      let a = both (p.read (b ∷ s)) (λ x m. front x (read_all p.read n m)) q e in
      let f = in_front a.0 (read_all p.read n a.1) q a.3 in
      let one = sp.keeps (b ∷ s) a.0 a.1 a.2 in
      let two = all_keeps n a.1 (f.0, f.1) f.2 in
      let same = ap (λ p. length p.1) f.3 in
      omega (arith, one, two, same)

  all_faults : (n : ℕ) (s : List ℕ) (f : Fault) → read_all p.read n s ≡ Err f → f.left ≤ length s
  unfolding read_all
  all_faults zero s f e = cc
  all_faults (suc n) [] f e = cc
  all_faults (suc n) (b ∷ s) f e = elim (failed (p.read (b ∷ s)) (λ x m. front x (read_all p.read n m)) f e) [
    | inl h ↦ sp.faults (b ∷ s) f h
    | inr h ↦
        (let one = sp.keeps (b ∷ s) h.0 h.1 h.2 in
        let two = all_faults n h.1 f (front_failed h.0 (read_all p.read n h.1) f h.3) in
        omega (arith, one, two))
  ]

  pub all_stays : Stays (all_of p)
  all_stays = record { keeps = λ s xs r e. all_keeps (length s) s (xs, r) e; faults = λ s f e. all_faults (length s) s f e }
