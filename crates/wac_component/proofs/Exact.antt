-- A rule reads just what it says, and its faults stand in what it reads.
use Rattle.std.proofs.Common.{◌≡◌, ℕ, zero, suc, ◌+◌, ◌≤◌, inl, inr, Bool, true, false, List, [], ◌∷◌, ◌++◌, length, take, drop, Ok, refl, ap, subst, sym, ◌∙◌, arith, ltb}
use Rattle.std.proofs.lemmas.Bool.{ltb-false, le-ltb}
use Rattle.std.proofs.lemmas.List.{take_at, drop_at, take-append-drop, length-append, length-take}
use Rattle.wac_component.specs.declared.fault.FaultKind.{FaultKind}
use Rattle.wac_component.specs.declared.fault.FaultKind.TheVariants as kind
use Rattle.wac_component.proofs.Steps.{pair, inside, both, byte_sound, passed, end_sound, end_complete, up_to_sound, up_to_complete}
use Rattle.wac_component.proofs.Stays.{Stays, bind_stays, pure_stays, refuse_stays, choose_stays, byte_stays, peek_stays, bytes_stays, room_stays, within_stays, with_rest_stays}
use Rattle.wac_component.specs.Rules.{Rule, fault, and_then, ◌>>=◌, pure, refuse, choose, byte_at, byte, peek, bytes, room, end_at, within, up_to, with_rest, times}

pub record Exact {X : Type 0} (p : Rule X) : Type 0 where
  pub sound : (s : List ℕ) (x : X) (r : List ℕ) → p.read s ≡ Ok (x, r) → p.Is x s r
  pub complete : (s : List ℕ) (x : X) (r : List ℕ) → p.Is x s r → p.read s ≡ Ok (x, r)
  pub stays : Stays p

pub bind : {A B : Type 0} (p : Rule A) (f : A → Rule B) → Exact p → ((a : A) → Exact (f a)) → Exact (p >>= f)
bind p f ep ef = record {
  sound = λ s y r e. let b = both (p.read s) (λ a m. (f a).read m) (y, r) e in (b.0, b.1, ep.sound s b.0 b.1 b.2, (ef b.0).sound b.1 y r b.3);
  complete = λ s y r h. rw (ep.complete s h.0 h.1 h.2) ((ef h.0).complete h.1 y r h.3);
  stays = bind_stays p f ep.stays (λ a. (ef a).stays);
}

pub pure_exact : {X : Type 0} (x : X) → Exact (pure x)
pure_exact x = record {
  sound = λ s y r e. (sym (ap (λ p. p.0) (inside e)), sym (ap (λ p. p.1) (inside e)));
  complete = λ s y r h. rw (h.0, h.1) refl;
  stays = pure_stays x;
}

pub refuse_exact : {X : Type 0} (k : FaultKind) → Exact (refuse {X = X} k)
refuse_exact k = record { sound = λ s y r e. cc; complete = λ s y r h. absurd h; stays = refuse_stays k }

pub choose_exact : {X : Type 0} (b : Bool) (p q : Rule X) → Exact p → Exact q → Exact (choose b p q)
choose_exact true p q ep eq = record {
  sound = λ s y r e. inl (refl, ep.sound s y r e);
  complete = λ s y r h. elim h [ inl w ↦ ep.complete s y r w.1 | inr w ↦ cc ];
  stays = choose_stays true p q ep.stays eq.stays;
}
choose_exact false p q ep eq = record {
  sound = λ s y r e. inr (refl, eq.sound s y r e);
  complete = λ s y r h. elim h [ inl w ↦ cc | inr w ↦ eq.complete s y r w.1 ];
  stays = choose_stays false p q ep.stays eq.stays;
}

-- ---- bytes

pub byte_exact : Exact byte
byte_exact = record { sound = byte_sound; complete = λ s b r h. rw h refl; stays = byte_stays }

pub peek_exact : Exact peek
peek_exact = record {
  sound = λ s b r e.
      let g = both (byte_at s) (λ b _. Ok (b, s)) (b, r) e in
      let value : g.0 ≡ b = ap (λ p. p.0) (inside g.3) in
      let rest : s ≡ r = ap (λ p. p.1) (inside g.3) in
      (g.1, subst (λ (b : ℕ). s ≡ b ∷ g.1) value (byte_sound s g.0 g.1 g.2), sym rest);
  complete = λ s b r h. rw (h.2, h.1) refl;
  stays = peek_stays;
}

pub bytes_exact : (n : ℕ) → Exact (bytes n)
bytes_exact n = record {
  sound = λ s x r e.
      let g = passed (ltb (length s) n) (fault kind.Short s) (Ok (take n s, drop n s)) (x, r) e in
      let long : n ≤ length s = ltb-false _ _ g.0 in
      let front : take n s ≡ x = ap (λ p. p.0) (inside g.1) in
      let rest : drop n s ≡ r = ap (λ p. p.1) (inside g.1) in
      (rw (← front) (omega (arith, length-take n s)), rw (← front, ← rest) (sym (take-append-drop n s)));
  complete = λ s x r h.
      let long : ltb (length (x ++ r)) n ≡ false = le-ltb _ _ (omega (arith, length-append x r, h.0)) in
      rw (h.1, long, take_at x r n h.0, drop_at x r n h.0) refl;
  stays = bytes_stays n;
}

pub room_exact : (n : ℕ) → Exact (room n)
room_exact n = record {
  sound = λ s x r e.
      let g = passed (ltb (length s) n) (fault kind.Short s) (Ok (tt, s)) (x, r) e in
      (ltb-false _ _ g.0, sym (ap (λ p. p.1) (inside g.1)));
  complete = λ s x r h. let long : ltb (length s) n ≡ false = le-ltb _ _ h.0 in rw (long, h.1) refl;
  stays = room_stays n;
}

pub within_exact : {X : Type 0} (n : ℕ) (p : Rule X) → Exact p → Exact (within n p)
within_exact n p ep = record {
  sound = λ s x r e.
      let a = both (p.read s) (λ x r. and_then (end_at n s r) (λ _ r. Ok (x, r))) (x, r) e in
      let b = both (end_at n s a.1) (λ _ r. Ok (a.0, r)) (x, r) a.3 in
      let c = end_sound n s a.1 b.1 b.2 in
      let value : a.0 ≡ x = ap (λ p. p.0) (inside b.3) in
      let rest : a.1 ≡ r = c.0 ∙ ap (λ p. p.1) (inside b.3) in
      subst (λ (q : _ × List ℕ). p.Is q.0 s q.1 × (length q.1 + n ≡ length s)) (pair value rest) (ep.sound s a.0 a.1 a.2, c.1);
  complete = λ s x r h. rw (ep.complete s x r h.0, end_complete n s r h.1) refl;
  stays = within_stays n p ep.stays;
}

pub with_rest_exact : {X : Type 0} (n : ℕ) (p : Rule X) → Exact p → Exact (with_rest n p)
with_rest_exact n p ep = record {
  sound = λ s x r e.
      let a = both (p.read s) (λ x m. and_then (up_to n s m) (λ t r. Ok ((x, t), r))) (x, r) e in
      let b = both (up_to n s a.1) (λ t r. Ok ((a.0, t), r)) (x, r) a.3 in
      let c = up_to_sound n s a.1 b.0 b.1 b.2 in
      subst (λ (q : (_ × List ℕ) × List ℕ). (m : List ℕ) × p.Is q.0.0 s m × (m ≡ q.0.1 ++ q.1) × (length q.1 + n ≡ length s)) (inside b.3)
      (a.1, ep.sound s a.0 a.1 a.2, c.0, c.1);
  complete = λ s x r h. rw (ep.complete s x.0 h.0 h.1, up_to_complete n s h.0 x.1 r h.2 h.3) refl;
  stays = with_rest_stays n p ep.stays;
}

-- ---- lists

pub times_exact : {X : Type 0} (n : ℕ) (p : Rule X) → Exact p → Exact (times n p)
unfolding times
times_exact zero p ep = pure_exact []
times_exact (suc n) p ep = bind _ _ ep (λ x. bind _ _ (times_exact n p ep) (λ xs. pure_exact (x ∷ xs)))
