-- Places that need each other in no circle, each behind those that it needs.
use Rattle.std.proofs.Common.{◌≡◌, ◌<◌, ◌≤◌, ℕ, ◌+◌, zero, suc, Bool, true, false, true≢false, ◌||◌, List, [], ◌∷◌, ◌++◌, length, refl, sym, ap, ◌∙◌, subst, arith, inl, inr}
use Rattle.std.specs.Prelude.{◌⊎◌, eqb, nat_le, if◌then◌else◌}
use Rattle.std.specs.List.{fold, list_any, IsDistinct, AllByRecursion}
use Rattle.std.proofs.lemmas.Bool.{leb-true}
use Rattle.std.proofs.lemmas.Bool.Decides.{Decides-eqb, leb_tells}
use Rattle.std.proofs.lemmas.Map.Keys.{IsDistinct-cons}
use Rattle.std.proofs.lemmas.Map.Steps.{length-le_from_distinct_below}
use Rattle.wac_types_base.specs.Graph.{Among}
use Rattle.wac_types_base.proofs.Adding.{Among-left, Among-right}
use Rattle.wac_graph_scopes.specs.Behind.{has_place, needs_at, put, put_each, AreBehind, Falls, IsBehindNeeds}

-- ---- whether a place is among others

first_or_later : (n m : ℕ) (ms : List ℕ) → (has_place ms n ≡ true → Among n ms) → (b : Bool) → eqb n m ≡ b → (eqb n m || has_place ms n) ≡ true → Among n (m ∷ ms)
first_or_later n m ms later true e h = inl ((Decides-eqb n m).0 e)
first_or_later n m ms later false e h = inr (later (sym (ap (λ t. t || list_any (eqb n) ms) e) ∙ h))

pub place_among : (ns : List ℕ) (n : ℕ) → has_place ns n ≡ true → Among n ns
place_among [] n h = absurd (true≢false (sym h))
place_among (m ∷ ms) n h = first_or_later n m ms (place_among ms n) (eqb n m) refl h

or_false : (b : Bool) → (b || false) ≡ b
or_false true = refl
or_false false = refl

or_true : (b : Bool) → (b || true) ≡ true
or_true true = refl
or_true false = refl

pub among_place : (ns : List ℕ) (n : ℕ) → Among n ns → has_place ns n ≡ true
among_place [] n m = absurd m
among_place (k ∷ ks) n (inl e) = ap (λ t. t || list_any (eqb n) ks) ((Decides-eqb n k).1 e)
among_place (k ∷ ks) n (inr m) = ap (λ t. eqb n k || t) (among_place ks n m) ∙ or_true (eqb n k)

-- ---- the last of a list

pub split_last : (ns before rest : List ℕ) (p n : ℕ) → ns ++ p ∷ [] ≡ before ++ n ∷ rest → ((n ≡ p) × (before ≡ ns)) ⊎ ((left : List ℕ) × (ns ≡ before ++ n ∷ left))
split_last [] [] rest p n e = inl (cc e, refl)
split_last [] (b ∷ []) rest p n e = absurd (cc e)
split_last [] (b ∷ (c ∷ bs)) rest p n e = absurd (cc e)
split_last (k ∷ ks) [] rest p n e = inr (ks, cc e)
split_last (k ∷ ks) (b ∷ bs) rest p n e = elim (split_last ks bs rest p n (cc e)) [
  | inl h ↦ inl (h.0, cc (e, h.1))
  | inr h ↦ inr (h.0, cc (e, h.1))
]

-- ---- tests

or_cases : (a b c : Bool) → ((a || b) || c) ≡ true → (a ≡ true) ⊎ ((b ≡ true) ⊎ (c ≡ true))
or_cases true b c e = inl refl
or_cases false true c e = inr (inl refl)
or_cases false false c e = inr (inr e)

or_none : (a b c : Bool) → ((a || b) || c) ≡ false → (a ≡ false) × (b ≡ false) × (c ≡ false)
or_none true b c e = absurd (true≢false e)
or_none false true c e = absurd (true≢false e)
or_none false false c e = (refl, refl, e)

pub not_below : (a b : ℕ) → nat_le a b ≡ false → b < a
not_below a b e = elim (leb_tells a b) [ inl h ↦ absurd (true≢false (sym h.0 ∙ e)) | inr h ↦ h.1 ]

all_apart : (n : ℕ) (ws : List ℕ) → has_place ws n ≡ false → AllByRecursion (λ y. eqb n y ≡ false) ws
all_apart n [] e = tt
all_apart n (w ∷ ws) e = let h = or_none (eqb n w) (list_any (eqb n) ws) false (or_false (eqb n w || list_any (eqb n) ws) ∙ e) in (h.0, all_apart n ws h.1)

none_distinct : IsDistinct eqb []
unfolding IsDistinct
none_distinct = tt

-- ---- what is put

module _ (needs : List (List ℕ)) (test : ℕ → Bool) (rank : ℕ → ℕ) (falls : Falls needs test rank) where
  -- a tested place that waits has a greater rank, and then this one is tested
  abbrev AreAbove : List ℕ → ℕ → Type 0
  AreAbove ws n = (w : ℕ) → Among w ws → test w ≡ true → n < length needs → (test n ≡ true) × (rank n < rank w)

  -- those that wait are places, each once
  record Wait (ws : List ℕ) : Type 0 where
    distinct : IsDistinct eqb ws
    within : (w : ℕ) → Among w ws → w < length needs

  -- these are behind what they need, among them what stood, and the tested ones of these
  record ArePut (ns ordered xs : List ℕ) : Type 0 where
    behind : AreBehind needs test ordered
    kept : (m : ℕ) → Among m ns → Among m ordered
    there : (m : ℕ) → Among m xs → test m ≡ true → m < length needs → Among m ordered

  all_put : (f : List ℕ → ℕ → List ℕ) (xs : List ℕ) → ((ns : List ℕ) (m : ℕ) → Among m xs → AreBehind needs test ns → ArePut ns (f ns m) (m ∷ []))
      → (ns : List ℕ) → AreBehind needs test ns → ArePut ns (fold f ns xs) xs
  all_put f [] one ns h = record { behind = h; kept = λ m a. a; there = λ m a. absurd a }
  all_put f (x ∷ xs) one ns h =
      let a = one ns x (inl refl) h in
      let b = all_put f xs (λ os m i. one os m (inr i)) (f ns x) a.behind in
      record {
        behind = b.behind;
        kept = λ m i. b.kept m (a.kept m i);
        there = λ m i t lt. elim i [ inl e ↦ b.kept m (a.there m (inl e) t lt) | inr j ↦ b.there m j t lt ];
      }

  -- it does not wait
  not_waiting : (ws : List ℕ) (n : ℕ) → AreAbove ws n → test n ≡ true → n < length needs → Among n ws → ⊥
  not_waiting ws n above t lt i = let h = above n i t lt in omega (arith, h.1)

  one_more : (ws : List ℕ) (n : ℕ) → Wait ws → n < length needs → has_place ws n ≡ false → Wait (n ∷ ws)
  one_more ws n wait lt e = record {
    distinct = IsDistinct-cons eqb n ws (all_apart n ws e) wait.distinct;
    within = λ w i. elim i [ inl q ↦ subst (λ (m : ℕ). m < length needs) (sym q) lt | inr j ↦ wait.within w j ];
  }

  -- so many places do not wait at once
  no_room : (ws : List ℕ) → Wait ws → length ws ≤ length needs
  no_room ws wait = length-le_from_distinct_below ws (length needs) wait.distinct (λ q h. wait.within q (place_among ws q h))

  no_depth : (ws : List ℕ) (n : ℕ) → Wait ws → length needs ≤ length ws → AreAbove ws n → test n ≡ true → n < length needs → ⊥
  no_depth ws n wait full above t lt = go (has_place ws n) refl
    where
      go : (b : Bool) → has_place ws n ≡ b → ⊥
      go true e = not_waiting ws n above t lt (place_among ws n e)
      go false e = let h = no_room (n ∷ ws) (one_more ws n wait lt e) in omega (arith, h, full)

  module _ (k : ℕ) (ws ns : List ℕ) (n : ℕ) (wait : Wait ws) (deep : length needs ≤ suc k + length ws) (above : AreAbove ws n) (h : AreBehind needs test ns)
      (next : (os : List ℕ) (m : ℕ) → Wait (n ∷ ws) → AreAbove (n ∷ ws) m → AreBehind needs test os → ArePut os (put needs k (n ∷ ws) os m) (m ∷ [])) where
    above_need : n < length needs → (m : ℕ) → Among m (needs_at needs n) → AreAbove (n ∷ ws) m
    above_need within m i w (inl e) t lt = let f = falls n m (ap test (sym e) ∙ t) i lt in (f.0, subst (λ (j : ℕ). rank m < rank j) (sym e) f.1)
    above_need within m i w (inr j) t lt =
        let u = above w j t within in
        let f = falls n m u.0 i lt in (f.0, omega (arith, u.1, f.1))

    last_put : (r : List ℕ) → ArePut ns r (needs_at needs n) → ArePut ns (r ++ n ∷ []) (n ∷ [])
    last_put r a = record {
      behind = λ before rest p m e t i lt. elim (split_last r before rest n p e) [
        | inl q ↦ let t' : test n ≡ true = ap test (sym q.0) ∙ t in
            let i' : Among m (needs_at needs n) = subst (λ (j : ℕ). Among m (needs_at needs j)) q.0 i in
            subst (Among m) (sym q.1) (a.there m i' (falls n m t' i' lt).0 lt)
        | inr q ↦ a.behind before q.0 p m q.1 t i lt
      ];
      kept = λ m i. Among-left m r (n ∷ []) (a.kept m i);
      there = λ m i t lt. Among-right m r (n ∷ []) i;
    }

    put_one : (b : Bool) → (has_place ws n || has_place ns n || nat_le (length needs) n) ≡ b
        → ArePut ns (if b then ns else fold (put needs k (n ∷ ws)) ns (needs_at needs n) ++ n ∷ []) (n ∷ [])
    put_one true e = record {
      behind = h;
      kept = λ m i. i;
      there = λ m i t lt. elim i [
        | inl q ↦ there_already m q t lt (or_cases (has_place ws n) (has_place ns n) (nat_le (length needs) n) e)
        | inr z ↦ absurd z
      ];
    }
      where
        there_already : (m : ℕ) → m ≡ n → test m ≡ true → m < length needs → (has_place ws n ≡ true) ⊎ ((has_place ns n ≡ true) ⊎ (nat_le (length needs) n ≡ true)) → Among m ns
        there_already m q t lt (inl x) = absurd (not_waiting ws n above (ap test (sym q) ∙ t) (omega (arith, q, lt)) (place_among ws n x))
        there_already m q t lt (inr (inl y)) = subst (λ (j : ℕ). Among j ns) (sym q) (place_among ns n y)
        there_already m q t lt (inr (inr z)) = absurd (let le = leb-true (length needs) n z in omega (arith, le, q, lt))
    put_one false e =
        let o = or_none (has_place ws n) (has_place ns n) (nat_le (length needs) n) e in
        let lt = not_below (length needs) n o.2 in
        let more = one_more ws n wait lt o.0 in
        last_put (fold (put needs k (n ∷ ws)) ns (needs_at needs n)) (all_put (put needs k (n ∷ ws)) (needs_at needs n) (λ os m i g. next os m more (above_need lt m i) g) ns h)

  puts : (k : ℕ) (ws ns : List ℕ) (n : ℕ) → Wait ws → length needs ≤ k + length ws → AreAbove ws n → AreBehind needs test ns → ArePut ns (put needs k ws ns n) (n ∷ [])
  puts zero ws ns n wait deep above h = record {
    behind = h;
    kept = λ m i. i;
    there = λ m i t lt. elim i [
      | inl q ↦ absurd (no_depth ws n wait (omega (arith, deep)) above (ap test (sym q) ∙ t) (omega (arith, q, lt)))
      | inr z ↦ absurd z
    ];
  }
  puts (suc k) ws ns n wait deep above h =
      put_one k ws ns n wait deep above h (λ os m more over g. puts k (n ∷ ws) os m more (omega (arith, deep)) over g)
      (has_place ws n || has_place ns n || nat_le (length needs) n) refl

  each_put : (ns ks : List ℕ) → AreBehind needs test ns → AreBehind needs test (put_each needs ns ks)
  each_put ns ks h =
      let none : Wait [] = record { distinct = none_distinct; within = λ w i. absurd i } in
      let all = all_put (put needs (length needs) []) ks (λ os m i g. puts (length needs) [] os m none (omega arith) (λ w j. absurd j) g) ns h in
      all.behind

nothing_before : (before rest : List ℕ) (n : ℕ) → [] ≡ before ++ n ∷ rest → ⊥
nothing_before [] rest n e = absurd (cc e)
nothing_before (b ∷ bs) rest n e = absurd (cc e)

pub none_behind : (needs : List (List ℕ)) → IsBehindNeeds needs []
none_behind needs test rank falls before rest n m e t i lt = absurd (nothing_before before rest n e)

pub each_behind : (needs : List (List ℕ)) (ns ks : List ℕ) → IsBehindNeeds needs ns → IsBehindNeeds needs (put_each needs ns ks)
each_behind needs ns ks h test rank falls = each_put needs test rank falls ns ks (h test rank falls)
