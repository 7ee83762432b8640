-- What a member of a list reaches by a relation that is a test: after as many steps as the list is long, all of it, and
-- each member of that reaches the same.
use Rattle.std.specs.Prelude.{cond, filter, ◌||◌}
use Rattle.std.specs.List.{list_any}
use Rattle.std.proofs.Common.{◌≡◌, ℕ, zero, suc, ◌<◌, ◌≤◌, List, [], ◌∷◌, length, Bool, true, false, true≢false, ◌⊎◌, inl, inr, refl, sym, ap, subst, ◌∙◌, arith}
use Rattle.wac_types_base.specs.Graph.{Among}

-- ---- tests and lists

module _ {X : Type 0} where
  pub any_among : (t : X → Bool) (ms : List X) → list_any t ms ≡ true → (c : X) × Among c ms × (t c ≡ true)
  any_among t [] e = absurd (true≢false (sym e))
  any_among t (m ∷ ms) e = go (any_among t ms) (t m) refl e
    where
      go : (list_any t ms ≡ true → (c : X) × Among c ms × (t c ≡ true)) → (b : Bool) → t m ≡ b → (b || list_any t ms) ≡ true → (c : X) × Among c (m ∷ ms) × (t c ≡ true)
      go rest true q r = (m, inl refl, q)
      go rest false q r = let h = rest r in (h.0, inr h.1, h.2)

  pub among_any : (t : X → Bool) (ms : List X) (c : X) → Among c ms → t c ≡ true → list_any t ms ≡ true
  among_any t (m ∷ ms) c (inl d) e = ap (λ b. b || list_any t ms) (ap t (sym d) ∙ e)
  among_any t (m ∷ ms) c (inr n) e = go (t m) (among_any t ms c n e)
    where
      go : (b : Bool) → list_any t ms ≡ true → (b || list_any t ms) ≡ true
      go true q = refl
      go false q = q
  among_any t [] c n e = absurd n

  pub filter_among : (p : X → Bool) (xs : List X) (b : X) → Among b (filter p xs) → Among b xs × (p b ≡ true)
  filter_among p [] b m = absurd m
  filter_among p (x ∷ xs) b m = go (filter_among p xs b) (p x) refl m
    where
      go : (Among b (filter p xs) → Among b xs × (p b ≡ true)) → (k : Bool) → p x ≡ k → Among b (cond k (x ∷ filter p xs) (filter p xs)) → Among b (x ∷ xs) × (p b ≡ true)
      go rest true q (inl e) = (inl e, ap p e ∙ q)
      go rest true q (inr n) = let h = rest n in (inr h.0, h.1)
      go rest false q n = let h = rest n in (inr h.0, h.1)

  pub among_filter : (p : X → Bool) (xs : List X) (b : X) → Among b xs → p b ≡ true → Among b (filter p xs)
  among_filter p [] b m e = absurd m
  among_filter p (x ∷ xs) b (inl d) e = go (p x) refl
    where
      go : (k : Bool) → p x ≡ k → Among b (cond k (x ∷ filter p xs) (filter p xs))
      go true q = inl d
      go false q = absurd (true≢false (sym e ∙ ap p d ∙ q))
  among_filter p (x ∷ xs) b (inr n) e = go (among_filter p xs b n e) (p x)
    where
      go : Among b (filter p xs) → (k : Bool) → Among b (cond k (x ∷ filter p xs) (filter p xs))
      go h true = inr h
      go h false = h

  -- a wider test lets the same through, or more
  filter_wider : (p q : X → Bool) (xs : List X) → ((b : X) → Among b xs → p b ≡ true → q b ≡ true) → (filter p xs ≡ filter q xs) ⊎ (length (filter p xs) < length (filter q xs))
  filter_wider p q [] h = inl refl
  filter_wider p q (x ∷ xs) h = go (filter_wider p q xs (λ b m. h b (inr m))) (p x) refl (q x) refl
    where
      go : (filter p xs ≡ filter q xs) ⊎ (length (filter p xs) < length (filter q xs)) → (j : Bool) → p x ≡ j → (k : Bool) → q x ≡ k
          → (cond j (x ∷ filter p xs) (filter p xs) ≡ cond k (x ∷ filter q xs) (filter q xs)) ⊎ (length (cond j (x ∷ filter p xs) (filter p xs)) < length (cond k (x ∷ filter q xs) (filter q xs)))
      go (inl e) true a true b = inl (ap (λ l. x ∷ l) e)
      go (inr l) true a true b = inr (omega (arith, l))
      go r true a false b = absurd (true≢false (sym (h x (inl refl) a) ∙ b))
      go (inl e) false a true b = let l : length (filter p xs) ≡ length (filter q xs) = ap length e in inr (omega (arith, l))
      go (inr l) false a true b = inr (omega (arith, l))
      go r false a false b = r

  filter_length : (p : X → Bool) (xs : List X) → length (filter p xs) ≤ length xs
  filter_length p [] = omega arith
  filter_length p (x ∷ xs) = go (filter_length p xs) (p x)
    where
      go : length (filter p xs) ≤ length xs → (k : Bool) → length (cond k (x ∷ filter p xs) (filter p xs)) ≤ length (x ∷ xs)
      go h true = omega (arith, h)
      go h false = omega (arith, h)

  pub filter_same : (p q : X → Bool) (xs : List X) → ((b : X) → Among b xs → p b ≡ true → q b ≡ true) → ((b : X) → Among b xs → q b ≡ true → p b ≡ true) → filter p xs ≡ filter q xs
  filter_same p q [] f g = refl
  filter_same p q (x ∷ xs) f g = go (filter_same p q xs (λ b m. f b (inr m)) (λ b m. g b (inr m))) (p x) refl (q x) refl
    where
      go : filter p xs ≡ filter q xs → (j : Bool) → p x ≡ j → (k : Bool) → q x ≡ k → cond j (x ∷ filter p xs) (filter p xs) ≡ cond k (x ∷ filter q xs) (filter q xs)
      go e true a true b = ap (λ l. x ∷ l) e
      go e false a false b = e
      go e true a false b = absurd (true≢false (sym (f x (inl refl) a) ∙ b))
      go e false a true b = absurd (true≢false (sym (g x (inl refl) b) ∙ a))

-- ---- what is reached

module _ {X : Type 0} (J : X → X → Bool) (all : List X) where
  abbrev pub step : List X → List X
  step ms = filter (λ b. list_any (J b) ms) all

  abbrev pub steps : ℕ → List X → List X
  steps zero ms = ms
  steps (suc k) ms = steps k (step ms)

  steps_out : (k : ℕ) (ms : List X) → steps (suc k) ms ≡ step (steps k ms)
  steps_out zero ms = refl
  steps_out (suc k) ms = steps_out k (step ms)

  -- what holds of the first and passes on holds of all that is reached
  pub least : (P : X → Type 0) (a : X) → P a → ((b c : X) → Among b all → P c → J b c ≡ true → P b) → (k : ℕ) (b : X) → Among b (steps k (a ∷ [])) → P b
  least P a first next zero b (inl e) = subst P (sym e) first
  least P a first next zero b (inr m) = absurd m
  least P a first next (suc k) b m =
      let f = filter_among (λ b. list_any (J b) (steps k (a ∷ []))) all b (subst (Among b) (steps_out k (a ∷ [])) m) in
      let c = any_among (J b) (steps k (a ∷ [])) f.1 in
      next b c.0 f.0 (least P a first next k c.0 c.1) c.2

  module _ (itself : (x : X) → J x x ≡ true) (turned : (x y : X) → J x y ≡ true → J y x ≡ true) where
    -- more steps reach no less
    step_more : (a : X) → Among a all → (k : ℕ) (b : X) → Among b (steps k (a ∷ [])) → Among b all × Among b (steps (suc k) (a ∷ []))
    step_more a there k b m =
        let within = least (λ x. Among x all) a there (λ x y h p e. h) k b m in
        (within, subst (Among b) (sym (steps_out k (a ∷ []))) (among_filter (λ b. list_any (J b) (steps k (a ∷ []))) all b within (among_any (J b) (steps k (a ∷ [])) b m (itself b))))

    reaches_itself : (a : X) → Among a all → (k : ℕ) → Among a (steps k (a ∷ []))
    reaches_itself a there zero = inl refl
    reaches_itself a there (suc k) = (step_more a there k a (reaches_itself a there k)).1

    some_length : (ms : List X) (a : X) → Among a ms → 1 ≤ length ms
    some_length [] a m = absurd m
    some_length (x ∷ ms) a m = omega arith

    -- either nothing more is reached, or as much as there were steps
    abbrev Grown : X → ℕ → Type 0
    Grown a k = (steps (suc (suc k)) (a ∷ []) ≡ steps (suc k) (a ∷ [])) ⊎ (suc k ≤ length (steps (suc k) (a ∷ [])))

    wider : (a : X) → Among a all → (k : ℕ) → (steps (suc k) (a ∷ []) ≡ steps (suc (suc k)) (a ∷ [])) ⊎ (length (steps (suc k) (a ∷ [])) < length (steps (suc (suc k)) (a ∷ [])))
    wider a there k =
        let before = λ (b : X). list_any (J b) (steps k (a ∷ [])) in
        let after = λ (b : X). list_any (J b) (steps (suc k) (a ∷ [])) in
        let w = filter_wider before after all (λ b m e. let c = any_among (J b) (steps k (a ∷ [])) e in among_any (J b) (steps (suc k) (a ∷ [])) c.0 (step_more a there k c.0 c.1).1 c.2) in
        elim w [
          | inl e ↦ inl (steps_out k (a ∷ []) ∙ e ∙ sym (steps_out (suc k) (a ∷ [])))
          | inr l ↦ inr (subst (λ ms. length ms < length (steps (suc (suc k)) (a ∷ []))) (sym (steps_out k (a ∷ []))) (subst (λ ms. length (filter before all) < length ms) (sym (steps_out (suc k) (a ∷ []))) l))
        ]

    grown : (a : X) → Among a all → (k : ℕ) → Grown a k
    grown a there zero = inr (some_length (steps (suc zero) (a ∷ [])) a (reaches_itself a there (suc zero)))
    grown a there (suc k) = elim (grown a there k) [
      | inl e ↦ inl (steps_out (suc (suc k)) (a ∷ []) ∙ ap step e ∙ sym (steps_out (suc k) (a ∷ [])))
      | inr h ↦ elim (wider a there k) [
        | inl e ↦ inl (steps_out (suc (suc k)) (a ∷ []) ∙ ap step (sym e) ∙ sym (steps_out (suc k) (a ∷ [])))
        | inr l ↦ inr (omega (arith, h, l))
      ]
    ]

    unfoldable pub reached : X → List X
    reached a = steps (length all) (a ∷ [])

    -- one more step reaches no more
    closed_at : (a : X) → Among a all → (n : ℕ) → length all ≡ suc n → step (steps (suc n) (a ∷ [])) ≡ steps (suc n) (a ∷ [])
    closed_at a there n e = elim (grown a there n) [
      | inl s ↦ sym (steps_out (suc n) (a ∷ [])) ∙ s
      | inr h ↦ elim (wider a there n) [
        | inl s ↦ sym (steps_out (suc n) (a ∷ [])) ∙ sym s
        | inr l ↦
            let most : length (steps (suc (suc n)) (a ∷ [])) ≤ length all = subst (λ ms. length ms ≤ length all) (sym (steps_out (suc n) (a ∷ []))) (filter_length (λ b. list_any (J b) (steps (suc n) (a ∷ []))) all) in
            absurd (omega (arith, h, l, most, e))
      ]
    ]

    pub closed : (a : X) → Among a all → step (reached a) ≡ reached a
    unfolding reached
    closed a there = go (length all) refl
      where
        go : (n : ℕ) → length all ≡ n → step (steps n (a ∷ [])) ≡ steps n (a ∷ [])
        go zero e = let l = some_length all a there in absurd (omega (arith, l, e))
        go (suc n) e = closed_at a there n e

    pub reached_within : (a b : X) → Among a all → Among b (reached a) → Among b all
    unfolding reached
    reached_within a b there m = least (λ x. Among x all) a there (λ x y h p e. h) (length all) b m

    pub reached_itself : (a : X) → Among a all → Among a (reached a)
    unfolding reached
    reached_itself a there = reaches_itself a there (length all)

    pub reached_next : (a b c : X) → Among a all → Among b all → Among c (reached a) → J b c ≡ true → Among b (reached a)
    reached_next a b c there m n e = subst (Among b) (closed a there) (among_filter (λ b. list_any (J b) (reached a)) all b m (among_any (J b) (reached a) c n e))

    -- what a member reaches is reached
    through : (a b : X) → Among a all → Among b (reached a) → (c : X) → Among c (reached b) → Among c (reached a)
    unfolding reached
    through a b there m c n = least (λ x. Among x (reached a)) b m (λ x y h p e. reached_next a x y there h p e) (length all) c n

    -- and reaches it back
    back : (a b : X) → Among a all → Among b (reached a) → Among a (reached b)
    unfolding reached
    back a b there m =
        (least (λ x. Among x all × Among a (reached x)) a (there, reached_itself a there)
        (λ x y h p e. (h, through x y h (reached_next x y x h p.0 (reached_itself x h) (turned x y e)) a p.1)) (length all) b m).1

    -- so both reach the same
    pub reached_same : (a b : X) → Among a all → Among b (reached a) → reached a ≡ reached b
    reached_same a b there m =
        let other = reached_within a b there m in
        let one = λ (x : X). list_any (J x) (reached a) in
        let two = λ (x : X). list_any (J x) (reached b) in
        let is = filter_same one two all
        (λ x h e. let c = any_among (J x) (reached a) e in among_any (J x) (reached b) c.0 (through b a other (back a b there m) c.0 c.1) c.2)
        (λ x h e. let c = any_among (J x) (reached b) e in among_any (J x) (reached a) c.0 (through a b there m c.0 c.1) c.2) in
        sym (closed a there) ∙ is ∙ closed b other
