-- Rules of lists and repetitions read just what they say.
use Rattle.std.proofs.Common.{◌≡◌, ℕ, zero, suc, ◌+◌, ◌<◌, ◌≤◌, inl, inr, Bool, true, false, List, [], ◌∷◌, length, Result, Ok, Err, refl, ap, subst, sym, arith, cond}
use Rattle.wac_parser_lexer.specs.declared.token.Token.{Token}
use Rattle.wac_parser_lexer.specs.Items.{Input, Item}
use Rattle.wac_parser_grammar.specs.Faults.{Fault}
use Rattle.wac_parser_grammar.specs.Ahead.{sees, sees_any, none_of}
use Rattle.wac_parser_grammar.specs.Rules.{Rule, and_then, behind, front, read_list, IsListOf, list_of, IsWhile, read_while, while_of, IsAll, has_item, read_all, all_of, left}
use Rattle.wac_parser_grammar.proofs.Lists.{begun_some}
use Rattle.wac_parser_grammar.proofs.Exact.{Exact, Keeps, Takes, Begins, behind_exact, behind_keeps, inside, both}
use Rattle.wac_parser_lexer.proofs.FrontLaws.{either}

front_ok : {X : Type 0} (x : X) (o : Result (List X × Input) Fault) (q : List X × Input) → front x o ≡ Ok q → (p : List X × Input) × (o ≡ Ok p) × ((x ∷ p.0, p.1) ≡ q)
front_ok x (Err e) q h = cc
front_ok x (Ok p) q h = (p, refl, inside h)

no_ok : {X : Type 0} (f : Fault) (q : X) → ◌≡◌ {A = Result X Fault} (Err f) (Ok q) → ⊥
no_ok f q e = cc

-- ---- lists

module _ {X : Type 0} (p : Rule X) (first : List Token) (until : Token) (commas : Bool) (exact : Exact p) (begins : Begins first p) (takes : Takes p) where
  list_room : (xs : List X) (s r : Input) → IsListOf p.Is until commas xs s r → length xs + left r ≤ left s
  list_room [] s r h = omega (arith, ap left h.1)
  list_room (x ∷ xs) s r h =
      let a = takes.takes s x h.1 h.2 in
      let b = (behind_keeps until commas).keeps h.1 tt h.3 h.4 in
      let c = list_room xs h.3 r h.5 in
      omega (arith, a, b, c)

  list_complete : (n : ℕ) (xs : List X) (s r : Input) → length xs ≤ n → IsListOf p.Is until commas xs s r → read_list p.read first until commas n s ≡ Ok (xs, r)
  unfolding read_list
  list_complete zero [] s r few h = rw (h.0, h.1) refl
  list_complete (suc n) [] s r few h = rw (h.0, h.1) refl
  list_complete zero (x ∷ xs) s r few h = absurd (omega arith)
  list_complete (suc n) (x ∷ xs) s r few h =
      rw (h.0, begins.begins s x h.1 h.2, exact.complete s x h.1 h.2, (behind_exact until commas).complete h.1 tt h.3 h.4, list_complete n xs h.3 r (omega arith) h.5) refl

  ends : (s : Input) (q : List X × Input) → sees until s ≡ true → ([], s) ≡ q → IsListOf p.Is until commas q.0 s q.1
  ends s q e f = let P : List X × Input → Type 0 = λ (v : List X × Input). IsListOf p.Is until commas v.0 s v.1 in subst P f (e, refl)

  abbrev last_part : ℕ → X → Unit {0} → Input → Result (List X × Input) Fault
  last_part n x u after = front x (read_list p.read first until commas n after)

  abbrev next_part : ℕ → X → Input → Result (List X × Input) Fault
  next_part n x m = and_then ((behind until commas).read m) (last_part n x)

  list_sound : (n : ℕ) (s : Input) (q : List X × Input) → read_list p.read first until commas n s ≡ Ok q → IsListOf p.Is until commas q.0 s q.1
  unfolding read_list
  list_sound zero s q e = elim (either {A = Result (List X × Input) Fault} (sees until s) (Ok ([], s)) (Err (none_of (until ∷ first) s)) (Ok q) e) [
    | inl w ↦ ends s q w.0 (inside w.1)
    | inr w ↦ absurd (no_ok _ _ w.1)
  ]
  list_sound (suc n) s q e =
      elim (either {A = Result (List X × Input) Fault} (sees until s) (Ok ([], s)) (cond (sees_any first s) (and_then (p.read s) (next_part n)) (Err (none_of (until ∷ first) s))) (Ok q) e) [
        | inl w ↦ ends s q w.0 (inside w.1)
        | inr w ↦ elim (either {A = Result (List X × Input) Fault} (sees_any first s) (and_then (p.read s) (next_part n)) (Err (none_of (until ∷ first) s)) (Ok q) w.1) [
          | inl v ↦
              (let a = both (p.read s) (next_part n) q v.1 in
              let b = both ((behind until commas).read a.1) (last_part n a.0) q a.3 in
              let c = front_ok a.0 (read_list p.read first until commas n b.1) q b.3 in
              let rest = list_sound n b.1 c.0 c.1 in
              let P : List X × Input → Type 0 = λ (v : List X × Input). IsListOf p.Is until commas v.0 s v.1 in
              subst P c.2 (w.0, a.1, exact.sound s a.0 a.1 a.2, b.1, (behind_exact until commas).sound a.1 tt b.1 b.2, rest))
          | inr v ↦ absurd (no_ok _ _ v.1)
        ]
      ]

  pub list_exact : Exact (list_of p first until commas)
  list_exact = record {
    sound = λ s xs r e. list_sound (left s) s (xs, r) e;
    complete = λ s xs r h. let room = list_room xs s r h in list_complete (left s) xs s r (omega (arith, room)) h;
  }

  pub list_keeps : Keeps (list_of p first until commas)
  list_keeps = record { keeps = λ s xs r h. let room = list_room xs s r h in omega (arith, room) }

-- ---- as long as a value begins

module _ {X : Type 0} (p : Rule X) (first : List Token) (exact : Exact p) (takes : Takes p) where
  while_room : (xs : List X) (s r : Input) → IsWhile p.Is first xs s r → length xs + left r ≤ left s
  while_room [] s r h = omega (arith, ap left h.1)
  while_room (x ∷ xs) s r h = let a = takes.takes s x h.1 h.2 in let c = while_room xs h.1 r h.3 in omega (arith, a, c)

  while_complete : (n : ℕ) (xs : List X) (s r : Input) → length xs ≤ n → IsWhile p.Is first xs s r → read_while p.read first n s ≡ Ok (xs, r)
  unfolding read_while
  while_complete zero [] s r few h = rw (h.1) refl
  while_complete (suc n) [] s r few h = rw (h.0, h.1) refl
  while_complete zero (x ∷ xs) s r few h = absurd (omega arith)
  while_complete (suc n) (x ∷ xs) s r few h = rw (h.0, exact.complete s x h.1 h.2, while_complete n xs h.1 r (omega arith) h.3) refl

  while_ends : (s : Input) (q : List X × Input) → sees_any first s ≡ false → ([], s) ≡ q → IsWhile p.Is first q.0 s q.1
  while_ends s q e f = let P : List X × Input → Type 0 = λ (v : List X × Input). IsWhile p.Is first v.0 s v.1 in subst P f (e, refl)

  none_left : (b : Bool) (s : Input) → b ≡ sees_any first s → left s ≤ 0 → b ≡ false
  none_left false s e h = refl
  none_left true s e h = let some = begun_some first s (sym e) in absurd (omega (arith, some))

  abbrev while_part : ℕ → X → Input → Result (List X × Input) Fault
  while_part n x m = front x (read_while p.read first n m)

  while_sound : (n : ℕ) (s : Input) (q : List X × Input) → left s ≤ n → read_while p.read first n s ≡ Ok q → IsWhile p.Is first q.0 s q.1
  unfolding read_while
  while_sound zero s q room e = while_ends s q (none_left (sees_any first s) s refl room) (inside e)
  while_sound (suc n) s q room e =
      elim (either {A = Result (List X × Input) Fault} (sees_any first s) (and_then (p.read s) (while_part n)) (Ok ([], s)) (Ok q) e) [
        | inl w ↦
            (let a = both (p.read s) (while_part n) q w.1 in
            let c = front_ok a.0 (read_while p.read first n a.1) q a.3 in
            let is = exact.sound s a.0 a.1 a.2 in
            let fewer = takes.takes s a.0 a.1 is in
            let rest = while_sound n a.1 c.0 (omega (arith, room, fewer)) c.1 in
            let P : List X × Input → Type 0 = λ (v : List X × Input). IsWhile p.Is first v.0 s v.1 in
            subst P c.2 (w.0, a.1, is, rest))
        | inr w ↦ while_ends s q w.0 (inside w.1)
      ]

  pub while_exact : Exact (while_of p first)
  while_exact = record {
    sound = λ s xs r e. while_sound (left s) s (xs, r) (omega arith) e;
    complete = λ s xs r h. let room = while_room xs s r h in while_complete (left s) xs s r (omega (arith, room)) h;
  }

  pub while_keeps : Keeps (while_of p first)
  while_keeps = record { keeps = λ s xs r h. let room = while_room xs s r h in omega (arith, room) }

-- ---- to the end

no_item : (items : List Item) → has_item items ≡ false → items ≡ []
no_item [] e = refl
no_item (i ∷ is) e = cc

pub some_item : (items : List Item) → 0 < length items → has_item items ≡ true
some_item [] h = absurd (omega arith)
some_item (i ∷ is) h = refl

none_item : (items : List Item) → length items ≤ 0 → items ≡ []
none_item [] h = refl
none_item (i ∷ is) h = absurd (omega arith)

module _ {X : Type 0} (p : Rule X) (exact : Exact p) (takes : Takes p) where
  all_room : (xs : List X) (s r : Input) → IsAll p.Is xs s r → length xs + left r ≤ left s
  all_room [] s r h = omega (arith, ap left h.1)
  all_room (x ∷ xs) s r h = let a = takes.takes s x h.0 h.1 in let c = all_room xs h.0 r h.2 in omega (arith, a, c)

  all_complete : (n : ℕ) (xs : List X) (s r : Input) → length xs ≤ n → IsAll p.Is xs s r → read_all p.read n s ≡ Ok (xs, r)
  unfolding read_all
  all_complete zero [] s r few h = rw (h.1) refl
  all_complete (suc n) [] s r few h = rw (ap has_item h.0, h.1) refl
  all_complete zero (x ∷ xs) s r few h = absurd (omega arith)
  all_complete (suc n) (x ∷ xs) s r few h =
      let a = takes.takes s x h.0 h.1 in
      rw (some_item s.items (omega (arith, a)), exact.complete s x h.0 h.1, all_complete n xs h.0 r (omega arith) h.2) refl

  all_ends : (s : Input) (q : List X × Input) → s.items ≡ [] → ([], s) ≡ q → IsAll p.Is q.0 s q.1
  all_ends s q e f = let P : List X × Input → Type 0 = λ (v : List X × Input). IsAll p.Is v.0 s v.1 in subst P f (e, refl)

  abbrev all_part : ℕ → X → Input → Result (List X × Input) Fault
  all_part n x m = front x (read_all p.read n m)

  all_sound : (n : ℕ) (s : Input) (q : List X × Input) → left s ≤ n → read_all p.read n s ≡ Ok q → IsAll p.Is q.0 s q.1
  unfolding read_all
  all_sound zero s q room e = all_ends s q (none_item s.items room) (inside e)
  all_sound (suc n) s q room e =
      elim (either {A = Result (List X × Input) Fault} (has_item s.items) (and_then (p.read s) (all_part n)) (Ok ([], s)) (Ok q) e) [
        | inl w ↦
            (let a = both (p.read s) (all_part n) q w.1 in
            let c = front_ok a.0 (read_all p.read n a.1) q a.3 in
            let is = exact.sound s a.0 a.1 a.2 in
            let fewer = takes.takes s a.0 a.1 is in
            let rest = all_sound n a.1 c.0 (omega (arith, room, fewer)) c.1 in
            let P : List X × Input → Type 0 = λ (v : List X × Input). IsAll p.Is v.0 s v.1 in
            subst P c.2 (a.1, is, rest))
        | inr w ↦ all_ends s q (no_item s.items w.0) (inside w.1)
      ]

  pub all_exact : Exact (all_of p)
  all_exact = record {
    sound = λ s xs r e. all_sound (left s) s (xs, r) (omega arith) e;
    complete = λ s xs r h. let room = all_room xs s r h in all_complete (left s) xs s r (omega (arith, room)) h;
  }

  pub all_keeps : Keeps (all_of p)
  all_keeps = record { keeps = λ s xs r h. let room = all_room xs s r h in omega (arith, room) }
