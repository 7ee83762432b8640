-- The faults of lists and repetitions stand in the source.
use Rattle.std.proofs.Common.{◌≡◌, ℕ, zero, suc, ◌≤◌, inl, inr, Bool, true, false, List, [], ◌∷◌, Result, Ok, Err, refl, ap, subst, sym, arith, cond}
use Rattle.wac_parser_lexer.specs.declared.token.Token.{Token}
use Rattle.wac_parser_lexer.specs.Items.{Input}
use Rattle.wac_parser_grammar.specs.Faults.{Fault}
use Rattle.wac_parser_grammar.specs.Ahead.{sees, sees_any, none_of}
use Rattle.wac_parser_grammar.specs.Rules.{Rule, and_then, behind, front, read_list, list_of, read_while, while_of, has_item, read_all, all_of, left}
use Rattle.wac_parser_grammar.specs.Places.{IsBehind, here}
use Rattle.wac_parser_grammar.specs.Standing.{Saying, StandsBy}
use Rattle.wac_parser_grammar.proofs.Lists.{begun_some}
use Rattle.wac_parser_grammar.proofs.Exact.{Exact, Takes, inside, both}
use Rattle.wac_parser_grammar.proofs.Faithful.{FaithfulBy, Any, err_inside, behind_trans, stands_behind, one_of, none_one, none_both, none_stands, stands_here, behind_faithful, behind_left}
use Rattle.wac_parser_lexer.proofs.FrontLaws.{either}

pub ok_not_err : {X : Type 0} (p : X) (f : Fault) → ◌≡◌ {A = Result X Fault} (Ok p) (Err f) → ⊥
ok_not_err p f e = cc

pub err_not_ok : {X : Type 0} (p : X) (f : Fault) → ◌≡◌ {A = Result X Fault} (Err f) (Ok p) → ⊥
err_not_ok p f e = cc

ends : {X : Type 0} (s : Input) (x : X) (q : X × Input) → ◌≡◌ {A = Result (X × Input) Fault} (Ok (x, s)) (Ok q) → IsBehind q.1 s
ends s x q h = let P : Input → Type 0 = λ (r : Input). IsBehind r s in subst P (ap (λ v. v.1) (inside h)) here

-- ---- lists

pub front_ok : {X : Type 0} (x : X) (o : Result (List X × Input) Fault) (q : List X × Input) → front x o ≡ Ok q → (p : List X × Input) × (o ≡ Ok p) × (p.1 ≡ q.1)
front_ok x (Err e) q h = cc
front_ok x (Ok p) q h = (p, refl, ap (λ v. v.1) (inside h))

pub front_err : {X : Type 0} (x : X) (o : Result (List X × Input) Fault) (f : Fault) → front x o ≡ Err f → o ≡ Err f
front_err x (Err e) f h = ap Err (err_inside h)
front_err x (Ok p) f h = cc

none_begun : (b : Bool) (ks : List Token) (s : Input) → b ≡ sees_any ks s → left s ≤ 0 → b ≡ false
none_begun false ks s e h = refl
none_begun true ks s e h = let some = begun_some ks s (sym e) in absurd (omega (arith, some))

module _ {N : Saying} {X : Type 0} (p : Rule X) (first : List Token) (until : Token) (commas : Bool) (exact : Exact p) (takes : Takes p) (faithful : FaithfulBy N Any p) where
  abbrev reads : ℕ → Input → Result (List X × Input) Fault
  reads = read_list p.read first until commas

  abbrev last_part : ℕ → X → Unit {0} → Input → Result (List X × Input) Fault
  last_part n x u after = front x (reads n after)

  abbrev next_part : ℕ → X → Input → Result (List X × Input) Fault
  next_part n x m = and_then ((behind until commas).read m) (last_part n x)

  list_goes : (n : ℕ) (s : Input) (q : List X × Input) → reads n s ≡ Ok q → IsBehind q.1 s
  unfolding read_list
  list_goes zero s q e = elim (either {A = Result (List X × Input) Fault} (sees until s) (Ok ([], s)) (Err (none_of (until ∷ first) s)) (Ok q) e) [
    | inl w ↦ ends s [] q w.1
    | inr w ↦ absurd (err_not_ok _ _ w.1)
  ]
  list_goes (suc n) s q e =
      elim (either {A = Result (List X × Input) Fault} (sees until s) (Ok ([], s)) (cond (sees_any first s) (and_then (p.read s) (next_part n)) (Err (none_of (until ∷ first) s))) (Ok q) e) [
        | inl w ↦ ends s [] q w.1
        | inr w ↦ elim (either {A = Result (List X × Input) Fault} (sees_any first s) (and_then (p.read s) (next_part n)) (Err (none_of (until ∷ first) s)) (Ok q) w.1) [
          | inl v ↦
              (let a = both (p.read s) (next_part n) q v.1 in
              let b = both ((behind until commas).read a.1) (last_part n a.0) q a.3 in
              let c = front_ok a.0 (reads n b.1) q b.3 in
              let P : Input → Type 0 = λ (r : Input). IsBehind r s in
              subst P c.2 (behind_trans c.0.1 b.1 s (list_goes n b.1 c.0 c.1) (behind_trans b.1 a.1 s ((behind_faithful {N = N} until commas).goes a.1 tt b.1 tt b.2) (faithful.goes s a.0 a.1 tt a.2))))
          | inr v ↦ absurd (err_not_ok _ _ v.1)
        ]
      ]

  no_value : (s : Input) (f : Fault) → sees until s ≡ false → sees_any first s ≡ false → ◌≡◌ {A = Result (List X × Input) Fault} (Err (none_of (until ∷ first) s)) (Err f) → StandsBy N s f
  no_value s f e g h = stands_here N s (none_of (until ∷ first) s) f (err_inside h) (none_stands N (until ∷ first) s (none_both (until ∷ []) first s (none_one until s e) g))

  list_stands : (n : ℕ) (s : Input) (f : Fault) → left s ≤ n → reads n s ≡ Err f → StandsBy N s f
  unfolding read_list
  list_stands zero s f room e = elim (either {A = Result (List X × Input) Fault} (sees until s) (Ok ([], s)) (Err (none_of (until ∷ first) s)) (Err f) e) [
    | inl w ↦ absurd (ok_not_err _ _ w.1)
    | inr w ↦ no_value s f w.0 (none_begun (sees_any first s) first s refl room) w.1
  ]
  list_stands (suc n) s f room e =
      elim (either {A = Result (List X × Input) Fault} (sees until s) (Ok ([], s)) (cond (sees_any first s) (and_then (p.read s) (next_part n)) (Err (none_of (until ∷ first) s))) (Err f) e) [
        | inl w ↦ absurd (ok_not_err _ _ w.1)
        | inr w ↦ elim (either {A = Result (List X × Input) Fault} (sees_any first s) (and_then (p.read s) (next_part n)) (Err (none_of (until ∷ first) s)) (Err f) w.1) [
          | inl v ↦ elim (one_of (p.read s) (next_part n) f v.1) [
            | inl u ↦ faithful.stands s f tt u
            | inr u ↦ stands_behind N u.1 s f (faithful.goes s u.0 u.1 tt u.2) (elim (one_of ((behind until commas).read u.1) (last_part n u.0) f u.3) [
              | inl y ↦ (behind_faithful until commas).stands u.1 f tt y
              | inr y ↦
                  (let fewer = takes.takes s u.0 u.1 (exact.sound s u.0 u.1 u.2) in
                  let kept = behind_left y.1 u.1 ((behind_faithful {N = N} until commas).goes u.1 tt y.1 tt y.2) in
                  stands_behind N y.1 u.1 f ((behind_faithful {N = N} until commas).goes u.1 tt y.1 tt y.2) (list_stands n y.1 f (omega (arith, room, fewer, kept)) (front_err u.0 (reads n y.1) f y.3)))
            ])
          ]
          | inr v ↦ no_value s f w.0 v.0 v.1
        ]
      ]

  pub list_faithful : FaithfulBy N Any (list_of p first until commas)
  list_faithful = record { goes = λ s xs r c h. list_goes (left s) s (xs, r) h; stands = λ s f c h. list_stands (left s) s f (omega arith) h }

-- ---- as long as a value begins

module _ {N : Saying} {X : Type 0} (p : Rule X) (first : List Token) (exact : Exact p) (takes : Takes p) (faithful : FaithfulBy N Any p) where
  abbrev while_part : ℕ → X → Input → Result (List X × Input) Fault
  while_part n x m = front x (read_while p.read first n m)

  while_goes : (n : ℕ) (s : Input) (q : List X × Input) → read_while p.read first n s ≡ Ok q → IsBehind q.1 s
  unfolding read_while
  while_goes zero s q e = ends s [] q e
  while_goes (suc n) s q e =
      elim (either {A = Result (List X × Input) Fault} (sees_any first s) (and_then (p.read s) (while_part n)) (Ok ([], s)) (Ok q) e) [
        | inl w ↦
            (let a = both (p.read s) (while_part n) q w.1 in
            let c = front_ok a.0 (read_while p.read first n a.1) q a.3 in
            let P : Input → Type 0 = λ (r : Input). IsBehind r s in
            subst P c.2 (behind_trans c.0.1 a.1 s (while_goes n a.1 c.0 c.1) (faithful.goes s a.0 a.1 tt a.2)))
        | inr w ↦ ends s [] q w.1
      ]

  while_stands : (n : ℕ) (s : Input) (f : Fault) → read_while p.read first n s ≡ Err f → StandsBy N s f
  unfolding read_while
  while_stands zero s f e = absurd (ok_not_err _ _ e)
  while_stands (suc n) s f e =
      elim (either {A = Result (List X × Input) Fault} (sees_any first s) (and_then (p.read s) (while_part n)) (Ok ([], s)) (Err f) e) [
        | inl w ↦ elim (one_of (p.read s) (while_part n) f w.1) [
          | inl u ↦ faithful.stands s f tt u
          | inr u ↦ stands_behind N u.1 s f (faithful.goes s u.0 u.1 tt u.2) (while_stands n u.1 f (front_err u.0 (read_while p.read first n u.1) f u.3))
        ]
        | inr w ↦ absurd (ok_not_err _ _ w.1)
      ]

  pub while_faithful : FaithfulBy N Any (while_of p first)
  while_faithful = record { goes = λ s xs r c h. while_goes (left s) s (xs, r) h; stands = λ s f c h. while_stands (left s) s f h }

-- ---- to the end

module _ {N : Saying} {X : Type 0} (p : Rule X) (faithful : FaithfulBy N Any p) where
  abbrev all_part : ℕ → X → Input → Result (List X × Input) Fault
  all_part n x m = front x (read_all p.read n m)

  all_goes : (n : ℕ) (s : Input) (q : List X × Input) → read_all p.read n s ≡ Ok q → IsBehind q.1 s
  unfolding read_all
  all_goes zero s q e = ends s [] q e
  all_goes (suc n) s q e =
      elim (either {A = Result (List X × Input) Fault} (has_item s.items) (and_then (p.read s) (all_part n)) (Ok ([], s)) (Ok q) e) [
        | inl w ↦
            (let a = both (p.read s) (all_part n) q w.1 in
            let c = front_ok a.0 (read_all p.read n a.1) q a.3 in
            let P : Input → Type 0 = λ (r : Input). IsBehind r s in
            subst P c.2 (behind_trans c.0.1 a.1 s (all_goes n a.1 c.0 c.1) (faithful.goes s a.0 a.1 tt a.2)))
        | inr w ↦ ends s [] q w.1
      ]

  all_stands : (n : ℕ) (s : Input) (f : Fault) → read_all p.read n s ≡ Err f → StandsBy N s f
  unfolding read_all
  all_stands zero s f e = absurd (ok_not_err _ _ e)
  all_stands (suc n) s f e =
      elim (either {A = Result (List X × Input) Fault} (has_item s.items) (and_then (p.read s) (all_part n)) (Ok ([], s)) (Err f) e) [
        | inl w ↦ elim (one_of (p.read s) (all_part n) f w.1) [
          | inl u ↦ faithful.stands s f tt u
          | inr u ↦ stands_behind N u.1 s f (faithful.goes s u.0 u.1 tt u.2) (all_stands n u.1 f (front_err u.0 (read_all p.read n u.1) f u.3))
        ]
        | inr w ↦ absurd (ok_not_err _ _ w.1)
      ]

  pub all_faithful : FaithfulBy N Any (all_of p)
  all_faithful = record { goes = λ s xs r c h. all_goes (left s) s (xs, r) h; stands = λ s f c h. all_stands (left s) s f h }
