-- A loop that reads the values of a list, one by one.
use Rattle.std.proofs.Common.{◌≡◌, ℕ, zero, suc, ◌+◌, ◌-◌, ◌<◌, ◌≤◌, Bool, true, false, List, [], ◌∷◌, ◌++◌, length, Result, Ok, Err, refl, ap, sym, ◌∙◌, arith, append_assoc}
use Rattle.std.proofs.lemmas.List.{append-nil}
use Rattle.wac_parser_lexer.specs.declared.token.Token.{Token}
use Rattle.wac_parser_lexer.specs.Items.{Input, Item, first_of_items}
use Rattle.wac_parser_grammar.specs.Faults.{Fault}
use Rattle.wac_parser_grammar.specs.Ahead.{sees, sees_any, none_of, is_any, token_of}
use Rattle.wac_parser_grammar.specs.Rules.{left, front, after_front, read_list, behind}
use Rattle.wac_parser_grammar.proofs.Faithful.{none_is_any}

pub deeper : {X : Type 1} (f : ℕ → X) (n : ℕ) → 0 < n → f n ≡ f (suc (n - 1))
deeper f n some = let e : n ≡ suc (n - 1) = omega arith in ap f e

pub front_after : {X : Type 0} (xs : List X) (x : X) (o : Result (List X × Input) Fault) → after_front xs (front x o) ≡ after_front (xs ++ x ∷ []) o
front_after xs x (Err e) = refl
front_after xs x (Ok p) = ap (λ (l : List _). Ok (l, p.1)) (sym (append_assoc xs (x ∷ []) p.0))

module _ {X : Type 0} (read : Input → Result (X × Input) Fault) (first : List Token) (until : Token) (commas : Bool) where
  abbrev reads : ℕ → Input → Result (List X × Input) Fault
  reads = read_list read first until commas

  -- what a front of the list leaves to read
  abbrev pub Rests : List X → Input → ℕ → Input → Type 0
  Rests xs s k start = (n : ℕ) → after_front xs (read_list read first until commas n s) ≡ read_list read first until commas (k + n) start

  step : (n : ℕ) (s m after : Input) (x : X) → sees until s ≡ false → sees_any first s ≡ true → read s ≡ Ok (x, m) → (behind until commas).read m ≡ Ok (tt, after)
      → reads (suc n) s ≡ front x (reads n after)
  unfolding read_list
  step n s m after x more begun e f = rw (more, begun, e, f) refl

  stops : (n : ℕ) (s : Input) → sees until s ≡ true → reads n s ≡ Ok ([], s)
  unfolding read_list
  stops zero s e = rw e refl
  stops (suc n) s e = rw e refl

  no_begin : (n : ℕ) (s : Input) → sees until s ≡ false → sees_any first s ≡ false → reads n s ≡ Err (none_of (until ∷ first) s)
  unfolding read_list
  no_begin zero s e f = rw e refl
  no_begin (suc n) s e f = rw (e, f) refl

  no_value : (n : ℕ) (s : Input) (fault : Fault) → 0 < n → sees until s ≡ false → sees_any first s ≡ true → read s ≡ Err fault → reads n s ≡ Err fault
  unfolding read_list
  no_value zero s fault some e b f = absurd (omega arith)
  no_value (suc n) s fault some e b f = rw (e, b, f) refl

  no_separator : (n : ℕ) (s m : Input) (x : X) (fault : Fault) → 0 < n → sees until s ≡ false → sees_any first s ≡ true → read s ≡ Ok (x, m) → (behind until commas).read m ≡ Err fault → reads n s ≡ Err fault
  unfolding read_list
  no_separator zero s m x fault some e b f g = absurd (omega arith)
  no_separator (suc n) s m x fault some e b f g = rw (e, b, f, g) refl

  pub Rests-more : (xs : List X) (s m after start : Input) (x : X) (k : ℕ) → Rests xs s k start → sees until s ≡ false → sees_any first s ≡ true → read s ≡ Ok (x, m)
      → (behind until commas).read m ≡ Ok (tt, after) → Rests (xs ++ x ∷ []) after (k + 1) start
  Rests-more xs s m after start x k h more begun e f n =
      let count : k + suc n ≡ k + 1 + n = omega arith in
      sym (front_after xs x (reads n after))
      ∙ ap (after_front xs) (sym (step n s m after x more begun e f)) ∙ h (suc n) ∙ ap (λ i. reads i start) count

  at_count : (xs : List X) (s start : Input) (k total : ℕ) → Rests xs s k start → k ≤ total → after_front xs (reads (total - k) s) ≡ reads total start
  at_count xs s start k total h room = let count : k + (total - k) ≡ total = omega arith in h (total - k) ∙ ap (λ i. reads i start) count

  pub Rests-ends : (xs : List X) (s start : Input) (k total : ℕ) → Rests xs s k start → k ≤ total → sees until s ≡ true → reads total start ≡ Ok (xs, s)
  Rests-ends xs s start k total h room e =
      sym (at_count xs s start k total h room) ∙ ap (after_front xs) (stops (total - k) s e) ∙ ap (λ (l : List X). Ok (l, s)) (append-nil xs)

  pub Rests-begins_not : (xs : List X) (s start : Input) (k total : ℕ) → Rests xs s k start → k ≤ total → sees until s ≡ false → sees_any first s ≡ false → reads total start ≡ Err (none_of (until ∷ first) s)
  Rests-begins_not xs s start k total h room e f = sym (at_count xs s start k total h room) ∙ ap (after_front xs) (no_begin (total - k) s e f)

  pub Rests-fails : (xs : List X) (s start : Input) (k total : ℕ) (fault : Fault) → Rests xs s k start → k < total → sees until s ≡ false → sees_any first s ≡ true → read s ≡ Err fault → reads total start ≡ Err fault
  Rests-fails xs s start k total fault h room e b f = sym (at_count xs s start k total h (omega arith)) ∙ ap (after_front xs) (no_value (total - k) s fault (omega arith) e b f)

  pub Rests-fails_behind : (xs : List X) (s m start : Input) (x : X) (k total : ℕ) (fault : Fault) → Rests xs s k start → k < total → sees until s ≡ false → sees_any first s ≡ true → read s ≡ Ok (x, m)
      → (behind until commas).read m ≡ Err fault → reads total start ≡ Err fault
  Rests-fails_behind xs s m start x k total fault h room e b f g = sym (at_count xs s start k total h (omega arith)) ∙ ap (after_front xs) (no_separator (total - k) s m x fault (omega arith) e b f g)

-- ---- where a value begins, an item is left

begun_at : (ks : List Token) (items : List Item) → is_any ks (token_of (first_of_items items)) ≡ true → 0 < length items
begun_at ks [] e = let none = none_is_any ks in absurd (let two : false ≡ true = sym none ∙ e in cc)
begun_at ks (i ∷ is) e = omega arith

pub begun_some : (ks : List Token) (s : Input) → sees_any ks s ≡ true → 0 < left s
unfolding sees_any
begun_some ks s e = begun_at ks s.items e
