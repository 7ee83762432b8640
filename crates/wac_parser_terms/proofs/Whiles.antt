-- A loop that reads values as long as one begins, or to the end.
use Rattle.std.proofs.Common.{◌≡◌, ℕ, zero, suc, ◌+◌, ◌-◌, ◌<◌, ◌≤◌, Bool, true, false, List, [], ◌∷◌, ◌++◌, length, Option, Result, Ok, Err, refl, ap, sym, ◌∙◌, arith}
use Rattle.std.proofs.lemmas.List.{append-nil}
use Rattle.wac_parser_lexer.specs.declared.span.SourceSpan.{SourceSpan}
use Rattle.wac_parser_lexer.specs.declared.token.Token.{Token}
use Rattle.wac_parser_lexer.specs.declared.error.Error.{Error}
use Rattle.std.specs.Option.{is_some}
use Rattle.wac_parser_lexer.specs.Items.{Input, Item, first_item, first_of_items}
use Rattle.wac_parser_tree.specs.Trees as t
use Rattle.wac_parser_tree.specs.Accessors.{postfix_expr_span}
use Rattle.wac_parser_grammar.specs.Faults.{Fault}
use Rattle.wac_parser_grammar.specs.Ahead.{sees_any}
use Rattle.wac_parser_grammar.specs.Rules.{front, after_front, read_while, read_all, has_item, left}
use Rattle.wac_parser_grammar.specs.ValueTypes.{through}
use Rattle.wac_parser_grammar.specs.Expressions.{spanning}
use Rattle.wac_parser_grammar.proofs.Lists.{front_after}

-- a reader of values that goes on as long as the test holds
pub record Goes {X : Type 0} (read : Input → Result (X × Input) Fault) (test : Input → Bool) (reads : ℕ → Input → Result (List X × Input) Fault) : Type 0 where
  pub step : (n : ℕ) (s m : Input) (x : X) → test s ≡ true → read s ≡ Ok (x, m) → reads (suc n) s ≡ front x (reads n m)
  pub stops : (n : ℕ) (s : Input) → test s ≡ false → reads n s ≡ Ok ([], s)
  pub fails : (n : ℕ) (s : Input) (fault : Fault) → 0 < n → test s ≡ true → read s ≡ Err fault → reads n s ≡ Err fault

module _ {X : Type 0} (read : Input → Result (X × Input) Fault) (test : Input → Bool) (reads : ℕ → Input → Result (List X × Input) Fault) (goes : Goes read test reads) where
  pub While-more : (xs : List X) (s m start : Input) (x : X) (k : ℕ) → ((n : ℕ) → after_front xs (reads n s) ≡ reads (k + n) start) → test s ≡ true → read s ≡ Ok (x, m)
      → (n : ℕ) → after_front (xs ++ x ∷ []) (reads n m) ≡ reads (k + 1 + n) start
  While-more xs s m start x k h more e n =
      let count : k + suc n ≡ k + 1 + n = omega arith in
      sym (front_after xs x (reads n m)) ∙ ap (after_front xs) (sym (goes.step n s m x more e)) ∙ h (suc n) ∙ ap (λ i. reads i start) count

  at_count : (xs : List X) (s start : Input) (k total : ℕ) → ((n : ℕ) → after_front xs (reads n s) ≡ reads (k + n) start) → k ≤ total → after_front xs (reads (total - k) s) ≡ reads total start
  at_count xs s start k total h room = let count : k + (total - k) ≡ total = omega arith in h (total - k) ∙ ap (λ i. reads i start) count

  pub While-ends : (xs : List X) (s start : Input) (k total : ℕ) → ((n : ℕ) → after_front xs (reads n s) ≡ reads (k + n) start) → k ≤ total → test s ≡ false → reads total start ≡ Ok (xs, s)
  While-ends xs s start k total h room e =
      sym (at_count xs s start k total h room) ∙ ap (after_front xs) (goes.stops (total - k) s e) ∙ ap (λ (l : List X). Ok (l, s)) (append-nil xs)

  pub While-fails : (xs : List X) (s start : Input) (k total : ℕ) (fault : Fault) → ((n : ℕ) → after_front xs (reads n s) ≡ reads (k + n) start) → k < total → test s ≡ true → read s ≡ Err fault → reads total start ≡ Err fault
  While-fails xs s start k total fault h room e f = sym (at_count xs s start k total h (omega arith)) ∙ ap (after_front xs) (goes.fails (total - k) s fault (omega arith) e f)

module _ {X : Type 0} (read : Input → Result (X × Input) Fault) (first : List Token) where
  while_step : (n : ℕ) (s m : Input) (x : X) → sees_any first s ≡ true → read s ≡ Ok (x, m) → read_while read first (suc n) s ≡ front x (read_while read first n m)
  unfolding read_while
  while_step n s m x e f = rw (e, f) refl

  while_stops : (n : ℕ) (s : Input) → sees_any first s ≡ false → read_while read first n s ≡ Ok ([], s)
  unfolding read_while
  while_stops zero s e = refl
  while_stops (suc n) s e = rw e refl

  while_fails : (n : ℕ) (s : Input) (fault : Fault) → 0 < n → sees_any first s ≡ true → read s ≡ Err fault → read_while read first n s ≡ Err fault
  unfolding read_while
  while_fails zero s fault some e f = absurd (omega arith)
  while_fails (suc n) s fault some e f = rw (e, f) refl

  pub goes_while : Goes read (sees_any first) (read_while read first)
  goes_while = record { step = while_step; stops = while_stops; fails = while_fails }

module _ {X : Type 0} (read : Input → Result (X × Input) Fault) where
  abbrev pub test_item : Input → Bool
  test_item s = has_item s.items

  all_step : (n : ℕ) (s m : Input) (x : X) → has_item s.items ≡ true → read s ≡ Ok (x, m) → read_all read (suc n) s ≡ front x (read_all read n m)
  unfolding read_all
  all_step n s m x e f = rw (e, f) refl

  all_stops : (n : ℕ) (s : Input) → has_item s.items ≡ false → read_all read n s ≡ Ok ([], s)
  unfolding read_all
  all_stops zero s e = refl
  all_stops (suc n) s e = rw e refl

  all_fails : (n : ℕ) (s : Input) (fault : Fault) → 0 < n → has_item s.items ≡ true → read s ≡ Err fault → read_all read n s ≡ Err fault
  unfolding read_all
  all_fails zero s fault some e f = absurd (omega arith)
  all_fails (suc n) s fault some e f = rw (e, f) refl

  pub goes_all : Goes read test_item (read_all read)
  goes_all = record { step = all_step; stops = all_stops; fails = all_fails }

pub spanning_more : (span : SourceSpan) (ps : List t.PostfixExpr) (p : t.PostfixExpr) → spanning span (ps ++ p ∷ []) ≡ through (spanning span ps) (postfix_expr_span p)
spanning_more span [] p = refl
spanning_more span (q ∷ ps) p = spanning_more (through span (postfix_expr_span q)) ps p

-- ---- whether an item is left

first_is_item : (items : List Item) → is_some (first_of_items items) ≡ has_item items
first_is_item [] = refl
first_is_item (i ∷ is) = refl

pub item_ahead : (s : Input) (first : Option (Result Token Error × SourceSpan)) (some test : Bool) → first ≡ first_item s → some ≡ is_some first → some ≡ test → has_item s.items ≡ test
item_ahead s first some test e f g = sym (first_is_item s.items) ∙ ap is_some (sym e) ∙ sym f ∙ g

left_at : (items : List Item) → has_item items ≡ true → 0 < length items
left_at [] e = cc
left_at (i ∷ is) e = omega arith

pub item_left : (s : Input) → has_item s.items ≡ true → 0 < left s
item_left s e = left_at s.items e
