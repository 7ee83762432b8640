-- One token that is taken, or is missing.
use Rattle.std.proofs.Common.{rules, ◌≡◌, ◌≢◌, ◌<◌, Bool, true, false, cond, List, [], ◌∷◌, Option, Some, None, Result, Ok, Err, refl, ap, sym, ◌∙◌}
use Rattle.std.proofs.lemmas.Option.{same_Some}
use denote.Enum.Bare.{same_true, true_same}
use Rattle.wac_parser_lexer.specs.contracts.token.Token.{the_type}
use Rattle.wac_parser_lexer.specs.declared.span.SourceSpan.{SourceSpan}
use Rattle.wac_parser_lexer.specs.declared.token.Token.{Token}
use Rattle.wac_parser_lexer.specs.declared.error.Error.{Error}
use Rattle.wac_parser_lexer.specs.Items as items
use Rattle.wac_parser_lexer.specs.Items.{Item, Input, first_of_items, first_item, rest_input}
use Rattle.wac_parser_lexer.proofs.ItemLaws.{fewer}
use Rattle.wac_parser_grammar.specs.Faults.{Fault}
use Rattle.wac_parser_grammar.specs.Ahead.{same_token, token_of, is_token, sees, missed}
use Rattle.wac_parser_grammar.specs.Rules.{span_of_items, fault_ahead, fault_of_item, unfaulty_by, and_then, left, ◌>>◌, pure, token, begin, optional}
use Rattle.wac_parser_grammar.specs.Reads.{Reads}
use Rattle.wac_parser_grammar.specs.declared.error.Error as E
use Rattle.wac_parser_terms.specs.Absent.{absent}

-- the lexer's word for the token of an item
pub token_here : (o : Option (Result Token Error × SourceSpan)) → items.token_of o ≡ token_of o
token_here None = refl
token_here (Some (Ok t, span)) = refl
token_here (Some (Err e, span)) = refl

-- ---- where it comes next

pub sees_taken : (k : Token) (s : Input) (span : SourceSpan) → first_item s ≡ Some (Ok k, span) → sees k s ≡ true
unfolding sees same_token
sees_taken k s span e = ap (λ (o : Option (Result Token Error × SourceSpan)). is_token k (token_of o)) e ∙ true_same the_type k k refl

span_first : (is : List Item) (r : Result Token Error) (span : SourceSpan) → first_of_items is ≡ Some (r, span) → span_of_items is ≡ span
span_first [] r span e = cc
span_first (i ∷ is) r span e = ap (λ (q : Result Token Error × SourceSpan). q.1) (same_Some _ _ e)

span_read : (b : Bool) (at span : SourceSpan) (rest r : Input) (fault : Fault)
    → ◌≡◌ {A = Result (SourceSpan × Input) Fault} (cond b (Ok (at, rest)) (Err fault)) (Ok (span, r)) → ◌≡◌ {A = Result (SourceSpan × Input) Fault} (cond b (Ok (at, rest)) (Err fault)) (Ok (at, r))
span_read true at span rest r fault e =
    let same : ◌≡◌ {A = SourceSpan × Input} (at, rest) (span, r) = cc in
    ap (λ (n : Input). Ok (at, n)) (ap (λ (p : SourceSpan × Input). p.1) same)
span_read false at span rest r fault e = cc

pub token_taken : (k : Token) (s r : Input) (span : SourceSpan) → first_item s ≡ Some (Ok k, span) → r ≡ rest_input s → (token k).read s ≡ Ok (span, r)
token_taken k s r span e after = rw (sees_taken k s span e, span_first s.items (Ok k) span e, after) refl

-- the span of the token that was read
pub taken_span : (k : Token) (s r : Input) (span : SourceSpan) → (token k).read s ≡ Ok (span, r) → (token k).read s ≡ Ok (span_of_items s.items, r)
taken_span k s r span e = span_read (sees k s) (span_of_items s.items) span (rest_input s) r (missed k s) e

pub taken_less : (k : Token) (s r : Input) (span : SourceSpan) → first_item s ≡ Some (Ok k, span) → r ≡ rest_input s → left r < left s
taken_less k s r span e after = rw after (fewer s.items (Ok k, span) e)

taken_faultless : (k : Token) (s : Input) (span : SourceSpan) → first_item s ≡ Some (Ok k, span) → fault_ahead s ≡ None
unfolding fault_ahead
taken_faultless k s span e = ap fault_of_item e

pub optional_taken : (k : Token) (s r : Input) (span : SourceSpan) → first_item s ≡ Some (Ok k, span) → r ≡ rest_input s → (optional k).read s ≡ Ok (true, r)
unfolding optional
optional_taken k s r span e after = rw (taken_faultless k s span e, sees_taken k s span e, after) refl

-- ---- where it does not

other_token : (k t : Token) (b : Bool) → same_token t k ≡ b → (t ≡ k → ⊥) → b ≡ false
unfolding same_token
other_token k t true e h = absurd (h (same_true the_type (search rules) t k e))
other_token k t false e h = refl

missed_by : (k : Token) (o : Option (Result Token Error × SourceSpan)) → ((span : SourceSpan) → o ≢ Some (Ok k, span)) → is_token k (token_of o) ≡ false
missed_by k None h = refl
missed_by k (Some (Err x, span)) h = refl
missed_by k (Some (Ok t, span)) h = other_token k t (same_token t k) refl (λ e. h span (ap (λ (u : Token). Some (Ok u, span)) e))

pub sees_missed : (k : Token) (s : Input) → ((span : SourceSpan) → first_item s ≢ Some (Ok k, span)) → sees k s ≡ false
unfolding sees
sees_missed k s h = missed_by k (first_item s) h

pub token_missed : (k : Token) (s : Input) (fault : Fault) → ((span : SourceSpan) → first_item s ≢ Some (Ok k, span)) → fault ≡ missed k s → (token k).read s ≡ Err fault
token_missed k s fault h e = rw (sees_missed k s h, e) refl

-- an optional token that is missing is no more than an item without a fault
absent_by : (k : Token) (s : Input) (o : Option Fault) → sees k s ≡ false
    → and_then (unfaulty_by o s) (λ a m. (begin k (token k >> pure true) (pure false)).read m) ≡ and_then (unfaulty_by o s) (λ a m. (pure false).read m)
absent_by k s None e = rw e refl
absent_by k s (Some x) e = refl

optional_absent : (k : Token) (s : Input) → sees k s ≡ false → (optional k).read s ≡ absent.read s
unfolding optional
optional_absent k s e = absent_by k s (fault_ahead s) e

pub optional_missed : (k : Token) (s r : Input) (o : Result Bool E.Error) → r ≡ s → ((span : SourceSpan) → first_item s ≢ Some (Ok k, span))
    → Reads (λ (b : Bool). b) absent r o r → Reads (λ (b : Bool). b) (optional k) s o r
optional_missed k s r (Ok b) e h g = optional_absent k s (sees_missed k s h) ∙ ap absent.read (sym e) ∙ g
optional_missed k s r (Err x) e h g = λ other. optional_absent k s (sees_missed k s h) ∙ ap absent.read (sym e) ∙ g other
