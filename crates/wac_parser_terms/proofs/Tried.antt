-- What a lookahead says of the tokens that were tried.
use Rattle.std.proofs.Common.{◌≡◌, ℕ, zero, suc, ◌+◌, ◌-◌, ◌<◌, ◌≤◌, ◌^◌, nat_lt, min, Bool, true, false, List, [], ◌∷◌, ◌++◌, length, slice_set, Option, Some, None, Ok, Err, refl, ap, sym, ◌∙◌, arith, append_assoc, append-nil, cond, subst}
use Rattle.std.proofs.lemmas.Bool.{ltb-true, ltb-false}
use Rattle.std.proofs.lemmas.Grind.{common_steps}
use Rattle.std.proofs.lemmas.List.{length-append}
use Rattle.wac_parser_lexer.specs.declared.token.Token.{Token}
use Rattle.wac_parser_lexer.specs.declared.span.SourceSpan.{SourceSpan}
use Rattle.wac_parser_lexer.specs.Items.{Input, first_item, shown_span}
use Rattle.wac_parser_grammar.specs.Faults.{Fault}
use Rattle.wac_parser_grammar.specs.Ahead.{Ahead, is_token, is_any, token_of, sees, sees_any, remember, count_of, none_found, refused_at, none_of, fresh, tried, tried_all, tried_until, Tries, by_attempts, said}

remember-set : (n : ℕ) (ks : List Token) (k : Token) → length ks < n → slice_set (remember n ks) (length ks) (Some k) ≡ remember n (ks ++ k ∷ [])
remember-set zero ks k h = absurd (omega arith)
remember-set (suc n) [] k h = refl
remember-set (suc n) (l ∷ ks) k h = let e = remember-set n ks k (omega arith) in grind (arith, common_steps)

remember-full : (n : ℕ) (ks : List Token) (k : Token) → n ≤ length ks → remember n ks ≡ remember n (ks ++ k ∷ [])
remember-full zero ks k h = refl
remember-full (suc n) [] k h = absurd (omega arith)
remember-full (suc n) (l ∷ ks) k h = ap (λ ms. Some l ∷ ms) (remember-full n ks k (omega arith))

-- the lookahead once these were tried
abbrev state : List Token → Input → Ahead
state ks s = record { next = first_item s; span = shown_span s; attempts = remember 10 ks; count = count_of ks }

attempts_step : (b : Bool) (ks : List Token) (k : Token) → b ≡ nat_lt (count_of ks) 10 → cond b (slice_set (remember 10 ks) (count_of ks) (Some k)) (remember 10 ks) ≡ remember 10 (ks ++ k ∷ [])
attempts_step true ks k e =
    let few = ltb-true (count_of ks) 10 (sym e) in
    let same : count_of ks ≡ length ks = omega arith in
    rw same (remember-set 10 ks k (omega arith))
attempts_step false ks k e =
    let many = ltb-false (count_of ks) 10 (sym e) in
    remember-full 10 ks k (omega arith)

count_step : (ks : List Token) (k : Token) → min (count_of ks + 1) (2 ^ 64 - 1) ≡ count_of (ks ++ k ∷ [])
count_step ks k = omega (arith, length-append ks (k ∷ []))

state_step : (ks : List Token) (k : Token) (s : Input) → tried k (state ks s) ≡ state (ks ++ k ∷ []) s
state_step ks k s =
    λ i. record { next = first_item s; span = shown_span s; attempts = attempts_step (nat_lt (count_of ks) 10) ks k refl i; count = count_step ks k i }

all_tried : (ks ls : List Token) (s : Input) → tried_all ls (state ks s) ≡ state (ks ++ ls) s
all_tried ks [] s = ap (λ ms. state ms s) (sym (append-nil ks))
all_tried ks (l ∷ ls) s = ap (tried_all ls) (state_step ks l s) ∙ all_tried (ks ++ l ∷ []) ls s ∙ ap (λ ms. state ms s) (append_assoc ks (l ∷ []) ls)

many : (n : ℕ) (ks : List (Option Token)) (found : Option Token) (span : SourceSpan) → 3 ≤ n → by_attempts n ks found span ≡ Fault.expected_multiple ks n found span
many zero ks found span h = absurd (omega arith)
many (suc zero) ks found span h = absurd (omega arith)
many (suc (suc zero)) ks found span h = absurd (omega arith)
many (suc (suc (suc n))) ks found span h = refl

attempted : (ks : List Token) (found : Option Token) (span : SourceSpan) → by_attempts (count_of ks) (remember 10 ks) found span ≡ none_found ks found span
attempted [] found span = refl
attempted (k ∷ []) found span = refl
attempted (k ∷ l ∷ []) found span = refl
attempted (k ∷ l ∷ m ∷ ks) found span = many (count_of (k ∷ l ∷ m ∷ ks)) (remember 10 (k ∷ l ∷ m ∷ ks)) found span (omega arith)

refused_same : (o : Option _) (at_end : SourceSpan) (f g : Option Token → SourceSpan → Fault) → ((found : Option Token) (span : SourceSpan) → f found span ≡ g found span) → refused_at o at_end f ≡ refused_at o at_end g
refused_same None at_end f g h = h None at_end
refused_same (Some (Ok t, span)) at_end f g h = h (Some t) span
refused_same (Some (Err e, span)) at_end f g h = refl

said_of_state : (ks : List Token) (s : Input) → said (state ks s) ≡ none_of ks s
unfolding said none_of
said_of_state ks s = refused_same (first_item s) (shown_span s) (by_attempts (count_of ks) (remember 10 ks)) (none_found ks) (attempted ks)

-- the fault of a lookahead that tried these tokens
pub said_of_tried : (ks : List Token) (s : Input) → said (tried_all ks (fresh s)) ≡ none_of ks s
said_of_tried ks s = ap said (all_tried [] ks s) ∙ said_of_state ks s

pub tried_both : (ks ls : List Token) (a : Ahead) → tried_all ls (tried_all ks a) ≡ tried_all (ks ++ ls) a
tried_both [] ls a = refl
tried_both (k ∷ ks) ls a = tried_both ks ls (tried k a)

count_grows : (ks : List Token) (a : Ahead) → 0 < a.count → 0 < (tried_all ks a).count
count_grows [] a h = h
count_grows (k ∷ ks) a h = count_grows ks (tried k a) (omega arith)

pub some_tried : (k : Token) (ks : List Token) (a : Ahead) → 0 < (tried_all (k ∷ ks) a).count
some_tried k ks a = count_grows ks (tried k a) (omega arith)

pub next_kept : (ks : List Token) (a : Ahead) → (tried_all ks a).next ≡ a.next
next_kept [] a = refl
next_kept (k ∷ ks) a = next_kept ks (tried k a)

-- ---- where none comes next

none_by : (b c : Bool) (x y z : Ahead) → (c ≡ false → y ≡ z) → cond b true c ≡ false → cond b x y ≡ z
none_by true c x y z h e = cc
none_by false c x y z h e = h e

none_next : (ks : List Token) (t : Option Token) (a : Ahead) → is_any ks t ≡ false → tried_until ks t a ≡ tried_all ks a
none_next [] t a e = refl
none_next (k ∷ ks) t a e = none_by (is_token k t) (is_any ks t) a (tried_until ks t (tried k a)) (tried_all ks (tried k a)) (none_next ks t (tried k a)) e

pub missed_all : (ks : List Token) (old new : Ahead) (found : Bool) → Tries ks old found new → found ≡ false → new ≡ tried_all ks old
missed_all ks old new found tries none = tries.after ∙ none_next ks (token_of old.next) old (sym tries.value ∙ none)

-- ---- what stands behind a first attempt

pub first_missed : (k : Token) (s : Input) (a b : Ahead) (found : Bool) → a ≡ fresh s → found ≡ is_token k (token_of a.next) → b ≡ cond found a (tried k a) → sees k s ≡ false → b ≡ tried k (fresh s)
unfolding sees
first_missed k s a b found e f h none =
    let no_token : found ≡ false = f ∙ ap (λ (x : Ahead). is_token k (token_of x.next)) e ∙ none in
    h ∙ ap (λ v. cond v a (tried k a)) no_token ∙ ap (tried k) e

pub begins_same : (k : Token) (ks : List Token) (s : Input) (b : Ahead) (found : Bool) → b ≡ tried k (fresh s) → found ≡ is_any ks (token_of b.next) → found ≡ sees_any ks s
unfolding sees_any
begins_same k ks s b found e f = f ∙ ap (λ (x : Ahead). is_any ks (token_of x.next)) e

pub said_behind : (k : Token) (ks : List Token) (s : Input) (b c : Ahead) → b ≡ tried k (fresh s) → c ≡ tried_all ks b → said c ≡ none_of (k ∷ ks) s
said_behind k ks s b c e f = ap said (f ∙ ap (tried_all ks) e) ∙ said_of_tried (k ∷ ks) s

pub some_behind : (k : Token) (ks : List Token) (s : Input) (b c : Ahead) → b ≡ tried k (fresh s) → c ≡ tried_all ks b → 0 < c.count
some_behind k ks s b c e f = let P : Ahead → Type 0 = λ (x : Ahead). 0 < x.count in subst P (sym (f ∙ ap (tried_all ks) e)) (some_tried k ks (fresh s))

pub none_tried : (ks : List Token) (s : Input) (a b : Ahead) → a ≡ fresh s → b ≡ tried_all ks a → 0 < length ks → 0 < b.count
none_tried [] s a b e f some = absurd (omega arith)
none_tried (k ∷ ks) s a b e f some = let P : Ahead → Type 0 = λ (x : Ahead). 0 < x.count in subst P (sym f) (some_tried k ks a)

pub none_said : (ks : List Token) (s : Input) (a b : Ahead) → a ≡ fresh s → b ≡ tried_all ks a → said b ≡ none_of ks s
none_said ks s a b e f = ap said (f ∙ ap (tried_all ks) e) ∙ said_of_tried ks s
