-- The faults of a rule stand in the source.
use Rattle.std.proofs.Common.{◌≡◌, ◌≢◌, ℕ, zero, suc, ◌≤◌, ◌⊎◌, inl, inr, Bool, true, false, List, [], ◌∷◌, ◌++◌, length, Option, Some, None, Result, Ok, Err, refl, ap, subst, sym, ◌∙◌, arith, cond}
use Rattle.wac_parser_lexer.specs.declared.span.SourceSpan.{SourceSpan}
use Rattle.wac_parser_lexer.specs.declared.token.Token.{Token}
use Rattle.wac_parser_lexer.specs.declared.token.Token.TheVariants as k
use Rattle.wac_parser_lexer.specs.declared.error.Error.{Error}
use Rattle.wac_parser_lexer.specs.Items.{Input, Item, first_item, first_of_items, rest_of_items, rest_input, shown_span}
use Rattle.wac_parser_grammar.specs.Faults.{Fault, lexer, expected, nested_too_deep}
use Rattle.wac_parser_grammar.specs.Ahead.{is_token, is_any, token_of, next_token, sees, sees_any, remember, none_found, refused_at, none_of, missed}
use Rattle.wac_parser_grammar.specs.Rules.{Rule, span_of_items, fault_of_item, fault_ahead, sees_token, and_then, ◌>>=◌, pure, refuse, token, look, choose, begin, begin_any, unfaulty_by, unfaulty, optional, comma, behind, left}
use Rattle.wac_parser_grammar.specs.ValueTypes.{too_deep}
use Rattle.wac_parser_grammar.specs.Places.{IsBehind, here, on}
use Rattle.wac_parser_grammar.specs.Standing.{Saying, IsFound, IsNoneOf, StandsAt, StandsBy, IsTooDeep}
use Rattle.wac_parser_grammar.proofs.Exact.{inside, both, found_same}

-- Where the condition holds, the rule goes on to a place behind, or its fault stands.
pub record FaithfulBy (N : Saying) {X : Type 0} (C : Input → Type 0) (p : Rule X) : Type 0 where
  pub goes : (s : Input) (x : X) (r : Input) → C s → p.read s ≡ Ok (x, r) → IsBehind r s
  pub stands : (s : Input) (f : Fault) → C s → p.read s ≡ Err f → StandsBy N s f

-- with room for all levels
abbrev pub Faithful : {X : Type 0} → (Input → Type 0) → Rule X → Type 0
Faithful C p = FaithfulBy (IsTooDeep 128) C p

-- whatever is said of faults of nesting
abbrev pub Loose : (List ℕ → Type 0) → Saying
Loose unread = record { deep = λ s span. Unit {0}; unread = unread }

abbrev pub Any : Input → Type 0
Any s = Unit {0}

pub anywhere : {N : Saying} {X : Type 0} {C : Input → Type 0} {p : Rule X} → FaithfulBy N Any p → FaithfulBy N C p
anywhere e = record { goes = λ s x r c h. e.goes s x r tt h; stands = λ s f c h. e.stands s f tt h }

pub behind_trans : (a b c : Input) → IsBehind a b → IsBehind b c → IsBehind a c
behind_trans a b b' h here = h
behind_trans a b c h (on j) = on (behind_trans a b _ h j)

pub stands_behind : (N : Saying) (m s : Input) (f : Fault) → IsBehind m s → StandsBy N m f → StandsBy N s f
stands_behind N m s f b h = (h.0, behind_trans h.0 m s h.1 b, h.2)

pub err_inside : {X : Type 0} {f g : Fault} → ◌≡◌ {A = Result X Fault} (Err f) (Err g) → f ≡ g
err_inside e = cc

pub one_of : {A B : Type 0} (o : Result (A × Input) Fault) (g : A → Input → Result (B × Input) Fault) (f : Fault) → and_then o g ≡ Err f
    → (o ≡ Err f) ⊎ ((a : A) × (m : Input) × (o ≡ Ok (a, m)) × (g a m ≡ Err f))
one_of (Err e) g f h = inl (ap Err (err_inside h))
one_of (Ok p) g f h = inr (p.0, p.1, refl, h)

pub bind_faithful : {N : Saying} {A B : Type 0} {C : Input → Type 0} (p : Rule A) (f : A → Rule B) → FaithfulBy N C p → ((a : A) → FaithfulBy N Any (f a)) → FaithfulBy N C (p >>= f)
bind_faithful {N = N} p f ep ef = record {
  goes = λ s y r c h.
      let b = both (p.read s) (λ a m. (f a).read m) (y, r) h in
      behind_trans r b.1 s ((ef b.0).goes b.1 y r tt b.3) (ep.goes s b.0 b.1 c b.2);
  stands = λ s fault c h. elim (one_of (p.read s) (λ a m. (f a).read m) fault h) [
    | inl w ↦ ep.stands s fault c w
    | inr w ↦ stands_behind N w.1 s fault (ep.goes s w.0 w.1 c w.2) ((ef w.0).stands w.1 fault tt w.3)
  ];
}

same_place : {X : Type 0} (s : Input) (x y : X) (r : Input) → ◌≡◌ {A = Result (X × Input) Fault} (Ok (y, s)) (Ok (x, r)) → IsBehind r s
same_place s x y r h = let P : Input → Type 0 = λ (m : Input). IsBehind m s in subst P (ap (λ p. p.1) (inside h)) here

pub pure_faithful : {N : Saying} {X : Type 0} {C : Input → Type 0} (x : X) → FaithfulBy N C (pure x)
pure_faithful x = record { goes = λ s y r c h. same_place s y x r h; stands = λ s f c h. cc }

pub look_faithful : {N : Saying} {X : Type 0} {C : Input → Type 0} (f : Input → X) → FaithfulBy N C (look f)
look_faithful f = record { goes = λ s y r c h. same_place s y (f s) r h; stands = λ s g c h. cc }

pub choose_faithful : {N : Saying} {X : Type 0} {C : Input → Type 0} (b : Bool) (p q : Rule X) → FaithfulBy N C p → FaithfulBy N C q → FaithfulBy N C (choose b p q)
choose_faithful true p q ep eq = record { goes = λ s x r c h. ep.goes s x r c h; stands = λ s f c h. ep.stands s f c h }
choose_faithful false p q ep eq = record { goes = λ s x r c h. eq.goes s x r c h; stands = λ s f c h. eq.stands s f c h }

-- ---- what isn't there

pub none_is_any : (ks : List Token) → is_any ks None ≡ false
none_is_any [] = refl
none_is_any (k ∷ ks) = none_is_any ks

cond_step : (b x y : Bool) → cond b true x ≡ false → (x ≡ false → y ≡ false) → cond b true y ≡ false
cond_step true x y e f = e
cond_step false x y e f = f e

cond_right : {Y : Type 0} (b x : Bool) → cond b true x ≡ false → (x ≡ false → Y) → Y
cond_right true x e f = cc
cond_right false x e f = f e

cond_head : (b x : Bool) → cond b true x ≡ false → b ≡ false
cond_head true x e = e
cond_head false x e = refl

any_both : (ks ls : List Token) (o : Option Token) → is_any ks o ≡ false → is_any ls o ≡ false → is_any (ks ++ ls) o ≡ false
any_both [] ls o e f = f
any_both (k ∷ ks) ls o e f = cond_step (is_token k o) (is_any ks o) (is_any (ks ++ ls) o) e (λ g. any_both ks ls o g f)

pub none_both : (ks ls : List Token) (s : Input) → sees_any ks s ≡ false → sees_any ls s ≡ false → sees_any (ks ++ ls) s ≡ false
unfolding sees_any
none_both ks ls s e f = any_both ks ls (next_token s) e f

any_left : (ks ls : List Token) (o : Option Token) → is_any (ks ++ ls) o ≡ false → is_any ks o ≡ false
any_left [] ls o e = refl
any_left (k ∷ ks) ls o e = cond_step (is_token k o) (is_any (ks ++ ls) o) (is_any ks o) e (λ f. any_left ks ls o f)

any_right : (ks ls : List Token) (o : Option Token) → is_any (ks ++ ls) o ≡ false → is_any ls o ≡ false
any_right [] ls o e = e
any_right (k ∷ ks) ls o e = cond_right (is_token k o) (is_any (ks ++ ls) o) e (λ f. any_right ks ls o f)

pub none_left : (ks ls : List Token) (s : Input) → sees_any (ks ++ ls) s ≡ false → sees_any ks s ≡ false
unfolding sees_any
none_left ks ls s e = any_left ks ls (next_token s) e

pub none_right : (ks ls : List Token) (s : Input) → sees_any (ks ++ ls) s ≡ false → sees_any ls s ≡ false
unfolding sees_any
none_right ks ls s e = any_right ks ls (next_token s) e

pub none_one : (k : Token) (s : Input) → sees k s ≡ false → sees_any (k ∷ []) s ≡ false
unfolding sees sees_any
none_one k s e = rw e refl

not_it : (k : Token) (o : Option Token) → is_token k o ≡ false → o ≢ Some k
not_it k o e f = let two : true ≡ false = sym (found_same k) ∙ ap (is_token k) (sym f) ∙ e in cc

not_head : (k : Token) (ks : List Token) (o : Option Token) → is_any (k ∷ ks) o ≡ false → is_token k o ≡ false
not_head k ks o e = cond_head (is_token k o) (is_any ks o) e

not_tail : (k : Token) (ks : List Token) (o : Option Token) → is_any (k ∷ ks) o ≡ false → is_any ks o ≡ false
not_tail k ks o e = cond_right (is_token k o) (is_any ks o) e (λ f. f)

blank_none : (n : ℕ) (o : Option Token) → IsNoneOf (remember n []) o
blank_none zero o = tt
blank_none (suc n) o = blank_none n o

none_remembered : (n : ℕ) (ks : List Token) (o : Option Token) → is_any ks o ≡ false → IsNoneOf (remember n ks) o
none_remembered zero ks o e = tt
none_remembered (suc n) [] o e = blank_none n o
none_remembered (suc n) (k ∷ ks) o e = (not_it k o (not_head k ks o e), none_remembered n ks o (not_tail k ks o e))

found_stands : (N : Saying) (s : Input) (ks : List Token) (found : Option Token) (span : SourceSpan) → IsFound s found span → is_any ks found ≡ false → StandsAt N s (none_found ks found span)
found_stands N s [] found span h e = (h, none_remembered 10 [] found e)
found_stands N s (k ∷ []) found span h e = (h, not_it k found (not_head k [] found e))
found_stands N s (k ∷ l ∷ []) found span h e = (h, not_it k found (not_head k (l ∷ []) found e), not_it l found (not_head l [] found (not_tail k (l ∷ []) found e)))
found_stands N s (k ∷ l ∷ m ∷ ks) found span h e = (h, none_remembered 10 (k ∷ l ∷ m ∷ ks) found e)

no_items : (items : List Item) → first_of_items items ≡ None → items ≡ []
no_items [] e = refl
no_items (i ∷ is) e = cc

refused_stands : (N : Saying) (s : Input) (ks : List Token) (o : Option (Result Token Error × SourceSpan)) → first_item s ≡ o → is_any ks (token_of o) ≡ false → StandsAt N s (refused_at o (shown_span s) (none_found ks))
refused_stands N s ks None e f = found_stands N s ks None (shown_span s) (no_items s.items e, inl refl) f
refused_stands N s ks (Some (Ok t, span)) e f = found_stands N s ks (Some t) span e f
refused_stands N s ks (Some (Err x, span)) e f = e

pub none_stands : (N : Saying) (ks : List Token) (s : Input) → sees_any ks s ≡ false → StandsAt N s (none_of ks s)
unfolding none_of sees_any
none_stands N ks s e = refused_stands N s ks (first_item s) refl e

missed_by : (N : Saying) (k : Token) (s : Input) (o : Option (Result Token Error × SourceSpan)) → first_item s ≡ o → is_token k (token_of o) ≡ false → StandsAt N s (refused_at o (shown_span (rest_input s)) (expected k))
missed_by N k s None e f = ((no_items s.items e, inr refl), not_it k None f)
missed_by N k s (Some (Ok t, span)) e f = (e, not_it k (Some t) f)
missed_by N k s (Some (Err x, span)) e f = e

pub missed_stands : (N : Saying) (k : Token) (s : Input) → sees k s ≡ false → StandsAt N s (missed k s)
unfolding missed sees
missed_stands N k s e = missed_by N k s (first_item s) refl e

pub stands_here : (N : Saying) (s : Input) (f g : Fault) → f ≡ g → StandsAt N s f → StandsBy N s g
stands_here N s f g e h = let P : Fault → Type 0 = λ (x : Fault). StandsBy N s x in subst P e (s, here, h)

pub refuse_faithful : {N : Saying} {X : Type 0} {C : Input → Type 0} (ks : List Token) → ((s : Input) → C s → sees_any ks s ≡ false) → FaithfulBy N C (refuse {X = X} (none_of ks))
refuse_faithful {N = N} ks none = record { goes = λ s x r c h. cc; stands = λ s f c h. stands_here N s (none_of ks s) f (err_inside h) (none_stands N ks s (none s c)) }

pub cause_faithful : {N : Saying} {X : Type 0} {C : Input → Type 0} (cause : Input → Fault) → ((s : Input) → C s → StandsBy N s (cause s)) → FaithfulBy N C (refuse {X = X} cause)
cause_faithful {N = N} cause stands = record { goes = λ s x r c h. cc; stands = λ s f c h. let P : Fault → Type 0 = λ (x : Fault). StandsBy N s x in subst P (err_inside h) (stands s c) }

-- ---- tokens and choices

token_by : (b : Bool) (s : Input) (x : SourceSpan) (m : Fault) (q : SourceSpan × Input) → cond {A = Result (SourceSpan × Input) Fault} b (Ok (x, rest_input s)) (Err m) ≡ Ok q → IsBehind q.1 s
token_by true s x m q h = let P : Input → Type 0 = λ (r : Input). IsBehind r s in subst P (ap (λ p. p.1) (inside h)) (on here)
token_by false s x m q h = cc

pub token_fails : (b : Bool) (s : Input) (x : SourceSpan) (m f : Fault) → cond {A = Result (SourceSpan × Input) Fault} b (Ok (x, rest_input s)) (Err m) ≡ Err f → (b ≡ false) × (m ≡ f)
token_fails true s x m f h = cc
token_fails false s x m f h = (refl, err_inside h)

pub token_faithful : {N : Saying} → (k : Token) → FaithfulBy N Any (token k)
token_faithful {N = N} k = record {
  goes = λ s x r c h. token_by (sees k s) s (span_of_items s.items) (missed k s) (x, r) h;
  stands = λ s f c h. let t = token_fails (sees k s) s (span_of_items s.items) (missed k s) f h in stands_here N s (missed k s) f t.1 (missed_stands N k s t.0);
}

abbrev pub Else : (Input → Type 0) → List Token → Input → Type 0
Else C ks s = C s × (sees_any ks s ≡ false)

begin_goes : {N : Saying} {X : Type 0} {C : Input → Type 0} (b : Bool) (p q : Rule X) (s : Input) (x : X) (r : Input) (D : Type 0) → (b ≡ false → D) → FaithfulBy N C p → (D → q.read s ≡ Ok (x, r) → IsBehind r s) → C s → cond b (p.read s) (q.read s) ≡ Ok (x, r) → IsBehind r s
begin_goes true p q s x r D absent ep eq c h = ep.goes s x r c h
begin_goes false p q s x r D absent ep eq c h = eq (absent refl) h

begin_stands : {N : Saying} {X : Type 0} {C : Input → Type 0} (b : Bool) (p q : Rule X) (s : Input) (f : Fault) (D : Type 0) → (b ≡ false → D) → FaithfulBy N C p → (D → q.read s ≡ Err f → StandsBy N s f) → C s → cond b (p.read s) (q.read s) ≡ Err f → StandsBy N s f
begin_stands true p q s f D absent ep eq c h = ep.stands s f c h
begin_stands false p q s f D absent ep eq c h = eq (absent refl) h

pub begin_faithful : {N : Saying} {X : Type 0} {C : Input → Type 0} (k : Token) (p q : Rule X) → FaithfulBy N C p → FaithfulBy N (Else C (k ∷ [])) q → FaithfulBy N C (begin k p q)
begin_faithful k p q ep eq = record {
  goes = λ s x r c h. begin_goes (sees k s) p q s x r (sees_any (k ∷ []) s ≡ false) (none_one k s) ep (λ absent. eq.goes s x r (c, absent)) c h;
  stands = λ s f c h. begin_stands (sees k s) p q s f (sees_any (k ∷ []) s ≡ false) (none_one k s) ep (λ absent. eq.stands s f (c, absent)) c h;
}

pub begin_any_faithful : {N : Saying} {X : Type 0} {C : Input → Type 0} (ks : List Token) (p q : Rule X) → FaithfulBy N C p → FaithfulBy N (Else C ks) q → FaithfulBy N C (begin_any ks p q)
begin_any_faithful ks p q ep eq = record {
  goes = λ s x r c h. begin_goes (sees_any ks s) p q s x r (sees_any ks s ≡ false) (λ e. e) ep (λ absent. eq.goes s x r (c, absent)) c h;
  stands = λ s f c h. begin_stands (sees_any ks s) p q s f (sees_any ks s ≡ false) (λ e. e) ep (λ absent. eq.stands s f (c, absent)) c h;
}

unfaulty_goes : (o : Option Fault) (s : Input) (q : Unit {0} × Input) → unfaulty_by o s ≡ Ok q → IsBehind q.1 s
unfaulty_goes None s q h = let P : Input → Type 0 = λ (r : Input). IsBehind r s in subst P (ap (λ p. p.1) (inside h)) here
unfaulty_goes (Some f) s q h = cc

pub unfaulty_fails : (o : Option Fault) (s : Input) (f : Fault) → unfaulty_by o s ≡ Err f → o ≡ Some f
unfaulty_fails None s f h = cc
unfaulty_fails (Some g) s f h = ap Some (err_inside h)

fault_stands : (N : Saying) (s : Input) (o : Option (Result Token Error × SourceSpan)) (f : Fault) → first_item s ≡ o → fault_of_item o ≡ Some f → StandsAt N s f
fault_stands N s None f e h = cc
fault_stands N s (Some (Ok t, span)) f e h = cc
fault_stands N s (Some (Err x, span)) f e h = let same : lexer x span ≡ f = cc in let P : Fault → Type 0 = StandsAt N s in subst P same e

unfaulty_faithful : {N : Saying} → FaithfulBy N Any unfaulty
unfolding fault_ahead
unfaulty_faithful {N = N} = record {
  goes = λ s x r c h. unfaulty_goes (fault_of_item (first_item s)) s (x, r) h;
  stands = λ s f c h. (s, here, fault_stands N s (first_item s) f refl (unfaulty_fails (fault_of_item (first_item s)) s f h));
}

pub optional_faithful : {N : Saying} → (k : Token) → FaithfulBy N Any (optional k)
unfolding optional
optional_faithful k = bind_faithful _ _ unfaulty_faithful (λ _. begin_faithful k _ _ (bind_faithful _ _ (token_faithful k) (λ _. pure_faithful true)) (pure_faithful false))

comma_faithful : {N : Saying} → FaithfulBy N Any comma
comma_faithful = bind_faithful _ _ (look_faithful sees_token) (λ some. choose_faithful some _ _ (bind_faithful _ _ (token_faithful k.Comma) (λ _. pure_faithful tt)) (pure_faithful tt))

pub behind_faithful : {N : Saying} → (until : Token) (commas : Bool) → FaithfulBy N Any (behind until commas)
unfolding behind
behind_faithful until commas = begin_faithful until _ _ (pure_faithful tt) (choose_faithful commas _ _ (anywhere comma_faithful) (pure_faithful tt))

fewer : (items : List Item) → length (rest_of_items items) ≤ length items
fewer [] = omega arith
fewer (i ∷ is) = omega arith

pub behind_left : (r s : Input) → IsBehind r s → left r ≤ left s
behind_left r r' here = omega arith
behind_left r s (on j) = let a = behind_left r (rest_input s) j in let b = fewer s.items in omega (arith, a, b)

pub narrow : {N : Saying} {X : Type 0} {C D : Input → Type 0} {p : Rule X} → ((s : Input) → D s → C s) → FaithfulBy N C p → FaithfulBy N D p
narrow weaker e = record { goes = λ s x r d h. e.goes s x r (weaker s d) h; stands = λ s f d h. e.stands s f (weaker s d) h }

-- ---- where the depth is spent

begun_by : (ks : List Token) (token : Result Token Error) (span : SourceSpan) → is_any ks (token_of (Some (token, span))) ≡ true → (k : Token) × ◌≡◌ {A = Option (Result Token Error × SourceSpan)} (Some (token, span)) (Some (Ok k, span)) × (is_any ks (Some k) ≡ true)
begun_by ks (Ok t) span e = (t, refl, e)
begun_by ks (Err x) span e = let two : false ≡ true = sym (none_is_any ks) ∙ e in cc

begun_item : (ks : List Token) (items : List Item) → is_any ks (token_of (first_of_items items)) ≡ true → (k : Token) × (first_of_items items ≡ Some (Ok k, span_of_items items)) × (is_any ks (Some k) ≡ true)
begun_item ks [] e = let two : false ≡ true = sym (none_is_any ks) ∙ e in cc
begun_item ks (i ∷ is) e = begun_by ks i.token i.span e

pub begun_here : (ks : List Token) (s : Input) → sees_any ks s ≡ true → (k : Token) × (first_item s ≡ Some (Ok k, span_of_items s.items)) × (is_any ks (Some k) ≡ true)
unfolding sees_any
begun_here ks s e = begun_item ks s.items e

deep_by : {X : Type 0} (b : Bool) (m n : Fault) (s : Input) (x : X) (r : Input) → cond {A = Result (X × Input) Fault} b (Err m) (Err n) ≡ Ok (x, r) → IsBehind r s
deep_by true m n s x r h = cc
deep_by false m n s x r h = cc

pub deep_fails : {X : Type 0} (b : Bool) (m n f : Fault) → cond {A = Result (X × Input) Fault} b (Err m) (Err n) ≡ Err f → ((b ≡ true) × (m ≡ f)) ⊎ ((b ≡ false) × (n ≡ f))
deep_fails true m n f h = inl (refl, err_inside h)
deep_fails false m n f h = inr (refl, err_inside h)

pub too_deep_loose : {unread : List ℕ → Type 0} {X : Type 0} (first : List Token) → FaithfulBy (Loose unread) Any (too_deep {X = X} first)
too_deep_loose {unread = unread} {X = X} first = record {
  goes = λ s x r c h. deep_by {X = X} (sees_any first s) (nested_too_deep (span_of_items s.items)) (none_of first s) s x r h;
  stands = λ s f c h. elim (deep_fails {X = X} (sees_any first s) (nested_too_deep (span_of_items s.items)) (none_of first s) f h) [
    | inl w ↦ stands_here (Loose unread) s (nested_too_deep (span_of_items s.items)) f w.1 tt
    | inr w ↦ stands_here (Loose unread) s (none_of first s) f w.1 (none_stands (Loose unread) first s w.0)
  ];
}
