-- A rule reads just what it says.
use Rattle.std.proofs.Common.{◌≡◌, ◌<◌, ◌≤◌, inl, inr, Bool, true, false, List, [], ◌∷◌, length, Option, Some, None, Result, Ok, Err, refl, ap, subst, sym, ◌∙◌, arith, rules, cond}
use denote.Enum.Bare.{same_true, true_same}
use Rattle.wac_parser_lexer.specs.contracts.token.Token.{the_type}
use Rattle.wac_parser_lexer.specs.declared.span.SourceSpan.{SourceSpan}
use Rattle.wac_parser_lexer.specs.declared.token.Token.{Token}
use Rattle.wac_parser_lexer.specs.declared.token.Token.TheVariants as k
use Rattle.wac_parser_lexer.specs.declared.error.Error.{Error}
use Rattle.wac_parser_lexer.specs.Items.{Doc, Input, Item, first_item, first_of_items, rest_input, rest_of_items, docs_left, next_span}
use Rattle.wac_parser_grammar.specs.Faults.{Fault}
use Rattle.wac_parser_grammar.specs.Ahead.{same_token, is_token, is_any, token_of, sees, sees_any, missed}
use Rattle.wac_parser_grammar.specs.Rules.{Rule, span_of_items, fault_ahead, sees_token, and_then, ◌>>=◌, pure, refuse, token, look, choose, begin, begin_any, unfaulty_by, unfaulty, optional, comma, behind, left}

pub record Exact {X : Type 0} (p : Rule X) : Type 0 where
  pub sound : (s : Input) (x : X) (r : Input) → p.read s ≡ Ok (x, r) → p.Is x s r
  pub complete : (s : Input) (x : X) (r : Input) → p.Is x s r → p.read s ≡ Ok (x, r)

-- at most as many items are left, or fewer
pub record Keeps {X : Type 0} (p : Rule X) : Type 0 where
  pub keeps : (s : Input) (x : X) (r : Input) → p.Is x s r → left r ≤ left s

pub record Takes {X : Type 0} (p : Rule X) : Type 0 where
  pub takes : (s : Input) (x : X) (r : Input) → p.Is x s r → left r < left s

-- one of the tokens stands where a value begins
pub record Begins {X : Type 0} (ks : List Token) (p : Rule X) : Type 0 where
  pub begins : (s : Input) (x : X) (r : Input) → p.Is x s r → sees_any ks s ≡ true

pub inside : {X : Type 0} {p q : X} → ◌≡◌ {A = Result X Fault} (Ok p) (Ok q) → p ≡ q
inside e = cc

pub both : {A B : Type 0} (o : Result (A × Input) Fault) (g : A → Input → Result (B × Input) Fault) (q : B × Input) → and_then o g ≡ Ok q
    → (a : A) × (m : Input) × (o ≡ Ok (a, m)) × (g a m ≡ Ok q)
both (Err e) g q h = cc
both (Ok p) g q h = (p.0, p.1, refl, h)

pub bind : {A B : Type 0} (p : Rule A) (f : A → Rule B) → Exact p → ((a : A) → Exact (f a)) → Exact (p >>= f)
bind p f ep ef = record {
  sound = λ s y r e. let b = both (p.read s) (λ a m. (f a).read m) (y, r) e in (b.0, b.1, ep.sound s b.0 b.1 b.2, (ef b.0).sound b.1 y r b.3);
  complete = λ s y r h. rw (ep.complete s h.0 h.1 h.2) ((ef h.0).complete h.1 y r h.3);
}

pub pure_exact : {X : Type 0} (x : X) → Exact (pure x)
pure_exact x = record {
  sound = λ s y r e. (sym (ap (λ p. p.0) (inside e)), sym (ap (λ p. p.1) (inside e)));
  complete = λ s y r h. rw (h.0, h.1) refl;
}

pub refuse_exact : {X : Type 0} (fault : Input → Fault) → Exact (refuse {X = X} fault)
refuse_exact fault = record { sound = λ s y r e. cc; complete = λ s y r h. absurd h }

pub look_exact : {X : Type 0} (f : Input → X) → Exact (look f)
look_exact f = record {
  sound = λ s y r e. (sym (ap (λ p. p.0) (inside e)), sym (ap (λ p. p.1) (inside e)));
  complete = λ s y r h. rw (h.0, h.1) refl;
}

pub choose_exact : {X : Type 0} (b : Bool) (p q : Rule X) → Exact p → Exact q → Exact (choose b p q)
choose_exact true p q ep eq = record {
  sound = λ s y r e. inl (refl, ep.sound s y r e);
  complete = λ s y r h. elim h [ inl w ↦ ep.complete s y r w.1 | inr w ↦ cc ];
}
choose_exact false p q ep eq = record {
  sound = λ s y r e. inr (refl, eq.sound s y r e);
  complete = λ s y r h. elim h [ inl w ↦ cc | inr w ↦ eq.complete s y r w.1 ];
}

pub begin_exact : {X : Type 0} (k : Token) (p q : Rule X) → Exact p → Exact q → Exact (begin k p q)
begin_exact k p q ep eq = bind (look (sees k)) (λ found. choose found p q) (look_exact (sees k)) (λ found. choose_exact found p q ep eq)

pub begin_any_exact : {X : Type 0} (ks : List Token) (p q : Rule X) → Exact p → Exact q → Exact (begin_any ks p q)
begin_any_exact ks p q ep eq = bind (look (sees_any ks)) (λ found. choose found p q) (look_exact (sees_any ks)) (λ found. choose_exact found p q ep eq)

-- ---- tokens

pub found_same : (k : Token) → same_token k k ≡ true
unfolding same_token
found_same k = true_same the_type k k refl

pub is_same : (t k : Token) → same_token t k ≡ true → t ≡ k
unfolding same_token
is_same t k e = same_true the_type (search rules) t k e

chosen : {X : Type 0} (b : Bool) (v q : X) (f : Fault) → cond {A = Result X Fault} b (Ok v) (Err f) ≡ Ok q → (b ≡ true) × (v ≡ q)
chosen true v q f e = (refl, inside e)
chosen false v q f e = cc

first_by : (token : Result Token Error) (docs : List Doc) (span : SourceSpan) (is : List Item) (k : Token) → is_token k (token_of (Some (token, span))) ≡ true
    → (d : List Doc) × (e : SourceSpan) × (rest : List Item) × ◌≡◌ {A = List Item} (record { docs = docs; token = token; span = span } ∷ is) (record { docs = d; token = Ok k; span = e } ∷ rest)
first_by (Ok t) docs span is k e = (docs, span, is, ap (λ (t : Token). record { docs = docs; token = Ok t; span = span } ∷ is) (is_same t k e))
first_by (Err x) docs span is k e = cc

first_is : (items : List Item) (k : Token) → is_token k (token_of (first_of_items items)) ≡ true → (docs : List Doc) × (span : SourceSpan) × (rest : List Item) × (items ≡ record { docs = docs; token = Ok k; span = span } ∷ rest)
first_is [] k e = cc
first_is (i ∷ is) k e = first_by i.token i.docs i.span is k e

token_sound : (k : Token) (s : Input) (x : SourceSpan) (r : Input) → (token k).read s ≡ Ok (x, r) → (token k).Is x s r
unfolding sees
token_sound k s x r e =
    let c = chosen (is_token k (token_of (first_item s))) (span_of_items s.items, rest_input s) (x, r) (missed k s) e in
    let f = first_is s.items k c.0 in
    let same : f.1 ≡ x = sym (ap span_of_items f.3) ∙ ap (λ p. p.0) c.1 in
    (f.0, f.2, f.3 ∙ ap (λ (y : SourceSpan). record { docs = f.0; token = Ok k; span = y } ∷ f.2) same, sym (ap (λ p. p.1) c.1))

token_complete : (k : Token) (s : Input) (x : SourceSpan) (r : Input) → (token k).Is x s r → (token k).read s ≡ Ok (x, r)
unfolding sees
token_complete k s x r h =
    let behind_it = h.3 ∙ ap (λ (l : List Item). record { source = s.source; items = rest_of_items l; docs = docs_left s.docs l; last = next_span s.source l }) h.2 in
    rw (h.2, found_same k) (ap (λ (y : Input). Ok (x, y)) (sym behind_it))

pub token_exact : (k : Token) → Exact (token k)
token_exact k = record { sound = token_sound k; complete = token_complete k }

unfaulty_sound_by : (o : Option Fault) (s : Input) (q : Unit {0} × Input) → unfaulty_by o s ≡ Ok q → (o ≡ None) × (q.1 ≡ s)
unfaulty_sound_by None s q e = (refl, sym (ap (λ p. p.1) (inside e)))
unfaulty_sound_by (Some f) s q e = cc

pub unfaulty_exact : Exact unfaulty
unfaulty_exact = record {
  sound = λ s x r e. unfaulty_sound_by (fault_ahead s) s (x, r) e;
  complete = λ s x r h. rw (h.0, h.1) refl;
}

pub optional_exact : (k : Token) → Exact (optional k)
unfolding optional
optional_exact k = bind _ _ unfaulty_exact (λ _. begin_exact k _ _ (bind _ _ (token_exact k) (λ _. pure_exact true)) (pure_exact false))

pub comma_exact : Exact comma
comma_exact = bind _ _ (look_exact sees_token) (λ some. choose_exact some _ _ (bind _ _ (token_exact k.Comma) (λ _. pure_exact tt)) (pure_exact tt))

pub behind_exact : (until : Token) (commas : Bool) → Exact (behind until commas)
unfolding behind
behind_exact until commas = begin_exact until _ _ (pure_exact tt) (choose_exact commas _ _ comma_exact (pure_exact tt))

-- ---- how many items a rule takes

pub bind_takes : {A B : Type 0} (p : Rule A) (f : A → Rule B) → Takes p → ((a : A) → Keeps (f a)) → Takes (p >>= f)
bind_takes p f tp kf = record { takes = λ s y r h. let a = tp.takes s h.0 h.1 h.2 in let b = (kf h.0).keeps h.1 y r h.3 in omega (arith, a, b) }

pub bind_keeps : {A B : Type 0} (p : Rule A) (f : A → Rule B) → Keeps p → ((a : A) → Keeps (f a)) → Keeps (p >>= f)
bind_keeps p f kp kf = record { keeps = λ s y r h. let a = kp.keeps s h.0 h.1 h.2 in let b = (kf h.0).keeps h.1 y r h.3 in omega (arith, a, b) }

pub then_takes : {A B : Type 0} (p : Rule A) (f : A → Rule B) → Keeps p → ((a : A) → Takes (f a)) → Takes (p >>= f)
then_takes p f kp tf = record { takes = λ s y r h. let a = kp.keeps s h.0 h.1 h.2 in let b = (tf h.0).takes h.1 y r h.3 in omega (arith, a, b) }

pub still_keeps : {X : Type 0} (p : Rule X) → Takes p → Keeps p
still_keeps p t = record { keeps = λ s x r h. let a = t.takes s x r h in omega (arith, a) }

pub pure_keeps : {X : Type 0} (x : X) → Keeps (pure x)
pure_keeps x = record { keeps = λ s y r h. omega (arith, ap left h.1) }

pub look_keeps : {X : Type 0} (f : Input → X) → Keeps (look f)
look_keeps f = record { keeps = λ s y r h. omega (arith, ap left h.1) }

pub refuse_takes : {X : Type 0} (fault : Input → Fault) → Takes (refuse {X = X} fault)
refuse_takes fault = record { takes = λ s y r h. absurd h }

fewer : (items rest : List Item) (i : Item) → items ≡ i ∷ rest → length (rest_of_items items) < length items
fewer items rest i e = let P : List Item → Type 0 = λ (l : List Item). length (rest_of_items l) < length l in let few : P (i ∷ rest) = omega arith in subst P (sym e) few

pub token_takes : (k : Token) → Takes (token k)
token_takes k = record { takes = λ s y r h. let f = fewer s.items h.1 _ h.2 in omega (arith, f, ap left h.3) }

pub choose_takes : {X : Type 0} (b : Bool) (p q : Rule X) → Takes p → Takes q → Takes (choose b p q)
choose_takes b p q tp tq = record { takes = λ s y r h. elim h [ inl w ↦ tp.takes s y r w.1 | inr w ↦ tq.takes s y r w.1 ] }

pub choose_keeps : {X : Type 0} (b : Bool) (p q : Rule X) → Keeps p → Keeps q → Keeps (choose b p q)
choose_keeps b p q tp tq = record { keeps = λ s y r h. elim h [ inl w ↦ tp.keeps s y r w.1 | inr w ↦ tq.keeps s y r w.1 ] }

pub begin_takes : {X : Type 0} (k : Token) (p q : Rule X) → Takes p → Takes q → Takes (begin k p q)
begin_takes k p q tp tq = then_takes (look (sees k)) (λ found. choose found p q) (look_keeps (sees k)) (λ found. choose_takes found p q tp tq)

pub begin_keeps : {X : Type 0} (k : Token) (p q : Rule X) → Keeps p → Keeps q → Keeps (begin k p q)
begin_keeps k p q tp tq = bind_keeps (look (sees k)) (λ found. choose found p q) (look_keeps (sees k)) (λ found. choose_keeps found p q tp tq)

pub begin_any_takes : {X : Type 0} (ks : List Token) (p q : Rule X) → Takes p → Takes q → Takes (begin_any ks p q)
begin_any_takes ks p q tp tq = then_takes (look (sees_any ks)) (λ found. choose found p q) (look_keeps (sees_any ks)) (λ found. choose_takes found p q tp tq)

pub begin_any_keeps : {X : Type 0} (ks : List Token) (p q : Rule X) → Keeps p → Keeps q → Keeps (begin_any ks p q)
begin_any_keeps ks p q tp tq = bind_keeps (look (sees_any ks)) (λ found. choose found p q) (look_keeps (sees_any ks)) (λ found. choose_keeps found p q tp tq)

pub unfaulty_keeps : Keeps unfaulty
unfaulty_keeps = record { keeps = λ s y r h. omega (arith, ap left h.1) }

pub optional_keeps : (k : Token) → Keeps (optional k)
unfolding optional
optional_keeps k = bind_keeps _ _ unfaulty_keeps (λ _. begin_keeps k _ _ (bind_keeps _ _ (still_keeps _ (token_takes k)) (λ _. pure_keeps true)) (pure_keeps false))

pub comma_keeps : Keeps comma
comma_keeps = bind_keeps _ _ (look_keeps sees_token) (λ some. choose_keeps some _ _ (bind_keeps _ _ (still_keeps _ (token_takes k.Comma)) (λ _. pure_keeps tt)) (pure_keeps tt))

pub behind_keeps : (until : Token) (commas : Bool) → Keeps (behind until commas)
unfolding behind
behind_keeps until commas = begin_keeps until _ _ (pure_keeps tt) (choose_keeps commas _ _ comma_keeps (pure_keeps tt))

-- ---- where a value begins

any_at : (k : Token) (ks : List Token) (o : Option Token) → is_token k o ≡ true → is_any (k ∷ ks) o ≡ true
any_at k ks o e = rw e refl

any_later : (k : Token) (ks : List Token) (o : Option Token) (b : Bool) → b ≡ is_token k o → is_any ks o ≡ true → cond b true (is_any ks o) ≡ true
any_later k ks o true e h = refl
any_later k ks o false e h = h

pub token_begins : (k : Token) (ks : List Token) → Begins (k ∷ ks) (token k)
unfolding sees sees_any
token_begins k ks = record {
  begins = λ s x r h.
      let c = chosen (is_token k (token_of (first_item s))) (span_of_items s.items, rest_input s) (x, r) (missed k s) (token_complete k s x r h) in
      any_at k ks (token_of (first_item s)) c.0;
}

pub bind_begins : {A B : Type 0} (ks : List Token) (p : Rule A) (f : A → Rule B) → Begins ks p → Begins ks (p >>= f)
bind_begins ks p f b = record { begins = λ s y r h. b.begins s h.0 h.1 h.2 }

-- the rule takes no item
pub record Silent {X : Type 0} (p : Rule X) : Type 0 where
  pub stays : (s : Input) (x : X) (r : Input) → p.Is x s r → r ≡ s

pub silent_begins : {A B : Type 0} (ks : List Token) (p : Rule A) (f : A → Rule B) → Silent p → ((a : A) → Begins ks (f a)) → Begins ks (p >>= f)
silent_begins ks p f silent b = record { begins = λ s y r h. let P : Input → Type 0 = λ (m : Input). sees_any ks m ≡ true in subst P (silent.stays s h.0 h.1 h.2) ((b h.0).begins h.1 y r h.3) }

pub refuse_begins : {X : Type 0} (ks : List Token) (fault : Input → Fault) → Begins ks (refuse {X = X} fault)
refuse_begins ks fault = record { begins = λ s y r h. absurd h }

-- a token more that may come first
pub skip : {X : Type 0} (k : Token) (ks : List Token) (p : Rule X) → Begins ks p → Begins (k ∷ ks) p
unfolding sees_any
skip k ks p b = record { begins = λ s y r h. any_later k ks (token_of (first_item s)) (is_token k (token_of (first_item s))) refl (b.begins s y r h) }

-- a choice by the first token begins with it, or as the rest
pub begin_begins : {X : Type 0} (k : Token) (ks : List Token) (p q : Rule X) → Begins ks q → Begins (k ∷ ks) (begin k p q)
unfolding sees sees_any
begin_begins k ks p q b = record {
  begins = λ s y r h. elim h.3 [
    | inl w ↦ any_at k ks (token_of (first_item s)) (sym h.2.0 ∙ w.0)
    | inr w ↦ (let P : Input → Type 0 = λ (m : Input). is_any ks (token_of (first_item m)) ≡ true in any_later k ks (token_of (first_item s)) (is_token k (token_of (first_item s))) refl (subst P h.2.1 (b.begins h.1 y r w.1)))
  ];
}

-- a last choice among several first tokens
pub last_begins : {X : Type 0} (ks : List Token) (p : Rule X) (fault : Input → Fault) → Begins ks (begin_any ks p (refuse fault))
last_begins ks p fault = record { begins = λ s y r h. elim h.3 [ inl w ↦ sym h.2.0 ∙ w.0 | inr w ↦ absurd w.1 ] }

-- behind a token that may come first
pub optional_begins : {B : Type 0} (k : Token) (ks : List Token) (f : Bool → Rule B) → ((a : Bool) → Begins ks (f a)) → Begins (k ∷ ks) (optional k >>= f)
unfolding optional sees sees_any
optional_begins k ks f b = record {
  begins = λ s y r h.
      let here : h.2.1 ≡ s = h.2.2.1 in
      let found = h.2.3 in
      elim found.3 [
        | inl w ↦ (let P : Input → Type 0 = λ (m : Input). is_token k (token_of (first_item m)) ≡ true in any_at k ks (token_of (first_item s)) (subst P here (sym found.2.0 ∙ w.0)))
        | inr w ↦ (let P : Input → Type 0 = λ (m : Input). is_any ks (token_of (first_item m)) ≡ true in any_later k ks (token_of (first_item s)) (is_token k (token_of (first_item s))) refl (subst P (w.1.1 ∙ found.2.1 ∙ here) ((b h.0).begins h.1 y r h.3)))
      ];
}
