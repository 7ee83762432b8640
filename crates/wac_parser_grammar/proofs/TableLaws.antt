-- What the rules of Rules.antt accept has the plain forms.
use Rattle.std.proofs.Common.{◌≡◌, ◌⊎◌, inl, inr, Bool, true, false, List, [], ◌∷◌, Option, Some, None, refl, ap, subst, sym, ◌∙◌}
use Rattle.std.proofs.lemmas.Bool.{both_ways}
use Rattle.wac_parser_lexer.specs.declared.token.Token.{Token}
use Rattle.wac_parser_lexer.specs.declared.token.Token.TheVariants as k
use Rattle.wac_parser_lexer.specs.Items.{Input}
use Rattle.wac_parser_grammar.specs.Faults.{Fault}
use Rattle.wac_parser_grammar.specs.Ahead.{is_token, is_any, next_token, sees, sees_any}
use Rattle.wac_parser_grammar.specs.Rules.{Rule, has_token, sees_token, ◌>>=◌, ◌>>◌, pure, refuse, token, choose, begin, begin_any, optional, optional_of, comma, behind, IsListOf, list_of, IsWhile, while_of, IsAll, all_of}
use Rattle.wac_parser_grammar.proofs.Exact.{Begins, is_same}
use Rattle.wac_parser_grammar.specs.Forms.{Part, Word, Marked, Row, Further, Separated, Behind}

pub record Within {X : Type 0} (p : Rule X) (F : X → Part) : Type 0 where
  pub within : (s : Input) (x : X) (r : Input) → p.Is x s r → F x s r

-- ---- one value

pub pure_within : {X : Type 0} (c : X) (F : X → Part) → ((s : Input) → F c s s) → Within (pure c) F
pure_within c F f = record { within = λ s x r h. rw (h.0, h.1) (f s) }

pub refuse_within : {X : Type 0} (fault : Input → Fault) (F : X → Part) → Within (refuse fault) F
refuse_within fault F = record { within = λ s x r h. absurd h }

-- a value made of another
pub made : {A X : Type 0} (p : Rule A) (c : A → X) (F : X → Part) → Within p (λ a. F (c a)) → Within (p >>= (λ a. pure (c a))) F
made p c F w = record { within = λ s x r h. rw (h.3.0, h.3.1) (w.within s h.0 h.1 h.2) }

pub begin_within : {X : Type 0} (k : Token) (p q : Rule X) (F : X → Part) → Within p F → Within q F → Within (begin k p q) F
begin_within k p q F a b = record {
  within = λ s x r h. let P : Input → Type 0 = λ (m : Input). F x m r in
      subst P h.2.1 (elim h.3 [ inl w ↦ a.within h.1 x r w.1 | inr w ↦ b.within h.1 x r w.1 ]);
}

pub begin_any_within : {X : Type 0} (ks : List Token) (p q : Rule X) (F : X → Part) → Within p F → Within q F → Within (begin_any ks p q) F
begin_any_within ks p q F a b = record {
  within = λ s x r h. let P : Input → Type 0 = λ (m : Input). F x m r in
      subst P h.2.1 (elim h.3 [ inl w ↦ a.within h.1 x r w.1 | inr w ↦ b.within h.1 x r w.1 ]);
}

-- the token alone stands for a value
pub word_within : {X : Type 0} (k : Token) (c : X) (F : X → Part) → ((s r : Input) → Word k s r → F c s r) → Within (token k >> pure c) F
word_within k c F f = record { within = λ s x r h. rw (h.3.0, h.3.1) (f s h.1 (h.0, h.2)) }

-- ---- what may be left out

pub mark_within : (k : Token) → Within (begin k (token k >> pure true) (pure false)) (Marked k)
mark_within k = begin_within k _ _ (Marked k) (word_within k true (Marked k) (λ s r w. w)) (pure_within false (Marked k) (λ s. refl))

pub optional_within : (k : Token) → Within (optional k) (Marked k)
unfolding optional
optional_within k = record {
  within = λ s x r h. let P : Input → Type 0 = λ (m : Input). Marked k x m r in subst P h.2.1 ((mark_within k).within h.1 x r h.3);
}

pub marked : (k : Token) (b c : Bool) (s m : Input) → b ≡ c → Marked k b s m → Marked k c s m
marked k b c s m e h = let P : Bool → Type 0 = λ (d : Bool). Marked k d s m in subst P e h

pub choice_within : {X : Type 0} (k : Token) (p q : Rule X) (F : X → Part) → Within p (λ x. F x) → Within q F
    → ((x : X) (s m r : Input) → Word k s m → p.Is x m r → F x s r) → Within (optional k >>= (λ found. choose found p q)) F
choice_within k p q F a b f = record {
  within = λ s x r h. let mark = (optional_within k).within s h.0 h.1 h.2 in
      elim h.3 [
        | inl w ↦ f x s h.1 r (marked k h.0 true s h.1 w.0 mark) w.1
        | inr w ↦ (let P : Input → Type 0 = λ (m : Input). F x m r in subst P (marked k h.0 false s h.1 w.0 mark) (b.within h.1 x r w.1))
      ];
}

pub behind_token_within : {X : Type 0} (k : Token) (p : Rule X) (F : X → Part) → Within p F → Within (optional_of k p) (Behind k F)
behind_token_within k p F w = record {
  within = λ s x r h. let mark = (optional_within k).within s h.0 h.1 h.2 in
      elim h.3 [
        | inl v ↦ rw (v.1.3.0, v.1.3.1) (h.1, marked k h.0 true s h.1 v.0 mark, w.within h.1 v.1.0 v.1.1 v.1.2)
        | inr v ↦ rw (v.1.0, v.1.1) (marked k h.0 false s h.1 v.0 mark)
      ];
}

pub moved : (F : Part) (a b r : Input) → a ≡ b → F a r → F b r
moved F a b r e h = let P : Input → Type 0 = λ (m : Input). F m r in subst P e h

pub landed : (F : Part) (s a b : Input) → a ≡ b → F s a → F s b
landed F s a b e h = let P : Input → Type 0 = λ (m : Input). F s m in subst P e h

-- ---- lists

some_token : (ks : List Token) (o : Option Token) → is_any ks o ≡ true → has_token o ≡ true
some_token [] o e = cc
some_token (k ∷ ks) None e = some_token ks None e
some_token (k ∷ ks) (Some t) e = refl

begun_token : (ks : List Token) (s : Input) → sees_any ks s ≡ true → sees_token s ≡ true
unfolding sees_any sees_token
begun_token ks s e = some_token ks (next_token s) e

-- what stands behind a value of a list with commas: nothing before the end, a comma, or nothing before no token
Passed : Token → Part
Passed until m n = ((sees until m ≡ true) × (n ≡ m)) ⊎ (Word k.Comma m n ⊎ ((sees_token m ≡ false) × (n ≡ m)))

comma_passed : (a n : Input) → comma.Is tt a n → Word k.Comma a n ⊎ ((sees_token a ≡ false) × (n ≡ a))
comma_passed a n h = elim h.3 [
  | inl w ↦ inl (moved (Word k.Comma) h.1 a n h.2.1 (rw w.1.3.1 (w.1.0, w.1.2)))
  | inr w ↦ inr (sym h.2.0 ∙ w.0, w.1.1 ∙ h.2.1)
]

passed : (until : Token) (m n : Input) → (behind until true).Is tt m n → Passed until m n
unfolding behind Passed
passed until m n h = elim h.3 [
  | inl w ↦ inl (sym h.2.0 ∙ w.0, w.1.1 ∙ h.2.1)
  | inr w ↦ elim w.1 [
    | inl v ↦ elim (comma_passed h.1 n v.1) [
      | inl c ↦ inr (inl (moved (Word k.Comma) h.1 m n h.2.1 c))
      | inr c ↦ inr (inr (ap sees_token (sym h.2.1) ∙ c.0, c.1 ∙ h.2.1))
    ]
    | inr v ↦ cc
  ]
]

stays : (until : Token) (m n : Input) → (behind until false).Is tt m n → n ≡ m
unfolding behind
stays until m n h = elim h.3 [
  | inl w ↦ w.1.1 ∙ h.2.1
  | inr w ↦ elim w.1 [ inl v ↦ cc | inr v ↦ v.1.1 ∙ h.2.1 ]
]

module _ {X : Type 0} (p : Rule X) (F : X → Part) (w : Within p F) (first : List Token) (until : Token) (begins : Begins first p) where
  further : (xs : List X) (m n r : Input) → (behind until true).Is tt m n → IsListOf p.Is until true xs n r → Further F xs m r
  unfolding Passed
  further [] m n r b h = elim (passed until m n b) [
    | inl a ↦ inr (h.1 ∙ a.1)
    | inr a ↦ elim a [ inl c ↦ inl (landed (Word k.Comma) m n r (sym h.1) c) | inr c ↦ inr (h.1 ∙ c.1) ]
  ]
  further (x ∷ xs) m n r b h = elim (passed until m n b) [
    | inl a ↦ absurd (both_ways (sees until n) h.0 (ap (sees until) a.1 ∙ a.0))
    | inr a ↦ elim a [
      | inl c ↦ (n, c, (h.1, w.within n x h.1 h.2, further xs h.1 h.3 r h.4 h.5))
      | inr c ↦ absurd (both_ways (sees_token n) (ap sees_token c.1 ∙ c.0) (begun_token first n (begins.begins n x h.1 h.2)))
    ]
  ]

  separated : (xs : List X) (s r : Input) → IsListOf p.Is until true xs s r → Separated F xs s r
  separated [] s r h = h.1
  separated (x ∷ xs) s r h = (h.1, w.within s x h.1 h.2, further xs h.1 h.3 r h.4 h.5)

  pub list_within : Within (list_of p first until true) (Separated F)
  list_within = record { within = λ s xs r h. separated xs s r h }

module _ {X : Type 0} (p : Rule X) (F : X → Part) (w : Within p F) where
  in_row : (until : Token) (xs : List X) (s r : Input) → IsListOf p.Is until false xs s r → Row F xs s r
  in_row until [] s r h = h.1
  in_row until (x ∷ xs) s r h = (h.1, w.within s x h.1 h.2, moved (Row F xs) h.3 h.1 r (stays until h.1 h.3 h.4) (in_row until xs h.3 r h.5))

  pub row_within : (first : List Token) (until : Token) → Within (list_of p first until false) (Row F)
  row_within first until = record { within = λ s xs r h. in_row until xs s r h }

  while_row : (first : List Token) (xs : List X) (s r : Input) → IsWhile p.Is first xs s r → Row F xs s r
  while_row first [] s r h = h.1
  while_row first (x ∷ xs) s r h = (h.1, w.within s x h.1 h.2, while_row first xs h.1 r h.3)

  pub while_within : (first : List Token) → Within (while_of p first) (Row F)
  while_within first = record { within = λ s xs r h. while_row first xs s r h }

  all_row : (xs : List X) (s r : Input) → IsAll p.Is xs s r → Row F xs s r
  all_row [] s r h = h.1
  all_row (x ∷ xs) s r h = (h.0, w.within s x h.0 h.1, all_row xs h.0 r h.2)

  pub all_within : Within (all_of p) (Row F)
  all_within = record { within = λ s xs r h. all_row xs s r h }

-- ---- tokens

apart_by : (k : Token) (ks : List Token) (o : Option Token) → is_any ks (Some k) ≡ false → is_token k o ≡ true → is_any ks o ≡ true → ⊥
apart_by k ks None e f g = cc
apart_by k ks (Some t) e f g = both_ways (is_any ks (Some t)) (ap (λ (u : Token). is_any ks (Some u)) (is_same t k f) ∙ e) g

-- a token that is none of some doesn't come where one of these does
pub apart : (k : Token) (ks : List Token) (s : Input) → is_any ks (Some k) ≡ false → sees k s ≡ true → sees_any ks s ≡ true → ⊥
unfolding sees sees_any
apart k ks s e f g = apart_by k ks (next_token s) e f g
