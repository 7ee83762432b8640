-- Choices by the next token, and parts in braces, for what has a plain form.
use Rattle.std.proofs.Common.{◌≡◌, inl, inr, Bool, true, false, List, [], ◌∷◌, Option, Some, None, refl, subst, cond}
use Rattle.std.proofs.lemmas.Bool.{false_from_ne_true}
use Rattle.wac_parser_lexer.specs.declared.token.Token.{Token}
use Rattle.wac_parser_lexer.specs.declared.token.Token.TheVariants as k
use Rattle.wac_parser_lexer.specs.Items.{Input}
use Rattle.wac_parser_tree.specs.Trees as t
use Rattle.wac_parser_grammar.specs.Ahead.{same_token, is_token, is_any, next_token, sees, sees_any}
use Rattle.wac_parser_grammar.specs.Rules.{Rule, optional_of}
use Rattle.wac_parser_grammar.specs.ValueTypes as v
use Rattle.wac_parser_grammar.specs.Declarations as d
use Rattle.wac_parser_grammar.specs.Forms.{Part, At, Row, Separated, Braces, Behind}
use Rattle.wac_parser_grammar.specs.FormDepths.{Ends, Always, AllFit, FuncEnds}
use Rattle.wac_parser_grammar.proofs.Exact.{Begins}
use Rattle.wac_parser_grammar.proofs.TableLaws.{apart}
use Rattle.wac_parser_grammar.proofs.TableBack.{sees_at, any_at, ends_at, optional_here, optional_past}
use Rattle.wac_parser_grammar.proofs.TableBackFuncs.{list_taken}
use Rattle.wac_parser_grammar.proofs.TableBackResources.{row_taken}

-- ---- choices

one : (b : Bool) → cond b true false ≡ true → b ≡ true
one true h = refl
one false h = cc

-- where one of a single token comes next, it does
pub only : (k : Token) (s : Input) → sees_any (k ∷ []) s ≡ true → sees k s ≡ true
unfolding sees sees_any
only k s h = one (is_token k (next_token s)) h

-- where one of some tokens comes next, none other does
pub other : (k : Token) (ks : List Token) (s : Input) → is_any ks (Some k) ≡ false → sees_any ks s ≡ true → sees k s ≡ false
other k ks s h begun = false_from_ne_true (sees k s) (λ f. apart k ks s h f begun)

neither : (b c : Bool) → b ≡ false → c ≡ false → cond b true (cond c true false) ≡ false
neither false false g h = refl
neither false true g h = cc
neither true c g h = cc

pub no_two : (k l : Token) (s : Input) → sees k s ≡ false → sees l s ≡ false → sees_any (k ∷ l ∷ []) s ≡ false
unfolding sees sees_any
no_two k l s g h = neither (is_token k (next_token s)) (is_token l (next_token s)) g h

-- ---- what follows

pub func_ends : (span : t.Span) (s m : Input) → At k.Semicolon span s m → FuncEnds s
unfolding same_token
func_ends span s m at = (ends_at k.Semicolon k.OpenAngle span s m refl at, sees_at k.Semicolon k.Arrow span s m at, any_at k.Semicolon v.type_first span s m at)

pub behind_back : {X : Type 0} (k : Token) (p : Rule X) (F : X → Part) → ((s : Input) (x : X) (r : Input) → F x s r → p.Is x s r)
    → (s : Input) (o : Option X) (r : Input) → Behind k F o s r → Ends k r → (optional_of k p).Is o s r
behind_back k p F back s None r h stop = let P : Input → Type 0 = λ (i : Input). Ends k i in (false, s, optional_past k s (subst P h stop), inr (refl, (refl, h)))
behind_back k p F back s (Some x) r h stop = (true, h.0, optional_here k h.1.0 s h.0 h.1.1, inl (refl, (x, r, back h.0 x r h.2, (refl, refl))))

-- ---- braces

pub all_always : {X : Type 0} (xs : List X) → AllFit Always xs
all_always [] = tt
all_always (x ∷ xs) = (tt, all_always xs)

module _ {X : Type 0} (p : Rule X) (F : X → Part) (Fits : X → Type 0) (Stops : Input → Type 0) (first : List Token)
    (back : (s : Input) (x : X) (r : Input) → Fits x → F x s r → Stops r → p.Is x s r) (begins : Begins first p)
    (at_comma : (span : t.Span) (s m : Input) → At k.Comma span s m → Stops s) (at_end : (span : t.Span) (s m : Input) → At k.CloseBrace span s m → Stops s)
    (apart_end : is_any first (Some k.CloseBrace) ≡ false) where
  pub list_body_back : (s : Input) (xs : List X) (r : Input) → AllFit Fits xs → Braces (Separated F xs) s r → (d.body p first true).Is xs s r
  unfolding same_token
  list_body_back s xs r fits h =
      let all = list_taken p F Fits Stops first k.CloseBrace back begins at_comma at_end apart_end refl xs h.0 h.2.0 r h.2.2.0 fits h.2.1 h.2.2.1 in
      (h.1.0, h.0, h.1.1, (xs, h.2.0, all, (h.2.2.0, r, h.2.2.1, (refl, refl))))

module _ {X : Type 0} (p : Rule X) (F : X → Part) (Fits : X → Type 0) (first : List Token)
    (back : (s : Input) (x : X) (r : Input) → Fits x → F x s r → p.Is x s r) (begins : Begins first p) (apart_end : is_any first (Some k.CloseBrace) ≡ false) where
  pub row_body_back : (s : Input) (xs : List X) (r : Input) → AllFit Fits xs → Braces (Row F xs) s r → (d.body p first false).Is xs s r
  row_body_back s xs r fits h =
      let all = row_taken p F Fits first k.CloseBrace back begins apart_end xs h.0 h.2.0 r h.2.2.0 fits h.2.1 h.2.2.1 in
      (h.1.0, h.0, h.1.1, (xs, h.2.0, all, (h.2.2.0, r, h.2.2.1, (refl, refl))))
