-- What a rule reads of a source meets a fact.
use Rattle.std.proofs.Common.{ℕ, inl, inr, Bool, List, [], ◌∷◌, Some, None, subst, sym}
use Rattle.std.specs.Prelude.{IfSome}
use Rattle.std.specs.List.{All}
use Rattle.std.proofs.lemmas.List.Elements.{All-cons, All-nil}
use Rattle.wac_parser_lexer.specs.declared.token.Token.{Token}
use Rattle.wac_parser_lexer.specs.declared.token.Token.TheVariants as k
use Rattle.wac_parser_lexer.specs.Items.{Input}
use Rattle.wac_parser_grammar.specs.Faults.{Fault}
use Rattle.wac_parser_grammar.specs.Ahead.{sees, sees_any}
use Rattle.wac_parser_grammar.specs.Rules.{Rule, ◌>>=◌, pure, refuse, token, look, choose, begin, begin_any, optional_of, IsListOf, list_of, IsAll, all_of}
use Rattle.wac_parser_grammar.specs.Declarations.{body}
use Rattle.wac_parser_grammar.proofs.Exact.{Exact, look_exact, token_exact, optional_exact, behind_exact}
use Rattle.wac_parser_grammar.proofs.Faithful.{Faithful, Any, look_faithful, token_faithful, optional_faithful, behind_faithful}
use Rattle.wac_parser_grammar.proofs.PathLaws.{IsPlaceIn, place_behind}

-- From a place in the source the rule goes on to one, and what it reads meets the fact.
pub record Brings (source : List ℕ) {X : Type 0} (P : X → Type 0) (p : Rule X) : Type 0 where
  pub goes : (s : Input) (x : X) (r : Input) → IsPlaceIn source s → p.Is x s r → IsPlaceIn source r
  pub brings : (s : Input) (x : X) (r : Input) → IsPlaceIn source s → p.Is x s r → P x

-- no fact
abbrev pub Free : {X : Type 0} → X → Type 0
Free x = Unit {0}

module _ (source : List ℕ) where
  pub plain : {X : Type 0} {p : Rule X} → Exact p → Faithful Any p → Brings source Free p
  plain exact faithful = record {
    goes = λ s x r c h. place_behind source r s (faithful.goes s x r tt (exact.complete s x r h)) c;
    brings = λ s x r c h. tt;
  }

  pub bind_brings : {A B : Type 0} {P : A → Type 0} {Q : B → Type 0} (p : Rule A) (f : A → Rule B)
      → Brings source P p → ((a : A) → P a → Brings source Q (f a)) → Brings source Q (p >>= f)
  bind_brings p f ep ef = record {
    goes = λ s y r c h. (ef h.0 (ep.brings s h.0 h.1 c h.2)).goes h.1 y r (ep.goes s h.0 h.1 c h.2) h.3;
    brings = λ s y r c h. (ef h.0 (ep.brings s h.0 h.1 c h.2)).brings h.1 y r (ep.goes s h.0 h.1 c h.2) h.3;
  }

  pub pure_brings : {X : Type 0} {P : X → Type 0} (x : X) → P x → Brings source P (pure x)
  pure_brings {P = P} x is = record {
    goes = λ s y r c h. (let C : Input → Type 0 = IsPlaceIn source in subst C (sym h.1) c);
    brings = λ s y r c h. subst P (sym h.0) is;
  }

  pub refuse_brings : {X : Type 0} {P : X → Type 0} (fault : Input → Fault) → Brings source P (refuse fault)
  refuse_brings fault = record { goes = λ s y r c h. absurd h; brings = λ s y r c h. absurd h }

  pub choose_brings : {X : Type 0} {P : X → Type 0} (b : Bool) (p q : Rule X) → Brings source P p → Brings source P q → Brings source P (choose b p q)
  choose_brings b p q ep eq = record {
    goes = λ s x r c h. elim h [ inl w ↦ ep.goes s x r c w.1 | inr w ↦ eq.goes s x r c w.1 ];
    brings = λ s x r c h. elim h [ inl w ↦ ep.brings s x r c w.1 | inr w ↦ eq.brings s x r c w.1 ];
  }

  pub begin_brings : {X : Type 0} {P : X → Type 0} (k : Token) (p q : Rule X) → Brings source P p → Brings source P q → Brings source P (begin k p q)
  begin_brings k p q ep eq = bind_brings (look (sees k)) (λ found. choose found p q) (plain (look_exact (sees k)) (look_faithful (sees k))) (λ found _. choose_brings found p q ep eq)

  pub begin_any_brings : {X : Type 0} {P : X → Type 0} (ks : List Token) (p q : Rule X) → Brings source P p → Brings source P q → Brings source P (begin_any ks p q)
  begin_any_brings ks p q ep eq = bind_brings (look (sees_any ks)) (λ found. choose found p q) (plain (look_exact (sees_any ks)) (look_faithful (sees_any ks))) (λ found _. choose_brings found p q ep eq)

  pub token_brings : (k : Token) → Brings source Free (token k)
  token_brings k = plain (token_exact k) (token_faithful k)

  pub optional_of_brings : {X : Type 0} {P : X → Type 0} (k : Token) (p : Rule X) → Brings source P p → Brings source (λ o. IfSome o P) (optional_of k p)
  optional_of_brings k p ep =
      bind_brings _ _ (plain (optional_exact k) (optional_faithful k))
      (λ found _. choose_brings found _ _ (bind_brings _ _ ep (λ x is. pure_brings (Some x) is)) (pure_brings None tt))

  -- ---- lists

  module _ {X : Type 0} (P : X → Type 0) (p : Rule X) (ep : Brings source P p) where
    module _ (until : Token) (commas : Bool) where
      list_goes : (xs : List X) (s r : Input) → IsPlaceIn source s → IsListOf p.Is until commas xs s r → IsPlaceIn source r
      list_goes [] s r c h = let C : Input → Type 0 = IsPlaceIn source in subst C (sym h.1) c
      list_goes (x ∷ xs) s r c h =
          let rest = plain (behind_exact until commas) (behind_faithful until commas) in
          list_goes xs h.3 r (rest.goes h.1 tt h.3 (ep.goes s x h.1 c h.2) h.4) h.5

      list_brought : (xs : List X) (s r : Input) → IsPlaceIn source s → IsListOf p.Is until commas xs s r → All P xs
      list_brought [] s r c h = All-nil P
      list_brought (x ∷ xs) s r c h =
          let rest = plain (behind_exact until commas) (behind_faithful until commas) in
          All-cons P x xs (ep.brings s x h.1 c h.2) (list_brought xs h.3 r (rest.goes h.1 tt h.3 (ep.goes s x h.1 c h.2) h.4) h.5)

    pub list_brings : (first : List Token) (until : Token) (commas : Bool) → Brings source (All P) (list_of p first until commas)
    list_brings first until commas = record { goes = λ s xs r c h. list_goes until commas xs s r c h; brings = λ s xs r c h. list_brought until commas xs s r c h }

    pub body_brings : (first : List Token) (commas : Bool) → Brings source (All P) (body p first commas)
    body_brings first commas =
        bind_brings _ _ (token_brings k.OpenBrace) (λ _ _. bind_brings _ _ (list_brings first k.CloseBrace commas) (λ xs all. bind_brings _ _ (token_brings k.CloseBrace) (λ _ _. pure_brings xs all)))

    all_goes : (xs : List X) (s r : Input) → IsPlaceIn source s → IsAll p.Is xs s r → IsPlaceIn source r
    all_goes [] s r c h = let C : Input → Type 0 = IsPlaceIn source in subst C (sym h.1) c
    all_goes (x ∷ xs) s r c h = all_goes xs h.0 r (ep.goes s x h.0 c h.1) h.2

    all_brought : (xs : List X) (s r : Input) → IsPlaceIn source s → IsAll p.Is xs s r → All P xs
    all_brought [] s r c h = All-nil P
    all_brought (x ∷ xs) s r c h = All-cons P x xs (ep.brings s x h.0 c h.1) (all_brought xs h.0 r (ep.goes s x h.0 c h.1) h.2)

    pub all_brings : Brings source (All P) (all_of p)
    all_brings = record { goes = λ s xs r c h. all_goes xs s r c h; brings = λ s xs r c h. all_brought xs s r c h }
