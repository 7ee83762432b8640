-- What a rule refuses as nested too deep stands at one level.
use Rattle.std.proofs.Common.{◌≡◌, ◌≢◌, ℕ, zero, suc, ◌+◌, inl, inr, Bool, true, false, List, [], ◌∷◌, Option, Some, None, Result, Ok, Err, ap, subst, sym, ◌∙◌, arith, cond}
use Rattle.semver.specs.Parse.{version_parts}
use Rattle.semver.specs.declared.error.Error as version_error
use Rattle.wac_parser_lexer.specs.declared.span.SourceSpan.{SourceSpan}
use Rattle.wac_parser_lexer.specs.declared.token.Token.{Token}
use Rattle.wac_parser_lexer.specs.declared.token.Token.TheVariants as k
use Rattle.wac_parser_lexer.specs.declared.error.Error.{Error}
use Rattle.wac_parser_lexer.specs.Items.{Doc, Input, Item, first_item, rest_input, rest_of_items, shown_span}
use Rattle.wac_parser_tree.specs.Trees as t
use Rattle.wac_parser_grammar.specs.Faults.{Fault, expected, nested_too_deep}
use Rattle.wac_parser_grammar.specs.Ahead.{is_any, sees, sees_any, none_found, refused_at, none_of, missed}
use Rattle.wac_parser_grammar.specs.Rules.{Rule, fault_of_item, fault_ahead, sees_token, span_of_items, and_then, ◌>>=◌, pure, refuse, token, look, choose, begin, begin_any, unfaulty, optional, behind, front, read_list, list_of, read_while, while_of, left}
use Rattle.wac_parser_grammar.specs.Places.{IsBehind, here}
use Rattle.wac_parser_grammar.specs.Nesting.{Nest, among}
use Rattle.wac_parser_grammar.specs.Tracks.{track_in}
use Rattle.wac_parser_grammar.specs.Names.{ident, string, behind_first, version_read, version_by, version_of, version_beside, package_name, new_package}
use Rattle.wac_parser_grammar.specs.ValueTypes.{too_deep}
use Rattle.wac_parser_grammar.proofs.Exact.{inside, both, token_exact, unfaulty_exact}
use Rattle.wac_parser_grammar.proofs.Faithful.{behind_trans, err_inside, one_of, begun_here, token_fails, deep_fails, unfaulty_fails}
use Rattle.wac_parser_grammar.proofs.FaithfulLists.{ok_not_err, err_not_ok, front_ok, front_err}
use Rattle.wac_parser_grammar.proofs.EarlierFaults.{token_left}
use Rattle.wac_parser_lexer.proofs.FrontLaws.{either}

-- where the first place is at the one level, the second is at the other
abbrev pub Moves : Nest → ℕ → Input → ℕ → Input → Type 0
Moves nest l s m r = m + (among nest.opening r.items + among nest.closing s.items) ≡ l + (among nest.opening s.items + among nest.closing r.items)

pub moves_on : (nest : Nest) (l : ℕ) (s : Input) (m : ℕ) (r : Input) (n : ℕ) (q : Input) → Moves nest l s m r → Moves nest m r n q → Moves nest l s n q
moves_on nest l s m r n q h j = omega (arith, h, j)

-- something begins at the level, behind the place
pub record Sunk (nest : Nest) (n l : ℕ) (s : Input) (span : SourceSpan) : Type 0 where
  pub place : Input
  pub behind : IsBehind place s
  pub token : Token
  pub there : first_item place ≡ Some (Ok token, span)
  pub begins : is_any nest.first (Some token) ≡ true
  pub moves : Moves nest l s n place

-- The rule goes from the one level to the other, and what it refuses as too deep is at the level n.
pub record Sinks (nest : Nest) (n : ℕ) {X : Type 0} (l : ℕ) (m : X → ℕ) (p : Rule X) : Type 0 where
  pub goes : (s : Input) (x : X) (r : Input) → p.read s ≡ Ok (x, r) → IsBehind r s × Moves nest l s (m x) r
  pub deep : (s : Input) (span : SourceSpan) → p.read s ≡ Err (nested_too_deep span) → Sunk nest n l s span

pub sunk_behind : (nest : Nest) (n l : ℕ) (s : Input) (m : ℕ) (r : Input) (span : SourceSpan) → IsBehind r s → Moves nest l s m r → Sunk nest n m r span → Sunk nest n l s span
sunk_behind nest n l s m r span b v k = record {
  place = k.place;
  behind = behind_trans k.place r s k.behind b;
  token = k.token;
  there = k.there;
  begins = k.begins;
  moves = moves_on nest l s m r n k.place v k.moves;
}

stays : (nest : Nest) (l : ℕ) (s r : Input) → s ≡ r → IsBehind r s × Moves nest l s l r
stays nest l s r e = let P : Input → Type 0 = λ (i : Input). IsBehind i s × Moves nest l s l i in subst P e (here, omega arith)

-- ---- faults of other kinds

never_found : (ks : List Token) (found : Option Token) (at span : SourceSpan) → none_found ks found at ≢ nested_too_deep span
never_found [] found at span h = cc
never_found (k ∷ []) found at span h = cc
never_found (k ∷ l ∷ []) found at span h = cc
never_found (k ∷ l ∷ m ∷ ks) found at span h = cc

never_refused : (o : Option (Result Token Error × SourceSpan)) (at : SourceSpan) (fault : Option Token → SourceSpan → Fault) → ((t : Option Token) (x span : SourceSpan) → fault t x ≢ nested_too_deep span) → (span : SourceSpan) → refused_at o at fault ≢ nested_too_deep span
never_refused None at fault never span h = never None at span h
never_refused (Some (Ok t, x)) at fault never span h = never (Some t) x span h
never_refused (Some (Err e, x)) at fault never span h = cc

pub none_never : (ks : List Token) (s : Input) (span : SourceSpan) → none_of ks s ≢ nested_too_deep span
unfolding none_of
none_never ks s span = never_refused (first_item s) (shown_span s) (none_found ks) (never_found ks) span

missed_never : (k : Token) (s : Input) (span : SourceSpan) → missed k s ≢ nested_too_deep span
unfolding missed
missed_never k s span = never_refused (first_item s) (shown_span (rest_input s)) (expected k) (λ t x y h. cc) span

-- ---- tokens

abbrev pub step : List Token → Token → ℕ
step ks k = cond (is_any ks (Some k)) 1 0

one_more : (ks : List Token) (k : Token) (docs : List Doc) (span : SourceSpan) (is : List Item) → among ks (record { docs = docs; token = Ok k; span = span } ∷ is) ≡ step ks k + among ks is
one_more ks k docs span is = by (is_any ks (Some k))
  where
    by : (b : Bool) → cond b (suc (among ks is)) (among ks is) ≡ cond b 1 0 + among ks is
    by true = omega arith
    by false = omega arith

token_goes : (nest : Nest) (k : Token) (l m : ℕ) → m + step nest.closing k ≡ l + step nest.opening k → (s : Input) (x : SourceSpan) (r : Input) → (token k).Is x s r → Moves nest l s m r
token_goes nest k l m e s x r h =
    let opens : among nest.opening s.items ≡ step nest.opening k + among nest.opening h.1 = ap (among nest.opening) h.2 ∙ one_more nest.opening k h.0 x h.1 in
    let closes : among nest.closing s.items ≡ step nest.closing k + among nest.closing h.1 = ap (among nest.closing) h.2 ∙ one_more nest.closing k h.0 x h.1 in
    let rest : r.items ≡ h.1 = ap (λ (i : Input). i.items) h.3 ∙ ap rest_of_items h.2 in
    omega (arith, e, opens, closes, ap (among nest.opening) rest, ap (among nest.closing) rest)

-- ---- rules

module _ {nest : Nest} {n : ℕ} where
  pub bind_sinks : {A B : Type 0} {l : ℕ} {m : A → ℕ} {o : B → ℕ} (p : Rule A) (f : A → Rule B) → Sinks nest n l m p → ((a : A) → Sinks nest n (m a) o (f a)) → Sinks nest n l o (p >>= f)
  bind_sinks {l = l} {m = m} {o = o} p f ep ef = record {
    goes = λ s y r h.
        (let b = both (p.read s) (λ a q. (f a).read q) (y, r) h in
        let first = ep.goes s b.0 b.1 b.2 in
        let then = (ef b.0).goes b.1 y r b.3 in
        (behind_trans r b.1 s then.0 first.0, moves_on nest l s (m b.0) b.1 (o y) r first.1 then.1));
    deep = λ s span h. elim (one_of (p.read s) (λ a q. (f a).read q) (nested_too_deep span) h) [
      | inl w ↦ ep.deep s span w
      | inr w ↦ (let first = ep.goes s w.0 w.1 w.2 in sunk_behind nest n l s (m w.0) w.1 span first.0 first.1 ((ef w.0).deep w.1 span w.3))
    ];
  }

  pub pure_sinks : {X : Type 0} {l : ℕ} (x : X) → Sinks nest n l (λ _. l) (pure x)
  pure_sinks {l = l} x = record { goes = λ s y r h. stays nest l s r (ap (λ p. p.1) (inside h)); deep = λ s span h. cc }

  pub look_sinks : {X : Type 0} {l : ℕ} (f : Input → X) → Sinks nest n l (λ _. l) (look f)
  look_sinks {l = l} f = record { goes = λ s y r h. stays nest l s r (ap (λ p. p.1) (inside h)); deep = λ s span h. cc }

  pub refuse_sinks : {X : Type 0} {l : ℕ} {m : X → ℕ} (fault : Input → Fault) → ((s : Input) (span : SourceSpan) → fault s ≢ nested_too_deep span) → Sinks nest n l m (refuse fault)
  refuse_sinks fault never = record { goes = λ s y r h. cc; deep = λ s span h. absurd (never s span (err_inside h)) }

  pub choose_sinks : {X : Type 0} {l : ℕ} {m : X → ℕ} (b : Bool) (p q : Rule X) → Sinks nest n l m p → Sinks nest n l m q → Sinks nest n l m (choose b p q)
  choose_sinks true p q ep eq = record { goes = λ s x r h. ep.goes s x r h; deep = λ s span h. ep.deep s span h }
  choose_sinks false p q ep eq = record { goes = λ s x r h. eq.goes s x r h; deep = λ s span h. eq.deep s span h }

  pub begin_sinks : {X : Type 0} {l : ℕ} {m : X → ℕ} (k : Token) (p q : Rule X) → Sinks nest n l m p → Sinks nest n l m q → Sinks nest n l m (begin k p q)
  begin_sinks k p q ep eq = bind_sinks (look (sees k)) (λ found. choose found p q) (look_sinks (sees k)) (λ found. choose_sinks found p q ep eq)

  pub begin_any_sinks : {X : Type 0} {l : ℕ} {m : X → ℕ} (ks : List Token) (p q : Rule X) → Sinks nest n l m p → Sinks nest n l m q → Sinks nest n l m (begin_any ks p q)
  begin_any_sinks ks p q ep eq = bind_sinks (look (sees_any ks)) (λ found. choose found p q) (look_sinks (sees_any ks)) (λ found. choose_sinks found p q ep eq)

  -- ---- tokens

  pub token_sinks : (k : Token) (l m : ℕ) → m + step nest.closing k ≡ l + step nest.opening k → Sinks nest n l (λ _. m) (token k)
  token_sinks k l m e = record {
    goes = λ s x r h. (let is = (token_exact k).sound s x r h in (token_left k s x r is, token_goes nest k l m e s x r is));
    deep = λ s span h. (let t = token_fails (sees k s) s (span_of_items s.items) (missed k s) (nested_too_deep span) h in absurd (missed_never k s span t.1));
  }

  unfaulty_sinks : {l : ℕ} → Sinks nest n l (λ _. l) unfaulty
  unfolding fault_ahead
  unfaulty_sinks {l = l} = record {
    goes = λ s x r h. stays nest l s r (sym (unfaulty_exact.sound s x r h).1);
    deep = λ s span h. absurd (lexer_only (first_item s) span (unfaulty_fails (fault_of_item (first_item s)) s (nested_too_deep span) h));
  }
    where
      lexer_only : (o : Option (Result Token Error × SourceSpan)) (span : SourceSpan) → fault_of_item o ≢ Some (nested_too_deep span)
      lexer_only None span h = cc
      lexer_only (Some (Ok t, x)) span h = cc
      lexer_only (Some (Err e, x)) span h = cc

  -- a token that may be there, and what is then, or else
  pub optional_sinks : {X : Type 0} {o : X → ℕ} (k : Token) (l m : ℕ) → m + step nest.closing k ≡ l + step nest.opening k → (p q : Rule X) → Sinks nest n m o p → Sinks nest n l o q → Sinks nest n l o (optional k >>= λ found. choose found p q)
  unfolding optional
  optional_sinks {o = o} k l m e p q ep eq = bind_sinks (optional k) (λ found. choose found p q) first by
    where
      took : Sinks nest n m (λ found. cond found m l) (pure true)
      took = record { goes = λ s y r h. (let P : Bool → Type 0 = λ b. IsBehind r s × Moves nest m s (cond b m l) r in subst P (ap (λ p. p.0) (inside h)) (stays nest m s r (ap (λ p. p.1) (inside h)))); deep = λ s span h. cc }

      left_it : Sinks nest n l (λ found. cond found m l) (pure false)
      left_it = record { goes = λ s y r h. (let P : Bool → Type 0 = λ b. IsBehind r s × Moves nest l s (cond b m l) r in subst P (ap (λ p. p.0) (inside h)) (stays nest l s r (ap (λ p. p.1) (inside h)))); deep = λ s span h. cc }

      first : Sinks nest n l (λ found. cond found m l) (optional k)
      first = bind_sinks _ _ unfaulty_sinks (λ _. begin_sinks k _ _ (bind_sinks _ _ (token_sinks k l m e) (λ _. took)) left_it)

      by : (found : Bool) → Sinks nest n (cond found m l) o (choose found p q)
      by true = record { goes = λ s x r h. ep.goes s x r h; deep = λ s span h. ep.deep s span h }
      by false = record { goes = λ s x r h. eq.goes s x r h; deep = λ s span h. eq.deep s span h }

  pub behind_sinks : {l : ℕ} (until : Token) (commas : Bool) → l + step nest.closing k.Comma ≡ l + step nest.opening k.Comma → Sinks nest n l (λ _. l) (behind until commas)
  unfolding behind
  behind_sinks {l = l} until commas e =
      begin_sinks until _ _ (pure_sinks tt) (choose_sinks commas _ _
      (bind_sinks _ _ (look_sinks sees_token) (λ some. choose_sinks some _ _ (bind_sinks _ _ (token_sinks k.Comma l l e) (λ _. pure_sinks tt)) (pure_sinks tt))) (pure_sinks tt))

  -- ---- names

  pub ident_sinks : {l : ℕ} → l + step nest.closing k.Ident ≡ l + step nest.opening k.Ident → Sinks nest n l (λ _. l) ident
  unfolding ident
  ident_sinks {l = l} e = bind_sinks _ _ (token_sinks k.Ident l l e) (λ v0. bind_sinks _ _ (look_sinks _) (λ v1. pure_sinks _))

  pub string_sinks : {l : ℕ} → l + step nest.closing k.String ≡ l + step nest.opening k.String → Sinks nest n l (λ _. l) string
  unfolding string
  string_sinks {l = l} e = bind_sinks _ _ (token_sinks k.String l l e) (λ v0. bind_sinks _ _ (look_sinks _) (λ v1. pure_sinks _))

  read_sinks : {l : ℕ} (o : Result t.Version version_error.Error) (text : List ℕ) (span : SourceSpan) → Sinks nest n l (λ _. l) (version_read o text span)
  read_sinks (Ok v) text span = pure_sinks _
  read_sinks (Err e) text span = refuse_sinks _ (λ s at h. cc)

  by_sinks : {l : ℕ} (o : Option (List ℕ)) (span : SourceSpan) → Sinks nest n l (λ _. l) (version_by o span)
  by_sinks None span = pure_sinks None
  by_sinks (Some text) span = read_sinks (version_parts text) text span

  pub package_name_sinks : {l : ℕ} → l + step nest.closing k.PackageName ≡ l + step nest.opening k.PackageName → Sinks nest n l (λ _. l) package_name
  unfolding package_name version_of
  package_name_sinks {l = l} e = bind_sinks _ _ (token_sinks k.PackageName l l e) (λ v0. bind_sinks _ _ (look_sinks _) (λ v1. bind_sinks _ _ (by_sinks (behind_first 64 v1) v0) (λ v2. pure_sinks _)))

  beside_sinks : {l : ℕ} (track text : Option (List ℕ)) (span : SourceSpan) → Sinks nest n l (λ _. l) (version_beside track text span)
  beside_sinks None text span = by_sinks text span
  beside_sinks (Some track) text span = pure_sinks None

  pub new_package_sinks : {l : ℕ} → l + step nest.closing k.PackageName ≡ l + step nest.opening k.PackageName → Sinks nest n l (λ _. l) new_package
  unfolding new_package
  new_package_sinks {l = l} e = bind_sinks _ _ (token_sinks k.PackageName l l e) (λ v0. bind_sinks _ _ (look_sinks _) (λ v1. bind_sinks _ _ (beside_sinks (track_in (behind_first 64 v1)) (behind_first 64 v1) v0) (λ v2. pure_sinks _)))

  -- ---- where the depth is spent

  pub too_deep_sinks : {X : Type 0} {m : X → ℕ} → Sinks nest n n m (too_deep nest.first)
  too_deep_sinks {X = X} {m = m} = record {
    goes = λ s x r h. none_goes (sees_any nest.first s) (nested_too_deep (span_of_items s.items)) (none_of nest.first s) s x r h;
    deep = λ s span h. elim (deep_fails {X = X} (sees_any nest.first s) (nested_too_deep (span_of_items s.items)) (none_of nest.first s) (nested_too_deep span) h) [
      | inl w ↦ (let b = begun_here nest.first s w.0 in let same : span_of_items s.items ≡ span = cc in record {
        place = s;
        behind = here;
        token = b.0;
        there = b.1 ∙ ap (λ (x : SourceSpan). Some (Ok b.0, x)) same;
        begins = b.2;
        moves = omega arith;
      })
      | inr w ↦ absurd (none_never nest.first s span w.1)
    ];
  }
    where
      none_goes : (b : Bool) (x y : Fault) (s : Input) (v : X) (r : Input) → cond {A = Result (X × Input) Fault} b (Err x) (Err y) ≡ Ok (v, r) → IsBehind r s × Moves nest n s (m v) r
      none_goes true x y s v r h = cc
      none_goes false x y s v r h = cc

  -- ---- lists

  module _ {X : Type 0} {l : ℕ} (p : Rule X) (ep : Sinks nest n l (λ _. l) p) (first : List Token) where
    module _ (until : Token) (commas : Bool) (rest : Sinks nest n l (λ _. l) (behind until commas)) where
      abbrev reads : ℕ → Input → Result (List X × Input) Fault
      reads = read_list p.read first until commas

      abbrev last_part : ℕ → X → Unit {0} → Input → Result (List X × Input) Fault
      last_part i x u after = front x (reads i after)

      abbrev next_part : ℕ → X → Input → Result (List X × Input) Fault
      next_part i x m = and_then ((behind until commas).read m) (last_part i x)

      list_goes : (i : ℕ) (s : Input) (q : List X × Input) → reads i s ≡ Ok q → IsBehind q.1 s × Moves nest l s l q.1
      unfolding read_list
      list_goes zero s q e = elim (either {A = Result (List X × Input) Fault} (sees until s) (Ok ([], s)) (Err (none_of (until ∷ first) s)) (Ok q) e) [
        | inl w ↦ stays nest l s q.1 (ap (λ v. v.1) (inside w.1))
        | inr w ↦ absurd (err_not_ok _ _ w.1)
      ]
      list_goes (suc i) s q e =
          elim (either {A = Result (List X × Input) Fault} (sees until s) (Ok ([], s)) (cond (sees_any first s) (and_then (p.read s) (next_part i)) (Err (none_of (until ∷ first) s))) (Ok q) e) [
            | inl w ↦ stays nest l s q.1 (ap (λ v. v.1) (inside w.1))
            | inr w ↦ elim (either {A = Result (List X × Input) Fault} (sees_any first s) (and_then (p.read s) (next_part i)) (Err (none_of (until ∷ first) s)) (Ok q) w.1) [
              | inl v ↦
                  (let a = both (p.read s) (next_part i) q v.1 in
                  let b = both ((behind until commas).read a.1) (last_part i a.0) q a.3 in
                  let c = front_ok a.0 (reads i b.1) q b.3 in
                  let one = ep.goes s a.0 a.1 a.2 in
                  let two = rest.goes a.1 tt b.1 b.2 in
                  let three = list_goes i b.1 c.0 c.1 in
                  let P : Input → Type 0 = λ (r : Input). IsBehind r s × Moves nest l s l r in
                  subst P c.2 (behind_trans c.0.1 b.1 s three.0 (behind_trans b.1 a.1 s two.0 one.0), moves_on nest l s l b.1 l c.0.1 (moves_on nest l s l a.1 l b.1 one.1 two.1) three.1))
              | inr v ↦ absurd (err_not_ok _ _ v.1)
            ]
          ]

      list_deep : (i : ℕ) (s : Input) (span : SourceSpan) → reads i s ≡ Err (nested_too_deep span) → Sunk nest n l s span
      unfolding read_list
      list_deep zero s span e = elim (either {A = Result (List X × Input) Fault} (sees until s) (Ok ([], s)) (Err (none_of (until ∷ first) s)) (Err (nested_too_deep span)) e) [
        | inl w ↦ absurd (ok_not_err _ _ w.1)
        | inr w ↦ absurd (none_never (until ∷ first) s span (err_inside w.1))
      ]
      list_deep (suc i) s span e =
          elim (either {A = Result (List X × Input) Fault} (sees until s) (Ok ([], s)) (cond (sees_any first s) (and_then (p.read s) (next_part i)) (Err (none_of (until ∷ first) s))) (Err (nested_too_deep span)) e) [
            | inl w ↦ absurd (ok_not_err _ _ w.1)
            | inr w ↦ elim (either {A = Result (List X × Input) Fault} (sees_any first s) (and_then (p.read s) (next_part i)) (Err (none_of (until ∷ first) s)) (Err (nested_too_deep span)) w.1) [
              | inl v ↦ elim (one_of (p.read s) (next_part i) (nested_too_deep span) v.1) [
                | inl u ↦ ep.deep s span u
                | inr u ↦
                    (let one = ep.goes s u.0 u.1 u.2 in
                    sunk_behind nest n l s l u.1 span one.0 one.1 (elim (one_of ((behind until commas).read u.1) (last_part i u.0) (nested_too_deep span) u.3) [
                      | inl y ↦ rest.deep u.1 span y
                      | inr y ↦
                          (let two = rest.goes u.1 tt y.1 y.2 in
                          sunk_behind nest n l u.1 l y.1 span two.0 two.1 (list_deep i y.1 span (front_err u.0 (reads i y.1) (nested_too_deep span) y.3)))
                    ]))
              ]
              | inr v ↦ absurd (none_never (until ∷ first) s span (err_inside v.1))
            ]
          ]

      pub list_sinks : Sinks nest n l (λ _. l) (list_of p first until commas)
      list_sinks = record { goes = λ s xs r h. list_goes (left s) s (xs, r) h; deep = λ s span h. list_deep (left s) s span h }

    abbrev while_part : ℕ → X → Input → Result (List X × Input) Fault
    while_part i x m = front x (read_while p.read first i m)

    while_goes : (i : ℕ) (s : Input) (q : List X × Input) → read_while p.read first i s ≡ Ok q → IsBehind q.1 s × Moves nest l s l q.1
    unfolding read_while
    while_goes zero s q e = stays nest l s q.1 (ap (λ v. v.1) (inside e))
    while_goes (suc i) s q e =
        elim (either {A = Result (List X × Input) Fault} (sees_any first s) (and_then (p.read s) (while_part i)) (Ok ([], s)) (Ok q) e) [
          | inl w ↦
              (let a = both (p.read s) (while_part i) q w.1 in
              let c = front_ok a.0 (read_while p.read first i a.1) q a.3 in
              let one = ep.goes s a.0 a.1 a.2 in
              let two = while_goes i a.1 c.0 c.1 in
              let P : Input → Type 0 = λ (r : Input). IsBehind r s × Moves nest l s l r in
              subst P c.2 (behind_trans c.0.1 a.1 s two.0 one.0, moves_on nest l s l a.1 l c.0.1 one.1 two.1))
          | inr w ↦ stays nest l s q.1 (ap (λ v. v.1) (inside w.1))
        ]

    while_deep : (i : ℕ) (s : Input) (span : SourceSpan) → read_while p.read first i s ≡ Err (nested_too_deep span) → Sunk nest n l s span
    unfolding read_while
    while_deep zero s span e = absurd (ok_not_err _ _ e)
    while_deep (suc i) s span e =
        elim (either {A = Result (List X × Input) Fault} (sees_any first s) (and_then (p.read s) (while_part i)) (Ok ([], s)) (Err (nested_too_deep span)) e) [
          | inl w ↦ elim (one_of (p.read s) (while_part i) (nested_too_deep span) w.1) [
            | inl u ↦ ep.deep s span u
            | inr u ↦
                (let one = ep.goes s u.0 u.1 u.2 in
                sunk_behind nest n l s l u.1 span one.0 one.1 (while_deep i u.1 span (front_err u.0 (read_while p.read first i u.1) (nested_too_deep span) u.3)))
          ]
          | inr w ↦ absurd (ok_not_err _ _ w.1)
        ]

    pub while_sinks : Sinks nest n l (λ _. l) (while_of p first)
    while_sinks = record { goes = λ s xs r h. while_goes (left s) s (xs, r) h; deep = λ s span h. while_deep (left s) s span h }
