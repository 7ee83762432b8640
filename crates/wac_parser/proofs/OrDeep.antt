-- What is read up to a place, or refused as nested too deep: how that passes through the rules.
use Rattle.std.proofs.Common.{◌≡◌, ℕ, true, false, List, Option, Some, Ok, Err, refl, ap, subst, sym, ◌∙◌}
use Rattle.wac_parser_lexer.specs.declared.span.SourceSpan.{SourceSpan}
use Rattle.wac_parser_lexer.specs.declared.token.Token.{Token}
use Rattle.wac_parser_lexer.specs.Items.{Input}
use Rattle.wac_parser_tree.specs.Trees as t
use Rattle.wac_parser_grammar.specs.Faults.{nested_too_deep}
use Rattle.wac_parser_grammar.specs.Ahead.{is_token, is_any, next_token, same_token, sees, sees_any}
use Rattle.wac_parser_grammar.specs.Rules.{Rule, ◌>>=◌, pure, token, look, choose, begin, begin_any, optional, span_of_items}
use Rattle.wac_parser_grammar.specs.Names as n
use Rattle.wac_parser_grammar.specs.ValueTypes.{too_deep}
use Rattle.wac_parser_grammar.specs.Forms.{At, Docs, Ident, Quoted, PackageName, NewPackage, PackagePath}
use Rattle.wac_parser_grammar.specs.FormDepths.{Ends}
use Rattle.wac_parser_grammar.proofs.Exact.{Exact, token_exact, optional_exact, found_same}
use Rattle.wac_parser_grammar.proofs.NameLaws.{docs_exact, ident_exact, string_exact, package_name_exact, new_package_exact, package_path_exact}
use Rattle.wac_parser_grammar.proofs.TableBack.{next_at, optional_here, optional_past, ident_back, string_back, package_name_back, new_package_back, package_path_back}

-- the rule reads the value up to the second place, or refuses it as nested too deep
pub data Meets {X : Type 0} (p : Rule X) (s : Input) (x : X) (r : Input) : Type 0 where
  met : p.read s ≡ Ok (x, r) → Meets p s x r
  deep : (span : SourceSpan) → p.read s ≡ Err (nested_too_deep span) → Meets p s x r

pub taken : {X : Type 0} {p : Rule X} {s : Input} {x : X} {r : Input} → Exact p → p.Is x s r → Meets p s x r
taken exact h = met (exact.complete _ _ _ h)

-- ---- one behind the other

pub go : {A B : Type 0} {p : Rule A} (f : A → Rule B) {s m r : Input} {a : A} {y : B} → Meets p s a m → Meets (f a) m y r → Meets (p >>= f) s y r
go f (met g) (met h) = met (rw g h)
go f (met g) (deep span h) = deep span (rw g h)
go f (deep span g) h = deep span (rw g refl)

pub at : {k : Token} {span : t.Span} {s m : Input} → At k span s m → Meets (token k) s span m
at {k = k} h = taken (token_exact k) h

pub made : {X : Type 0} {x y : X} {s : Input} → x ≡ y → Meets (pure y) s x s
made {s = s} e = met (ap (λ z. Ok (z, s)) (sym e))

-- behind a look ahead
pub looked : {A B : Type 0} {g : Input → A} (f : A → Rule B) {s r : Input} {a : A} {y : B} → a ≡ g s → Meets (f a) s y r → Meets (look g >>= f) s y r
looked f e (met h) = met (rw (sym e) h)
looked f e (deep span h) = deep span (rw (sym e) h)

-- the value, as what it is made into
pub as_one : {A B : Type 0} {p : Rule A} (c : A → B) {s r : Input} {a : A} → Meets p s a r → Meets (p >>= (λ a. pure (c a))) s (c a) r
as_one c h = go _ h (met refl)

-- ---- the next token

pub record Next (k : Token) (s : Input) : Type 0 where
  pub is : next_token s ≡ Some k

pub next : {k : Token} {span : t.Span} {s m : Input} → At k span s m → Next k s
next {k} {span} {s} {m} h = record { is = next_at k span s m h }

-- where only doc comments stand before it
pub behind_docs : {k : Token} {span : t.Span} {s m r : Input} → m ≡ s → At k span m r → Next k s
behind_docs {k} {span} {s} {m} {r} e h = let P : Input → Type 0 = λ (i : Input). Next k i in subst P e (next {s = m} {m = r} h)

pub seeing : {k : Token} {s : Input} (l : Token) → Next k s → sees l s ≡ same_token k l
unfolding sees
seeing l h = ap (is_token l) h.is

pub seeing_any : {k : Token} {s : Input} (ks : List Token) → Next k s → sees_any ks s ≡ is_any ks (Some k)
unfolding sees_any
seeing_any ks h = ap (is_any ks) h.is

-- ---- choices

pub first_choice : {X : Type 0} {p : Rule X} (q : Rule X) {s r : Input} {x : X} → Meets p s x r → Meets (choose true p q) s x r
first_choice q (met h) = met h
first_choice q (deep span h) = deep span h

pub second_choice : {X : Type 0} (p : Rule X) {q : Rule X} {s r : Input} {x : X} → Meets q s x r → Meets (choose false p q) s x r
second_choice p (met h) = met h
second_choice p (deep span h) = deep span h

pub here : {X : Type 0} (k : Token) {p : Rule X} (q : Rule X) {s r : Input} {x : X} → sees k s ≡ true → Meets p s x r → Meets (begin k p q) s x r
here k q e (met h) = met (rw e h)
here k q e (deep span h) = deep span (rw e h)

pub past : {X : Type 0} (k : Token) (p : Rule X) {q : Rule X} {s r : Input} {x : X} → sees k s ≡ false → Meets q s x r → Meets (begin k p q) s x r
past k p e (met h) = met (rw e h)
past k p e (deep span h) = deep span (rw e h)

pub any_here : {X : Type 0} (ks : List Token) {p : Rule X} (q : Rule X) {s r : Input} {x : X} → sees_any ks s ≡ true → Meets p s x r → Meets (begin_any ks p q) s x r
any_here ks q e (met h) = met (rw e h)
any_here ks q e (deep span h) = deep span (rw e h)

pub any_past : {X : Type 0} (ks : List Token) (p : Rule X) {q : Rule X} {s r : Input} {x : X} → sees_any ks s ≡ false → Meets q s x r → Meets (begin_any ks p q) s x r
any_past ks p e (met h) = met (rw e h)
any_past ks p e (deep span h) = deep span (rw e h)

-- by the token that comes next
pub come : {X : Type 0} {k : Token} {p : Rule X} (q : Rule X) {s r : Input} {x : X} → Next k s → Meets p s x r → Meets (begin k p q) s x r
come {k = k} q nx h = here k q (seeing k nx ∙ found_same k) h

pub pass : {X : Type 0} {k : Token} (l : Token) (p : Rule X) {q : Rule X} {s r : Input} {x : X} → Next k s → same_token k l ≡ false → Meets q s x r → Meets (begin l p q) s x r
pass l p nx e h = past l p (seeing l nx ∙ e) h

pub pass_any : {X : Type 0} {k : Token} (ks : List Token) (p : Rule X) {q : Rule X} {s r : Input} {x : X} → Next k s → is_any ks (Some k) ≡ false → Meets q s x r → Meets (begin_any ks p q) s x r
pass_any ks p nx e h = any_past ks p (seeing_any ks nx ∙ e) h

-- no room is left
pub no_room : {X : Type 0} (first : List Token) {s r : Input} {x : X} → sees_any first s ≡ true → Meets (too_deep first) s x r
no_room first {s = s} e = deep (span_of_items s.items) (rw e refl)

pub option_here : {k : Token} {span : t.Span} {s m : Input} → At k span s m → Meets (optional k) s true m
option_here {k} {span} {s} {m} h = taken (optional_exact k) (optional_here k span s m h)

pub option_past : (k : Token) {s : Input} → Ends k s → Meets (optional k) s false s
option_past k {s} e = taken (optional_exact k) (optional_past k s e)

-- a part behind the token, where that comes next, and else another
pub opened : {X : Type 0} {k : Token} {p : Rule X} (q : Rule X) {span : t.Span} {s m r : Input} {x : X} → At k span s m → Meets p m x r
    → Meets (optional k >>= (λ found. choose found p q)) s x r
opened {k = k} {p = p} q {span = span} {s = s} {m = m} h i = go (λ found. choose found p q) (option_here {k = k} {span = span} {s = s} {m = m} h) (first_choice q i)

pub closed : {X : Type 0} (k : Token) (p : Rule X) {q : Rule X} {s r : Input} {x : X} → Ends k s → Meets q s x r → Meets (optional k >>= (λ found. choose found p q)) s x r
closed k p {q = q} e i = go (λ found. choose found p q) (option_past k e) (second_choice p i)

-- ---- names

pub docs_met : {s m : Input} {x : List t.DocComment} → Docs x s m → Meets n.docs s x m
unfolding n.docs
docs_met {s} {m} {x} h = taken docs_exact h

pub ident_met : {s r : Input} {x : t.Ident} → Ident x s r → Meets n.ident s x r
ident_met h = taken ident_exact (ident_back _ _ _ h)

pub string_met : {s r : Input} {x : t.StringLiteral} → Quoted x s r → Meets n.string s x r
string_met h = taken string_exact (string_back _ _ _ h)

pub package_name_met : {s r : Input} {x : t.PackageName} → PackageName x s r → Meets n.package_name s x r
package_name_met h = taken package_name_exact (package_name_back _ _ _ h)

pub new_package_met : {s r : Input} {x : t.PackageName × Option (List ℕ)} → NewPackage x s r → Meets n.new_package s x r
new_package_met h = taken new_package_exact (new_package_back _ _ _ h)

pub package_path_met : {s r : Input} {x : t.PackagePath} → PackagePath x s r → Meets n.package_path s x r
package_path_met h = taken package_path_exact (package_path_back _ _ _ h)
