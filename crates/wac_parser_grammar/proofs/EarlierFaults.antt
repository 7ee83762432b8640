-- Faults that stand at a token before the place where they are found.
use Rattle.std.proofs.Common.{◌≡◌, ℕ, inl, inr, Bool, true, false, List, [], ◌∷◌, Option, Some, None, Result, Ok, Err, length, refl, ap, subst, sym, ◌∙◌, cond}
use Rattle.std.proofs.lemmas.Bool.Decides.{not_from_Decides}
use Rattle.semver.specs.Parse.{version_parts}
use Rattle.semver.specs.declared.error.Error.{Error}
use Rattle.wac_types_names.specs.Tracks.{IsTrack}
use Rattle.wac_parser_lexer.specs.declared.span.SourceSpan.{SourceSpan}
use Rattle.wac_parser_lexer.specs.declared.token.Token.{Token}
use Rattle.wac_parser_lexer.specs.declared.token.Token.TheVariants as k
use Rattle.wac_parser_lexer.specs.Pieces.{text_at}
use Rattle.wac_parser_lexer.specs.Items.{Input, first_item, first_of_items, rest_input}
use Rattle.wac_parser_tree.specs.Trees as t
use Rattle.wac_parser_grammar.specs.declared.error.DeclaredType.{DeclaredType}
use Rattle.wac_parser_grammar.specs.declared.error.MemberKind.{MemberKind}
use Rattle.wac_parser_grammar.specs.Faults.{Fault, empty_type, invalid_version}
use Rattle.wac_parser_grammar.specs.Rules.{Rule, ◌>>=◌, token, pure, slice, list_of}
use Rattle.wac_parser_grammar.specs.Tracks.{track_test, track_in}
use Rattle.wac_parser_grammar.specs.Names.{behind_first, end_of, version_read, version_by, version_of, version_beside}
use Rattle.wac_parser_grammar.specs.Declarations.{some_member, members}
use Rattle.wac_parser_grammar.specs.Places.{IsBehind, here, on}
use Rattle.wac_parser_grammar.specs.Standing.{Saying, IsNamed, StandsBy}
use Rattle.wac_parser_grammar.proofs.TrackTests.{track_tells}
use Rattle.wac_parser_grammar.proofs.Exact.{Exact, Takes, Begins, token_exact, inside, both}
use Rattle.wac_parser_grammar.proofs.ExactLists.{list_exact}
use Rattle.wac_parser_grammar.proofs.Faithful.{FaithfulBy, Any, err_inside, behind_trans, stands_behind, one_of, stands_here, token_faithful}
use Rattle.wac_parser_grammar.proofs.FaithfulLists.{list_faithful, ok_not_err}

pub token_stood : (k : Token) (s : Input) (x : SourceSpan) (r : Input) → (token k).Is x s r → first_item s ≡ Some (Ok k, x)
token_stood k s x r h = ap first_of_items h.2

pub token_left : (k : Token) (s : Input) (x : SourceSpan) (r : Input) → (token k).Is x s r → IsBehind r s
token_left k s x r h = let P : Input → Type 0 = λ (m : Input). IsBehind m s in subst P (sym h.3) (on here)

-- What is read behind a token goes on, and its faults stand at the token or behind it.
module _ (N : Saying) {X : Type 0} (k : Token) (q : SourceSpan → Rule X)
    (goes : (s : Input) (span : SourceSpan) (m : Input) → (token k).Is span s m → (x : X) (r : Input) → (q span).read m ≡ Ok (x, r) → IsBehind r m)
    (stands : (s : Input) (span : SourceSpan) (m : Input) → (token k).Is span s m → (f : Fault) → (q span).read m ≡ Err f → StandsBy N s f) where
  taken : (s : Input) (span : SourceSpan) (m : Input) → (token k).read s ≡ Ok (span, m) → (token k).Is span s m
  taken s span m h = (token_exact k).sound s span m h

  pub behind_token : FaithfulBy N Any (token k >>= q)
  behind_token = record {
    goes = λ s x r c h.
        (let b = both ((token k).read s) (λ span m. (q span).read m) (x, r) h in
        let is = taken s b.0 b.1 b.2 in
        behind_trans r b.1 s (goes s b.0 b.1 is x r b.3) (token_left k s b.0 b.1 is));
    stands = λ s f c h. elim (one_of ((token k).read s) (λ span m. (q span).read m) f h) [
      | inl w ↦ (token_faithful k).stands s f tt w
      | inr w ↦ stands s w.0 w.1 (taken s w.0 w.1 w.2) f w.3
    ];
  }

-- ---- a text that is no version

read_goes : (o : Result t.Version Error) (text : List ℕ) (span : SourceSpan) (m : Input) (x : Option t.Version) (r : Input) → (version_read o text span).read m ≡ Ok (x, r) → IsBehind r m
read_goes (Ok v) text span m x r h = let P : Input → Type 0 = λ (i : Input). IsBehind i m in subst P (ap (λ p. p.1) (inside h)) here
read_goes (Err e) text span m x r h = cc

by_goes : (o : Option (List ℕ)) (span : SourceSpan) (m : Input) (x : Option t.Version) (r : Input) → (version_by o span).read m ≡ Ok (x, r) → IsBehind r m
by_goes None span m x r h = let P : Input → Type 0 = λ (i : Input). IsBehind i m in subst P (ap (λ p. p.1) (inside h)) here
by_goes (Some text) span m x r h = read_goes (version_parts text) text span m x r h

read_fails : (o : Result t.Version Error) (text : List ℕ) (span : SourceSpan) (m : Input) (f : Fault) → (version_read o text span).read m ≡ Err f
    → (e : Error) × (o ≡ Err e) × (invalid_version text (end_of span (length text)) ≡ f)
read_fails (Ok v) text span m f h = cc
read_fails (Err e) text span m f h = (e, refl, err_inside h)

by_fails : (o : Option (List ℕ)) (span : SourceSpan) (m : Input) (f : Fault) → (version_by o span).read m ≡ Err f
    → (text : List ℕ) × (o ≡ Some text) × (e : Error) × (version_parts text ≡ Err e) × (invalid_version text (end_of span (length text)) ≡ f)
by_fails None span m f h = cc
by_fails (Some text) span m f h = let e = read_fails (version_parts text) text span m f h in (text, refl, e.0, e.1, e.2)

-- the fault is that of a text that is no version, of which this is said
abbrev Unread : (List ℕ → Type 0) → Option (List ℕ) → SourceSpan → Fault → Type 0
Unread U o span f =
    (text : List ℕ) × (o ≡ Some text) × (e : Error) × (version_parts text ≡ Err e) × U text × (invalid_version text (end_of span (length text)) ≡ f)

-- What is read of the text of a name takes no item, and fails for a text behind its `@`.
pub record ReadsVersion (U : List ℕ → Type 0) (q : List ℕ → SourceSpan → Rule (Option t.Version)) : Type 0 where
  pub goes : (name : List ℕ) (span : SourceSpan) (m : Input) (x : Option t.Version) (r : Input) → (q name span).read m ≡ Ok (x, r) → IsBehind r m
  pub fails : (name : List ℕ) (span : SourceSpan) (m : Input) (f : Fault) → (q name span).read m ≡ Err f → Unread U (behind_first 64 name) span f

pub version_of_reads : ReadsVersion (λ text. Unit {0}) version_of
unfolding version_of
version_of_reads = record {
  goes = λ name span. by_goes (behind_first 64 name) span;
  fails = λ name span m f h. (let e = by_fails (behind_first 64 name) span m f h in (e.0, e.1, e.2, e.3, tt, e.4));
}

module _ (U : List ℕ → Type 0) (untracked : (text : List ℕ) → (IsTrack text → ⊥) → U text) where
  beside_goes : (track o : Option (List ℕ)) (span : SourceSpan) (m : Input) (x : Option t.Version) (r : Input) → (version_beside track o span).read m ≡ Ok (x, r) → IsBehind r m
  beside_goes None o span m x r h = by_goes o span m x r h
  beside_goes (Some track) o span m x r h = let P : Input → Type 0 = λ (i : Input). IsBehind i m in subst P (ap (λ p. p.1) (inside h)) here

  beside_fails : (o : Option (List ℕ)) (span : SourceSpan) (m : Input) (f : Fault) → (version_beside (track_in o) o span).read m ≡ Err f → Unread U o span f
  beside_fails None span m f h = cc
  beside_fails (Some text) span m f h = by (track_test text) refl h
    where
      by : (b : Bool) → track_test text ≡ b → (version_beside (cond b (Some text) None) (Some text) span).read m ≡ Err f → Unread U (Some text) span f
      by true q g = cc
      by false q g =
          let e = by_fails (Some text) span m f g in
          (e.0, e.1, e.2, e.3, untracked e.0 (subst (λ (z : List ℕ). IsTrack z → ⊥) (same e.1) (not_from_Decides (track_test text) (track_tells text) q)), e.4)
        where
          same : {z : List ℕ} → Some text ≡ Some z → text ≡ z
          same k = cc

  pub beside_reads : ReadsVersion U (λ name span. version_beside (track_in (behind_first 64 name)) (behind_first 64 name) span)
  beside_reads = record {
    goes = λ name span. beside_goes (track_in (behind_first 64 name)) (behind_first 64 name) span;
    fails = λ name span. beside_fails (behind_first 64 name) span;
  }

module _ (N : Saying) {X : Type 0} (k : Token) (named : (s : Input) (span : SourceSpan) → first_item s ≡ Some (Ok k, span) → IsNamed s span)
    (q : List ℕ → SourceSpan → Rule (Option t.Version)) (reads : ReadsVersion N.unread q) (make : SourceSpan → List ℕ → Option t.Version → X) where
  abbrev rest : SourceSpan → Rule X
  rest span = slice span >>= λ text. q text span >>= λ version. pure (make span text version)

  rest_goes : (s : Input) (span : SourceSpan) (m : Input) → (token k).Is span s m → (x : X) (r : Input) → (rest span).read m ≡ Ok (x, r) → IsBehind r m
  rest_goes s span m at x r h =
      let name = text_at m.source span in
      let b = both ((q name span).read m) (λ v n. Ok (make span name v, n)) (x, r) h in
      let same : b.1 ≡ r = ap (λ p. p.1) (inside b.3) in
      let P : Input → Type 0 = λ (i : Input). IsBehind i m in
      subst P same (reads.goes name span m b.0 b.1 b.2)

  rest_stands : (s : Input) (span : SourceSpan) (m : Input) → (token k).Is span s m → (f : Fault) → (rest span).read m ≡ Err f → StandsBy N s f
  rest_stands s span m at f h =
      let name = text_at m.source span in
      elim (one_of ((q name span).read m) (λ v n. Ok (make span name v, n)) f h) [
        | inl w ↦
            (let e = reads.fails name span m f w in
            let text_is : behind_first 64 (text_at s.source span) ≡ Some e.0 = ap (λ (i : Input). behind_first 64 (text_at i.source span)) (sym at.3) ∙ e.1 in
            stands_here N s (invalid_version e.0 (end_of span (length e.0))) f e.5 (span, named s span (token_stood k s span m at), text_is, refl, e.2, e.3, e.4))
        | inr w ↦ absurd (ok_not_err _ _ w.3)
      ]

  pub versioned_faithful : FaithfulBy N Any (token k >>= rest)
  versioned_faithful = behind_token N k rest rest_goes rest_stands

-- ---- a declaration without members

member_goes : {X : Type 0} (xs : List X) (ty : DeclaredType) (kind : MemberKind) (close : SourceSpan) (m : Input) (x : List X) (r : Input) → (some_member xs ty kind close).read m ≡ Ok (x, r) → IsBehind r m
member_goes [] ty kind close m x r h = cc
member_goes (y ∷ ys) ty kind close m x r h = let P : Input → Type 0 = λ (i : Input). IsBehind i m in subst P (ap (λ p. p.1) (inside h)) here

member_fails : {X : Type 0} (xs : List X) (ty : DeclaredType) (kind : MemberKind) (close : SourceSpan) (m : Input) (f : Fault) → (some_member xs ty kind close).read m ≡ Err f → (xs ≡ []) × (empty_type ty kind close ≡ f)
member_fails [] ty kind close m f h = (refl, err_inside h)
member_fails (y ∷ ys) ty kind close m f h = absurd (ok_not_err _ _ h)

module _ {N : Saying} {X : Type 0} (p : Rule X) (ty : DeclaredType) (kind : MemberKind) (exact : Exact p) (begins : Begins (k.Ident ∷ []) p) (takes : Takes p) (faithful : FaithfulBy N Any p) where
  abbrev all : Rule (List X)
  all = list_of p (k.Ident ∷ []) k.CloseBrace true

  all_faithful : FaithfulBy N Any all
  all_faithful = list_faithful p (k.Ident ∷ []) k.CloseBrace true exact takes faithful

  abbrev closed : List X → Rule (List X)
  closed xs = token k.CloseBrace >>= λ close. some_member xs ty kind close

  none_passed : (m : Input) (xs : List X) (n : Input) → all.read m ≡ Ok (xs, n) → xs ≡ [] → n ≡ m
  none_passed m xs n h e =
      let P : List X → Type 0 = λ (ys : List X). all.Is ys m n in
      let is = subst P e ((list_exact p (k.Ident ∷ []) k.CloseBrace true exact begins takes).sound m xs n h) in
      is.1

  body_goes : (s : Input) (span : SourceSpan) (m : Input) → (token k.OpenBrace).Is span s m → (x : List X) (r : Input) → (all >>= closed).read m ≡ Ok (x, r) → IsBehind r m
  body_goes s span m at x r h =
      let b = both (all.read m) (λ xs n. (closed xs).read n) (x, r) h in
      let c = both ((token k.CloseBrace).read b.1) (λ close n. (some_member b.0 ty kind close).read n) (x, r) b.3 in
      behind_trans r c.1 m (member_goes b.0 ty kind c.0 c.1 x r c.3) (behind_trans c.1 b.1 m ((token_faithful {N = N} k.CloseBrace).goes b.1 c.0 c.1 tt c.2) (all_faithful.goes m b.0 b.1 tt b.2))

  empty_stands : (s : Input) (span : SourceSpan) (m : Input) → (token k.OpenBrace).Is span s m → (xs : List X) (n : Input) → all.read m ≡ Ok (xs, n) → (close : SourceSpan) (r : Input)
      → (token k.CloseBrace).read n ≡ Ok (close, r) → (f : Fault) → (some_member xs ty kind close).read r ≡ Err f → StandsBy N s f
  empty_stands s span m at xs n read_all close r closes f h =
      let e = member_fails xs ty kind close r f h in
      let place : n ≡ rest_input s = none_passed m xs n read_all e.0 ∙ at.3 in
      let behind : first_item (rest_input s) ≡ Some (Ok k.CloseBrace, close) = sym (ap first_item place) ∙ token_stood k.CloseBrace n close r ((token_exact k.CloseBrace).sound n close r closes) in
      stands_here N s (empty_type ty kind close) f e.1 (span, token_stood k.OpenBrace s span m at, behind)

  closed_stands : (s : Input) (span : SourceSpan) (m : Input) → (token k.OpenBrace).Is span s m → (xs : List X) (n : Input) → all.read m ≡ Ok (xs, n) → (f : Fault) → (closed xs).read n ≡ Err f → StandsBy N s f
  closed_stands s span m at xs n read_all f h =
      elim (one_of ((token k.CloseBrace).read n) (λ close r. (some_member xs ty kind close).read r) f h) [
        | inl w ↦ stands_behind N n s f (behind_trans n m s (all_faithful.goes m xs n tt read_all) (token_left k.OpenBrace s span m at)) ((token_faithful k.CloseBrace).stands n f tt w)
        | inr w ↦ empty_stands s span m at xs n read_all w.0 w.1 w.2 f w.3
      ]

  body_stands : (s : Input) (span : SourceSpan) (m : Input) → (token k.OpenBrace).Is span s m → (f : Fault) → (all >>= closed).read m ≡ Err f → StandsBy N s f
  body_stands s span m at f h =
      elim (one_of (all.read m) (λ xs n. (closed xs).read n) f h) [
        | inl w ↦ stands_behind N m s f (token_left k.OpenBrace s span m at) (all_faithful.stands m f tt w)
        | inr w ↦ closed_stands s span m at w.0 w.1 w.2 f w.3
      ]

  pub members_faithful : FaithfulBy N Any (members p ty kind)
  members_faithful = behind_token N k.OpenBrace (λ _. all >>= closed) body_goes body_stands
