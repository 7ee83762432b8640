-- Doc comments, and the pieces that they stand in.
use Rattle.std.proofs.Common.{◌≡◌, ℕ, ◌-◌, ◌≤◌, true, false, List, [], ◌∷◌, ◌++◌, length, take, drop, Option, Some, None, is_some, Result, refl, ap, sym, subst, ◌∙◌, arith}
use Rattle.std.specs.Prelude.{nat_eq, codes}
use Rattle.std.specs.List.{starts_with, ends_with}
use Rattle.std.specs.Str.{trim, IsCharBoundary}
use Rattle.std.specs.Str.Pattern.{FindsTextPrefix, FindsTextSuffix, StripsPrefix, StripsSuffix}
use Rattle.std.proofs.lemmas.Str.Pattern.{starts_text, ends_text}
use Rattle.wac_parser_lexer.specs.declared.span.SourceSpan.{SourceSpan}
use Rattle.wac_parser_lexer.specs.declared.token.Token.{Token}
use Rattle.wac_parser_lexer.specs.declared.error.Error.{Error}
use Rattle.wac_parser_lexer.specs.Pieces.{Piece, skipped, item, piece_by, pieces_at}
use Rattle.wac_parser_lexer.specs.Items.{Doc, doc_text, doc_in, items_of, docs_behind, docs_before, docs_by, docs_ahead, input_at}
use Rattle.wac_parser_lexer.proofs.PieceLaws.{no_pieces}

pub has_prefix : (n s x : List ℕ) → StripsPrefix (FindsTextPrefix n) s x → (starts_with nat_eq s n ≡ true) × (x ≡ drop (length n) s)
has_prefix n s x h = (sym (starts_text true n s (h.0, h.1, subst (IsCharBoundary s) (sym h.1.0) h.1.2)), h.2 ∙ ap (λ k. drop k s) h.1.0)

pub lacks_prefix : (n s : List ℕ) → FindsTextPrefix n s None → starts_with nat_eq s n ≡ false
lacks_prefix n s h = sym (starts_text false n s h)

pub has_suffix : (n s x : List ℕ) → StripsSuffix (FindsTextSuffix n) s x → (ends_with nat_eq s n ≡ true) × (x ≡ take (length s - length n) s)
has_suffix n s x h =
    let same : length s - h.0 ≡ length s - length n = ap (λ k. length s - k) h.1.0 in
    (sym (ends_text true n s (h.0, h.1, omega (arith, h.3), subst (IsCharBoundary s) (sym same) h.1.2)), h.2 ∙ ap (λ k. take k s) same)

pub lacks_suffix : (n s : List ℕ) → FindsTextSuffix n s None → ends_with nat_eq s n ≡ false
lacks_suffix n s h = sym (ends_text false n s h)

pub line_doc : (text x : List ℕ) → StripsPrefix (FindsTextPrefix (codes "///")) text x → Some (trim x) ≡ doc_text text
unfolding doc_text
line_doc text x h = let p = has_prefix (codes "///") text x h in rw (p.0, p.1) refl

pub no_doc : (text : List ℕ) → FindsTextPrefix (codes "///") text None → FindsTextPrefix (codes "/**") text None → None ≡ doc_text text
unfolding doc_text
no_doc text h k = rw (lacks_prefix (codes "///") text h, lacks_prefix (codes "/**") text k) refl

pub open_doc : (text inner : List ℕ) → FindsTextPrefix (codes "///") text None → StripsPrefix (FindsTextPrefix (codes "/**")) text inner → FindsTextSuffix (codes "*/") inner None → None ≡ doc_text text
unfolding doc_text
open_doc text inner h k l =
    let p = has_prefix (codes "/**") text inner k in
    let e : ends_with nat_eq (drop 3 text) (codes "*/") ≡ false = ap (λ (y : List ℕ). ends_with nat_eq y (codes "*/")) (sym p.1) ∙ lacks_suffix (codes "*/") inner l in
    rw (lacks_prefix (codes "///") text h, p.0, e) refl

pub block_doc : (text inner x : List ℕ) → FindsTextPrefix (codes "///") text None → StripsPrefix (FindsTextPrefix (codes "/**")) text inner → StripsSuffix (FindsTextSuffix (codes "*/")) inner x → Some (trim x) ≡ doc_text text
unfolding doc_text
block_doc text inner x h k l =
    let p = has_prefix (codes "/**") text inner k in
    let s = has_suffix (codes "*/") inner x l in
    let e : ends_with nat_eq (drop 3 text) (codes "*/") ≡ true = ap (λ (y : List ℕ). ends_with nat_eq y (codes "*/")) (sym p.1) ∙ s.0 in
    let same : x ≡ take (length (drop 3 text) - 2) (drop 3 text) = s.1 ∙ ap (λ (y : List ℕ). take (length y - 2) y) p.1 in
    rw (lacks_prefix (codes "///") text h, p.0, e) (ap (λ (y : List ℕ). Some (trim y)) same)

-- ---- the doc comments before an item

module _ (source : List ℕ) (at : ℕ) (z : List ℕ) (p : Option (Result Token Error) × ℕ) (ps : List Piece) (cut : pieces_at source at ≡ piece_by at z p ∷ ps) where
  stop_by : (docs : List Doc) (o : Option (Result Token Error)) → is_some o ≡ true → docs_before docs (piece_by at z (o, p.1) ∷ ps) ≡ docs
  stop_by docs (Some token) e = refl
  stop_by docs None e = cc

  goes_by : (docs : List Doc) (o : Option (Result Token Error)) → is_some o ≡ false → docs_before docs (piece_by at z (o, p.1) ∷ ps) ≡ docs_before (docs ++ doc_in (record { offset = at; length = p.1 }) (take p.1 z)) ps
  goes_by docs (Some token) e = cc
  goes_by docs None e = refl

  pub docs_stop : (docs : List Doc) → is_some p.0 ≡ true → docs_before docs (pieces_at source at) ≡ docs
  docs_stop docs e = ap (docs_before docs) cut ∙ stop_by docs p.0 e

  pub docs_go : (docs : List Doc) → is_some p.0 ≡ false → docs_before docs (pieces_at source at) ≡ docs_before (docs ++ doc_in (record { offset = at; length = p.1 }) (take p.1 z)) ps
  docs_go docs e = ap (docs_before docs) cut ∙ goes_by docs p.0 e

pub docs_end : (source : List ℕ) (at : ℕ) (docs : List Doc) → length source ≤ at → docs_before docs (pieces_at source at) ≡ docs
docs_end source at docs h = ap (docs_before docs) (no_pieces source at h)

before_ahead : (docs behind : List Doc) (ps : List Piece) → docs_before docs ps ≡ docs_by (docs_behind docs ps) (items_of docs ps)
before_ahead docs behind [] = refl
before_ahead docs behind (skipped span text ∷ ps) = before_ahead (docs ++ doc_in span text) behind ps
before_ahead docs behind (item token span ∷ ps) = refl

-- what stands before the first item is what the model has ahead
pub docs_first : (source : List ℕ) (at : ℕ) (last : SourceSpan) → docs_before [] (pieces_at source at) ≡ docs_ahead (input_at source at last)
docs_first source at last = before_ahead [] [] (pieces_at source at)
