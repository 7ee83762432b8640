-- What is skipped begins with a blank or a slash, and a blank is no doc comment.
use Rattle.std.proofs.Common.{◌≡◌, ◌≢◌, ℕ, ◌+◌, ◌<◌, inl, inr, Bool, true, false, not, eqb, List, [], ◌∷◌, ◌++◌, length, take, drop, get_or, Option, Some, None, is_some, Result, refl, ap, sym, ◌∙◌, arith, length-drop, get_or-drop}
use Rattle.std.proofs.lemmas.Bool.{and_parts, not-true}
use Rattle.std.specs.List.{list_all}
use Rattle.wac_parser_lexer.specs.declared.span.SourceSpan.{SourceSpan}
use Rattle.wac_parser_lexer.specs.declared.token.Token.{Token}
use Rattle.wac_parser_lexer.specs.declared.error.Error.{Error}
use Rattle.wac_parser_lexer.specs.Spellings.{Spells, spellings}
use Rattle.wac_parser_lexer.specs.Tokens.{IsToken, comment, block_comment, ident, string, package_name, package_path, spelled}
use Rattle.wac_parser_lexer.specs.Pieces.{is_blank, is_comment, front_piece, pieces_at}
use Rattle.wac_parser_lexer.specs.Items.{Doc, doc_text, doc_in, docs_before}
use Rattle.wac_parser_lexer.proofs.PieceLaws.{piece_step, blank_cut}
use Rattle.wac_parser_lexer.proofs.DocLaws.{docs_stop, docs_go}
use Rattle.wac_parser_lexer.proofs.StandLaws.{IsPiece, front_is, piece_fits}
use Rattle.wac_parser_lexer.proofs.KeywordLaws.{same_first}

-- ---- a comment begins with a slash

-- no entry of a table is of a kind that none of its entries is of
pub table_lacks : (p : Token → Bool) (table : List (List ℕ × Token)) → list_all (λ entry. not (p entry.1)) table ≡ true → (kind : Token) (w : List ℕ) → Spells table kind w → p kind ≡ false
table_lacks p [] h kind w s = absurd s
table_lacks p (entry ∷ table) h kind w (inl s) = ap p s.1 ∙ not-true (p entry.1) (and_parts (not (p entry.1)) _ h).0
table_lacks p (entry ∷ table) h kind w (inr s) = table_lacks p table (and_parts (not (p entry.1)) _ h).1 kind w s

no_comment_spelled : (kind : Token) (w : List ℕ) → Spells spellings kind w → is_comment kind ≡ false
unfolding spellings
no_comment_spelled = table_lacks is_comment spellings refl

comment_slash : (kind : Token) (w : List ℕ) → is_comment kind ≡ true → IsToken kind w → (0 < length w) × (get_or w 0 0 ≡ 47)
comment_slash _ w e (comment h) = rw h.2 (omega arith, refl)
comment_slash _ w e (block_comment h) = rw h.2 (omega arith, refl)
comment_slash _ w e (ident h) = cc
comment_slash _ w e (string h) = cc
comment_slash _ w e (package_name h) = cc
comment_slash _ w e (package_path h) = cc
comment_slash kind w e (spelled h) = let f = no_comment_spelled kind w h in cc

pub item_by : (z : List ℕ) (o : Option (Result Token Error)) (n : ℕ) → IsPiece z (o, n) → is_blank (get_or z 0 0) ≡ false → get_or z 0 0 ≢ 47 → is_some o ≡ true
item_by z (Some token) n h plain other = refl
item_by z None n h plain other = elim h.2 [
  | inl w ↦ (let e = w.0 in cc)
  | inr w ↦ (let next = w.1.2.1 in
      let slash = comment_slash w.1.0 (take n z) w.1.1 next.is in
      absurd (other (same_first z (take n z) (drop n z) next.split slash.0 ∙ slash.1)))
]

-- ---- the doc comments at a place

no_doc_by : (b : ℕ) (t : Bool) → eqb 47 b ≡ t → doc_text (b ∷ []) ≡ None
unfolding doc_text
no_doc_by b true e = rw e refl
no_doc_by b false e = rw e refl

blank_no_doc : (span : SourceSpan) (z : List ℕ) → doc_in span (take 1 z) ≡ []
unfolding doc_text
blank_no_doc span [] = refl
blank_no_doc span (b ∷ z) = rw (no_doc_by b (eqb 47 b) refl) refl

append_none : (docs : List Doc) → docs ++ [] ≡ docs
append_none [] = refl
append_none (d ∷ docs) = ap (λ (ds : List Doc). d ∷ ds) (append_none docs)

module _ (source : List ℕ) (at : ℕ) (few : at < length source) (docs : List Doc) where
  -- a blank adds none
  pub docs_blank : is_blank (get_or source at 0) ≡ true → docs_before docs (pieces_at source at) ≡ docs_before docs (pieces_at source (at + 1))
  docs_blank blank =
      let span : SourceSpan = record { offset = at; length = 1 } in
      docs_go source at (drop at source) (None, 1) (pieces_at source (at + 1)) (blank_cut source at few blank) docs refl
      ∙ ap (λ (ds : List Doc). docs_before (docs ++ ds) (pieces_at source (at + 1))) (blank_no_doc span (drop at source))
      ∙ ap (λ (ds : List Doc). docs_before ds (pieces_at source (at + 1))) (append_none docs)

  -- what is neither a blank nor a slash begins an item
  pub docs_item : is_blank (get_or source at 0) ≡ false → get_or source at 0 ≢ 47 → docs_before docs (pieces_at source at) ≡ docs
  docs_item plain other =
      let z = drop at source in
      let p = front_piece z in
      let here : get_or z 0 0 ≡ get_or source at 0 = rw get_or-drop (ap (λ i. get_or source i 0) (omega arith)) in
      let is = front_is z (omega (arith, length-drop at source)) in
      let fits = piece_fits z p.0 p.1 is in
      let cut = piece_step source at p refl fits.0 fits.1 in
      docs_stop source at z p (pieces_at source (at + p.1)) cut docs (item_by z p.0 p.1 is (ap is_blank here ∙ plain) (λ e. other (sym here ∙ e)))
