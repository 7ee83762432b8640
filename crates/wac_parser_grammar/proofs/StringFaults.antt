-- A string that is no argument.
use Rattle.std.proofs.Common.{◌≡◌, ◌≢◌, inl, inr, Some, Result, Ok, Err, ap, sym, ◌∙◌}
use Rattle.wac_parser_lexer.specs.declared.span.SourceSpan.{SourceSpan}
use Rattle.wac_parser_lexer.specs.declared.token.Token.TheVariants as k
use Rattle.wac_parser_lexer.specs.Items.{Input, first_item, first_of_items}
use Rattle.wac_parser_tree.specs.Trees as t
use Rattle.wac_parser_grammar.specs.Faults.{Fault, expected}
use Rattle.wac_parser_grammar.specs.Ahead.{sees}
use Rattle.wac_parser_grammar.specs.Rules.{Rule, ◌>>=◌, begin, refuse}
use Rattle.wac_parser_grammar.specs.Names.{string}
use Rattle.wac_parser_grammar.specs.Places.{IsBehind}
use Rattle.wac_parser_grammar.specs.Standing.{Saying, StandsBy}
use Rattle.wac_parser_grammar.proofs.NameLaws.{string_exact}
use Rattle.wac_parser_grammar.proofs.Faithful.{FaithfulBy, Any, err_inside, behind_trans, stands_behind, one_of, stands_here}
use Rattle.wac_parser_grammar.proofs.NameFaults.{string_faithful}
use Rattle.wac_parser_grammar.proofs.Exact.{both}
use Rattle.wac_parser_lexer.proofs.FrontLaws.{either}
use Rattle.wac_parser_grammar.proofs.FaithfulLists.{err_not_ok}

string_stood : (s : Input) (x : t.StringLiteral) (r : Input) → string.read s ≡ Ok (x, r) → first_item s ≡ Some (Ok k.String, x.span)
unfolding string
string_stood s x r h =
    let is = string_exact.sound s x r h in
    ap first_of_items is.2.2 ∙ ap (λ (y : SourceSpan). Some (Ok k.String, y)) (sym (ap (λ (y : t.StringLiteral). y.span) is.3.3.0))

not_ident : Some k.String ≢ Some k.Ident
not_ident e = cc

module _ {N : Saying} {X : Type 0} (p : t.StringLiteral → Rule X) (faithful : (x : t.StringLiteral) → FaithfulBy N Any (p x)) where
  abbrev fault : t.StringLiteral → Fault
  fault x = expected k.Ident (Some k.String) x.span

  abbrev rest : t.StringLiteral → Rule X
  rest x = begin k.Colon (p x) (refuse (λ _. fault x))

  rest_goes : (x : t.StringLiteral) (m : Input) (y : X) (r : Input) → (rest x).read m ≡ Ok (y, r) → IsBehind r m
  rest_goes x m y r h = elim (either {A = Result (X × Input) Fault} (sees k.Colon m) ((p x).read m) (Err (fault x)) (Ok (y, r)) h) [
    | inl w ↦ (faithful x).goes m y r tt w.1
    | inr w ↦ absurd (err_not_ok _ _ w.1)
  ]

  rest_fails : (s : Input) (x : t.StringLiteral) (m : Input) (f : Fault) → string.read s ≡ Ok (x, m) → (rest x).read m ≡ Err f → StandsBy N s f
  rest_fails s x m f e h = elim (either {A = Result (X × Input) Fault} (sees k.Colon m) ((p x).read m) (Err (fault x)) (Err f) h) [
    | inl w ↦ stands_behind N m s f ((string_faithful {N = N}).goes s x m tt e) ((faithful x).stands m f tt w.1)
    | inr w ↦ stands_here N s (fault x) f (err_inside w.1) (string_stood s x m e, not_ident)
  ]

  pub string_refused : FaithfulBy N Any (string >>= rest)
  string_refused = record {
    goes = λ s y r c h.
        (let b = both (string.read s) (λ x m. (rest x).read m) (y, r) h in
        behind_trans r b.1 s (rest_goes b.0 b.1 y r b.3) ((string_faithful {N = N}).goes s b.0 b.1 tt b.2));
    stands = λ s f c h. elim (one_of (string.read s) (λ x m. (rest x).read m) f h) [
      | inl w ↦ string_faithful.stands s f tt w
      | inr w ↦ rest_fails s w.0 w.1 f w.2 w.3
    ];
  }
