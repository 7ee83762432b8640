use Rattle.std.proofs.Common.{List, ℕ, Option, Result, IfSome, sym, ap, subst, ◌∙◌}
use Rattle.wac_parser_lexer.specs.declared.span.SourceSpan.{SourceSpan}
use Rattle.wac_parser_lexer.specs.declared.token.Token.{Token}
use Rattle.wac_parser_lexer.specs.declared.error.Error.{Error}
use Rattle.wac_parser_lexer.specs.Pieces.{IsSpanIn}
use Rattle.wac_parser_lexer.specs.Items.{Input, found_by}
use Rattle.wac_parser_lexer.proofs.ItemLaws.{kept_first, progress}
use Rattle.wac_parser_lexer.proofs.lexer.LexerIterator.next.Goals as goal

pub returns-clause-steps : goal.returns-clause-steps
returns-clause-steps c =
    let s = c.self.inside in
    let source = ap (λ (i : Input). i.source) c.advance.ensures in
    let P : Option (Result Token Error × SourceSpan) → Type 0 = λ (o : Option (Result Token Error × SourceSpan)). IfSome o (λ r. IsSpanIn s.source.now r.1) in
    let Q : List ℕ → Type 0 = λ (y : List ℕ). IfSome c.found-found.result (λ r. IsSpanIn y r.1) in
    record {
      value = c.found-found.ensures ∙ kept_first s.source.now s.at s.last (found_by s.next.token s.next.fault s.next.span) c.args.self.now c.self.invariant.first c.self.view_is;
      after = c.advance.ensures;
      source = source;
      within = subst Q (ap (λ (i : Input). i.source) c.self.view_is ∙ sym source) (subst P (sym c.found-found.ensures) c.self.invariant.within);
    }

pub returns-clause-goes : goal.returns-clause-goes
returns-clause-goes c = progress c.args.self.now c.found-found.result _ (returns-clause-steps c)
