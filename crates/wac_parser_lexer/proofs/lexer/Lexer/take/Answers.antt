use Rattle.std.proofs.Common.{rules, Option, Some, Result, IfSome, refl, sym, ap, subst, ◌∙◌}
use denote.Enum.Bare.{differs_true, differs_false}
use Rattle.wac_parser_lexer.specs.contracts.token.Token.{the_type}
use Rattle.wac_parser_lexer.specs.declared.span.SourceSpan.{SourceSpan}
use Rattle.wac_parser_lexer.specs.declared.token.Token.{Token}
use Rattle.wac_parser_lexer.specs.declared.error.Error.{Error}
use Rattle.wac_parser_lexer.specs.Pieces.{IsSpanIn}
use Rattle.wac_parser_lexer.specs.Items.{Input, found_by}
use Rattle.wac_parser_lexer.proofs.ItemLaws.{kept_first, token_found, found_token, same_inside}
use Rattle.wac_parser_lexer.proofs.lexer.Lexer.take.Goals as goal

pub returns-in_default : goal.returns-in_default
returns-in_default c =
    let s = c.self.inside in
    let first = kept_first s.source.now s.at s.last (found_by s.next.token s.next.fault s.next.span) c.args.self.now c.self.invariant.first c.self.view_is in
    (λ span e. c.in_default.not-Some _ (token_found s.next.token s.next.fault s.next.span span c.args.token (first ∙ e)), refl)

pub returns-then-ne : goal.returns-then-ne
returns-then-ne c =
    let s = c.self.inside in
    let first = kept_first s.source.now s.at s.last (found_by s.next.token s.next.fault s.next.span) c.args.self.now c.self.invariant.first c.self.view_is in
    let other = differs_true the_type _ _ (sym c.ne.ensures ∙ c.if-ne.true) in
    (λ span e. other (same_inside s.next.token c.in-Some.found c.args.token c.in-Some.is (token_found s.next.token s.next.fault s.next.span span c.args.token (first ∙ e))), refl)

pub returns : goal.returns
returns c =
    let s = c.self.inside in
    let first = kept_first s.source.now s.at s.last (found_by s.next.token s.next.fault s.next.span) c.args.self.now c.self.invariant.first c.self.view_is in
    let same = differs_false the_type (search rules) _ _ (sym c.ne.ensures ∙ c.if-ne.false) in
    let item = found_token s.next.token s.next.fault s.next.span c.args.token (c.in-Some.is ∙ ap (λ (t : Token). Some t) same) in
    let P : Option (Result Token Error × SourceSpan) → Type 0 = λ (o : Option (Result Token Error × SourceSpan)). IfSome o (λ r. IsSpanIn s.source.now r.1) in
    let Q : Input → Type 0 = λ (i : Input). IsSpanIn i.source s.next.span in
    (sym first ∙ item, c.advance.ensures, subst Q c.self.view_is (subst P item c.self.invariant.within))
