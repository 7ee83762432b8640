use Rattle.std.proofs.Common.{ap, ◌∙◌}
use Rattle.wac_parser_lexer.specs.Items.{token_of, found_by}
use Rattle.wac_parser_lexer.proofs.ItemLaws.{kept_first, token_kept}
use Rattle.wac_parser_lexer.proofs.lexer.Lexer.token.Goals as goal

pub returns : goal.returns
returns c =
    let s = c.self.inside in
    let first = kept_first s.source.now s.at s.last (found_by s.next.token s.next.fault s.next.span) c.args.self.now c.self.invariant.first c.self.view_is in
    token_kept s.next.token s.next.fault s.next.span ∙ ap token_of first
