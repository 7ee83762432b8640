use Rattle.std.proofs.Common.{◌∙◌}
use Rattle.wac_parser_lexer.specs.Items.{found_by}
use Rattle.wac_parser_lexer.proofs.ItemLaws.{kept_first}
use Rattle.wac_parser_lexer.proofs.lexer.Lexer.peek.Goals as goal

pub returns-clause-value : goal.returns-clause-value
returns-clause-value c =
    let s = c.self.inside in
    c.found.ensures ∙ kept_first s.source.now s.at s.last (found_by s.next.token s.next.fault s.next.span) c.args.self.now c.self.invariant.first c.self.view_is
