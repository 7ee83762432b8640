use Rattle.std.proofs.Common.{[], ap, ◌∙◌}
use Rattle.wac_parser_lexer.specs.Pieces.{pieces_at}
use Rattle.wac_parser_lexer.specs.Items.{ahead, behind, first_of_items, second_item}
use Rattle.wac_parser_lexer.proofs.ItemLaws.{first_ahead, rest_behind}
use Rattle.wac_parser_lexer.proofs.lexer.Lexer.peek2.Goals as goal

pub returns-clause-value : goal.returns-clause-value
returns-clause-value c =
    let ps = pieces_at c.self.inside.source.now c.self.inside.at in
    c.found.ensures ∙ c.scan.ensures.first ∙ ap ahead c.self.invariant.others ∙ first_ahead [] (behind ps) ∙ ap first_of_items (rest_behind [] ps) ∙ ap second_item c.self.view_is
