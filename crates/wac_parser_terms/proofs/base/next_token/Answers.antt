use Rattle.std.proofs.Common.{◌∙◌}
use Rattle.wac_parser_lexer.specs.Items.{first_item}
use Rattle.wac_parser_terms.proofs.Tokens.{token_here}
use Rattle.wac_parser_terms.proofs.base.next_token.Goals as goal

pub returns : goal.returns
returns c = c.token.ensures ∙ token_here (first_item c.args.lexer.now)
