use Rattle.std.proofs.Common.{◌∙◌}
use Rattle.wac_parser_terms.proofs.Tried.{none_tried, none_said}
use Rattle.wac_parser_terms.proofs.base.none_of.Goals as goal

pub error-requires : goal.error-requires
error-requires c = none_tried c.args.tokens.now c.args.lexer.now _ _ c.new-lookahead.ensures c.add_all.ensures c.requires

pub returns : goal.returns
returns c = c.error.ensures ∙ none_said c.args.tokens.now c.args.lexer.now _ _ c.new-lookahead.ensures c.add_all.ensures
