use Rattle.std.proofs.Common.{ap, sym, ◌∙◌}
use Rattle.wac_parser_grammar.specs.Ahead.{is_any, sees_any}
use Rattle.wac_parser_terms.proofs.base.sees_any.Goals as goal
use Rattle.wac_parser_grammar.proofs.Faithful.{none_is_any}

pub returns-in-Some : goal.returns-in-Some
unfolding sees_any
returns-in-Some c = c.is_any.ensures ∙ ap (is_any c.args.tokens.now) c.in-Some.ensures

pub returns-in-None : goal.returns-in-None
unfolding sees_any
returns-in-None c = sym (none_is_any c.args.tokens.now) ∙ ap (is_any c.args.tokens.now) c.in-None.ensures
