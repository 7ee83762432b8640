use Rattle.std.proofs.Common.{◌++◌, ap, ◌∙◌, length-append, subst, sym, ◌<◌, arith}
use Rattle.wac_parser_grammar.specs.Ahead.{tried_all}
use Rattle.wac_parser_terms.proofs.Tried.{none_tried, none_said, tried_both}
use Rattle.wac_parser_terms.proofs.base.neither_of.Goals as goal

pub error-requires : goal.error-requires
error-requires c =
    let tokens = c.args.tokens.now in let others = c.args.others.now in
    none_tried (tokens ++ others) c.args.lexer.now _ _ c.new-lookahead.ensures
    (c.add_all-2.ensures ∙ ap (tried_all others) c.add_all.ensures ∙ tried_both tokens others _)
    (subst (λ n. 0 < n) (sym (length-append tokens others)) (omega (arith, c.requires)))

pub returns : goal.returns
returns c =
    let tokens = c.args.tokens.now in let others = c.args.others.now in
    c.error.ensures ∙ none_said (tokens ++ others) c.args.lexer.now _ _ c.new-lookahead.ensures
    (c.add_all-2.ensures ∙ ap (tried_all others) c.add_all.ensures ∙ tried_both tokens others _)
