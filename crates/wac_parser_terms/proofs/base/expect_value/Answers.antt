use Rattle.std.proofs.Common.{sym, ◌∙◌}
use Rattle.wac_parser_terms.proofs.Tried.{first_missed, begins_same, said_behind, some_behind, missed_all}
use Rattle.wac_parser_terms.proofs.base.expect_value.Goals as goal

pub returns-then-peek_any-clause-some : goal.returns-then-peek_any-clause-some
returns-then-peek_any-clause-some c =
    let first = first_missed c.args.until c.args.lexer.now _ _ _ c.new-lookahead.ensures c.peek.ensures.value c.peek.ensures.after c.requires in
    sym (begins_same c.args.until c.args.first.now c.args.lexer.now _ _ first c.peek_any.ensures.value) ∙ c.if-peek_any.true

pub error-requires : goal.error-requires
error-requires c =
    let first = first_missed c.args.until c.args.lexer.now _ _ _ c.new-lookahead.ensures c.peek.ensures.value c.peek.ensures.after c.requires in
    some_behind c.args.until c.args.first.now c.args.lexer.now _ _ first (missed_all _ _ _ _ c.peek_any.ensures c.if-peek_any.false)

pub returns-clause-none : goal.returns-clause-none
returns-clause-none c =
    let first = first_missed c.args.until c.args.lexer.now _ _ _ c.new-lookahead.ensures c.peek.ensures.value c.peek.ensures.after c.requires in
    sym (begins_same c.args.until c.args.first.now c.args.lexer.now _ _ first c.peek_any.ensures.value) ∙ c.if-peek_any.false

pub returns-clause-fault : goal.returns-clause-fault
returns-clause-fault c =
    let first = first_missed c.args.until c.args.lexer.now _ _ _ c.new-lookahead.ensures c.peek.ensures.value c.peek.ensures.after c.requires in
    c.error.ensures ∙ said_behind c.args.until c.args.first.now c.args.lexer.now _ _ first (missed_all _ _ _ _ c.peek_any.ensures c.if-peek_any.false)
