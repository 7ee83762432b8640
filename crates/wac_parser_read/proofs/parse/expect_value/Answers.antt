use Rattle.std.proofs.Common.{sym, ◌∙◌}
use Rattle.wac_parser_terms.proofs.Tried.{first_missed, begins_same, said_behind, some_behind, missed_all}
use Rattle.wac_parser_read.proofs.parse.expect_value.Goals as goal

pub returns-then-peek-clause-some : goal.returns-then-peek-clause-some
returns-then-peek-clause-some g c =
    let first = first_missed c.args.until c.args.lexer.now _ _ _ c.new-lookahead.ensures c.peek.ensures.value c.peek.ensures.after c.requires in
    sym (begins_same c.args.until g.T.Peek.first c.args.lexer.now _ _ first c.peek-2.ensures.value) ∙ c.if-peek.true

pub error-requires : goal.error-requires
error-requires g c =
    let first = first_missed c.args.until c.args.lexer.now _ _ _ c.new-lookahead.ensures c.peek.ensures.value c.peek.ensures.after c.requires in
    some_behind c.args.until g.T.Peek.first c.args.lexer.now _ _ first (missed_all _ _ _ _ c.peek-2.ensures c.if-peek.false)

pub returns-clause-none : goal.returns-clause-none
returns-clause-none g c =
    let first = first_missed c.args.until c.args.lexer.now _ _ _ c.new-lookahead.ensures c.peek.ensures.value c.peek.ensures.after c.requires in
    sym (begins_same c.args.until g.T.Peek.first c.args.lexer.now _ _ first c.peek-2.ensures.value) ∙ c.if-peek.false

pub returns-clause-fault : goal.returns-clause-fault
returns-clause-fault g c =
    let first = first_missed c.args.until c.args.lexer.now _ _ _ c.new-lookahead.ensures c.peek.ensures.value c.peek.ensures.after c.requires in
    c.error.ensures ∙ said_behind c.args.until g.T.Peek.first c.args.lexer.now _ _ first (missed_all _ _ _ _ c.peek-2.ensures c.if-peek.false)
