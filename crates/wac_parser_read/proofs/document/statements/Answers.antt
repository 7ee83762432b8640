use Rattle.std.proofs.Common.{map, length, arith}
use Rattle.std.proofs.lemmas.Result.{err_from_is_err_and}
use Rattle.std.proofs.lemmas.List.{map-append, length-append}
use Rattle.wac_parser_tree.specs.Views.{view_statement}
use Rattle.wac_parser_grammar.specs.Rules.{left, read_all}
use Rattle.wac_parser_grammar.specs.Documents.{statement}
use Rattle.wac_parser_terms.proofs.Whiles.{test_item, goes_all, While-more, While-ends, While-fails, item_ahead, item_left}
use Rattle.wac_parser_read.proofs.document.statements.Goals as goal

pub returns-in_err-parse : goal.returns-in_err-parse
returns-in_err-parse c =
    let goes_on = item_ahead c.statements.lexer _ _ _ c.peek.ensures.value c.is_some.ensures c.statements-test.true in
    let some = item_left c.statements.lexer goes_on in
    let p = err_from_is_err_and c.from_residual.result c.from_residual.ensures.1 in
    record {
      value = rw (p.1, p.2) (λ other. While-fails statement.read (test_item statement.read) (read_all statement.read) (goes_all statement.read) (map view_statement c.statements.statements.items) c.statements.lexer c.args.lexer.now (length c.statements.statements.items) (left c.args.lexer.now) _
          c.statements.invariant.reads (omega (arith, c.statements.invariant.room, some)) goes_on (c.in_err-parse.ensures.value other));
    }

pub statements-preserved : goal.statements-preserved
statements-preserved c =
    let goes_on = item_ahead c.statements.lexer _ _ _ c.peek.ensures.value c.is_some.ensures c.statements-test.true in
    record {
      reads = λ n. rw (c.in_ok-push.ensures.items, map-append, length-append)
          (While-more statement.read (test_item statement.read) (read_all statement.read) (goes_all statement.read) (map view_statement c.statements.statements.items) c.statements.lexer c.parse.new.lexer c.args.lexer.now (view_statement c.in_ok-parse.field-0) (length c.statements.statements.items)
          c.statements.invariant.reads goes_on c.in_ok-parse.ensures.value n);
      room = rw (c.in_ok-push.ensures.items, length-append) (omega (arith, c.statements.invariant.room, c.in_ok-parse.ensures.takes));
    }

pub returns : goal.returns
returns c =
    let ended = item_ahead c.statements.lexer _ _ _ c.peek.ensures.value c.is_some.ensures c.statements-test.false in
    record {
      value = While-ends statement.read (test_item statement.read) (read_all statement.read) (goes_all statement.read) (map view_statement c.statements.statements.items) c.statements.lexer c.args.lexer.now (length c.statements.statements.items) (left c.args.lexer.now)
          c.statements.invariant.reads (omega (arith, c.statements.invariant.room)) ended;
    }
