use Rattle.std.proofs.Common.{Err, map, length, sym, ap, ◌∙◌, arith}
use Rattle.std.proofs.lemmas.Result.{err_from_is_err_and}
use Rattle.std.proofs.lemmas.List.{map-append, length-append}
use Rattle.wac_parser_grammar.specs.Rules.{left}
use Rattle.wac_parser_grammar.proofs.Lists.{Rests-more, Rests-ends, Rests-begins_not, Rests-fails, Rests-fails_behind, begun_some}
use Rattle.wac_parser_read.proofs.Parsing.{fewer_left}
use Rattle.wac_parser_read.proofs.parse.parse_delimited.Goals as goal
use Rattle.wac_parser_grammar.proofs.Faithful.{behind_trans}

pub returns-in_err-expect_value-clause-value : goal.returns-in_err-expect_value-clause-value
returns-in_err-expect_value-clause-value g c =
    let p = err_from_is_err_and c.from_residual.result c.from_residual.ensures.1 in
    rw (p.1, p.2) (λ other. Rests-begins_not g.T.Parse.rule.read g.T.Peek.first c.args.until c.args.with_commas (map g.T.Parse.view c.items.items.items) c.items.lexer c.args.lexer.now (length c.items.items.items) (left c.args.lexer.now)
    c.items.invariant.reads (omega (arith, c.items.invariant.room)) (sym c.sees.ensures ∙ c.items-test.true) c.in_err-expect_value.ensures.none ∙ ap Err (sym c.in_err-expect_value.ensures.fault))

pub returns-in_err-parse-clause-value : goal.returns-in_err-parse-clause-value
returns-in_err-parse-clause-value g c =
    let some = begun_some g.T.Peek.first c.items.lexer c.in_ok-expect_value.ensures.some in
    let p = err_from_is_err_and c.from_residual-in_err-parse.result c.from_residual-in_err-parse.ensures.1 in
    rw (p.1, p.2) (λ other. Rests-fails g.T.Parse.rule.read g.T.Peek.first c.args.until c.args.with_commas (map g.T.Parse.view c.items.items.items) c.items.lexer c.args.lexer.now (length c.items.items.items) (left c.args.lexer.now) _
    c.items.invariant.reads (omega (arith, c.items.invariant.room, some)) (sym c.sees.ensures ∙ c.items-test.true) c.in_ok-expect_value.ensures.some (c.in_err-parse.ensures.value other))

pub items-preserved : goal.items-preserved
items-preserved g c = record {
  reads = λ n. rw (c.in_ok-push.ensures.items, map-append, length-append)
      (Rests-more g.T.Parse.rule.read g.T.Peek.first c.args.until c.args.with_commas (map g.T.Parse.view c.items.items.items) c.items.lexer c.parse.new.lexer c.behind.new.lexer c.args.lexer.now (g.T.Parse.view c.in_ok-parse.field-0) (length c.items.items.items)
      c.items.invariant.reads (sym c.sees.ensures ∙ c.items-test.true) c.in_ok-expect_value.ensures.some c.in_ok-parse.ensures.value c.in_ok-behind.ensures.value n);
  room = rw (c.in_ok-push.ensures.items, length-append) (omega (arith, c.items.invariant.room, fewer_left g.T.Parse.nonempty c.parse.new.lexer c.items.lexer c.requires.some c.in_ok-parse.ensures.takes, c.in_ok-behind.ensures.keeps));
  place = behind_trans c.behind.new.lexer c.parse.new.lexer c.args.lexer.now c.behind.ensures.goes_on (behind_trans c.parse.new.lexer c.items.lexer c.args.lexer.now c.parse.ensures.goes_on c.items.invariant.place);
}

pub returns-in_err-behind-clause-value : goal.returns-in_err-behind-clause-value
returns-in_err-behind-clause-value g c =
    let some = begun_some g.T.Peek.first c.items.lexer c.in_ok-expect_value.ensures.some in
    let p = err_from_is_err_and c.from_residual-in_err-behind.result c.from_residual-in_err-behind.ensures.1 in
    rw (p.1, p.2) (λ other. Rests-fails_behind g.T.Parse.rule.read g.T.Peek.first c.args.until c.args.with_commas (map g.T.Parse.view c.items.items.items) c.items.lexer c.parse.new.lexer c.args.lexer.now (g.T.Parse.view c.in_ok-parse.field-0) (length c.items.items.items) (left c.args.lexer.now) _
    c.items.invariant.reads (omega (arith, c.items.invariant.room, some)) (sym c.sees.ensures ∙ c.items-test.true) c.in_ok-expect_value.ensures.some c.in_ok-parse.ensures.value (c.in_err-behind.ensures.value other))

pub returns-clause-value : goal.returns-clause-value
returns-clause-value g c =
    Rests-ends g.T.Parse.rule.read g.T.Peek.first c.args.until c.args.with_commas (map g.T.Parse.view c.items.items.items) c.items.lexer c.args.lexer.now (length c.items.items.items) (left c.args.lexer.now)
    c.items.invariant.reads (omega (arith, c.items.invariant.room)) (sym c.sees.ensures ∙ c.items-test.false)
