use Rattle.std.proofs.Common.{Err, true, [], ◌∷◌, map, length, sym, ap, ◌∙◌, arith}
use Rattle.std.proofs.lemmas.Result.{err_from_is_err_and}
use Rattle.std.proofs.lemmas.List.{map-append, length-append}
use Rattle.wac_parser_lexer.specs.declared.token.Token.TheVariants as k
use Rattle.wac_parser_tree.specs.Views.{view_named_type}
use Rattle.wac_parser_grammar.specs.Rules.{left}
use Rattle.wac_parser_grammar.specs.ValueTypes.{named_type}
use Rattle.wac_parser_grammar.proofs.Lists.{Rests-more, Rests-ends, Rests-begins_not, Rests-fails, Rests-fails_behind, begun_some}
use Rattle.wac_parser_terms.proofs.function.params.Goals as goal
use Rattle.wac_parser_grammar.proofs.Faithful.{behind_trans}

pub returns-in_err-expect_value-clause-value : goal.returns-in_err-expect_value-clause-value
returns-in_err-expect_value-clause-value c =
    let p = err_from_is_err_and c.from_residual.result c.from_residual.ensures.1 in
    rw (p.1, p.2) (λ other. Rests-begins_not named_type.read (k.Ident ∷ []) k.CloseParen true (map view_named_type c.params.params.items) c.params.lexer c.args.lexer.now (length c.params.params.items) (left c.args.lexer.now)
    c.params.invariant.reads (omega (arith, c.params.invariant.room)) (sym c.sees.ensures ∙ c.params-test.true) c.in_err-expect_value.ensures.none ∙ ap Err (sym c.in_err-expect_value.ensures.fault))

pub returns-in_err-named_type-clause-value : goal.returns-in_err-named_type-clause-value
returns-in_err-named_type-clause-value c =
    let some = begun_some (k.Ident ∷ []) c.params.lexer c.in_ok-expect_value.ensures.some in
    let p = err_from_is_err_and c.from_residual-in_err-named_type.result c.from_residual-in_err-named_type.ensures.1 in
    rw (p.1, p.2) (λ other. Rests-fails named_type.read (k.Ident ∷ []) k.CloseParen true (map view_named_type c.params.params.items) c.params.lexer c.args.lexer.now (length c.params.params.items) (left c.args.lexer.now) _
    c.params.invariant.reads (omega (arith, c.params.invariant.room, some)) (sym c.sees.ensures ∙ c.params-test.true) c.in_ok-expect_value.ensures.some (c.in_err-named_type.ensures.value other))

pub params-preserved : goal.params-preserved
params-preserved c = record {
  reads = λ n. rw (c.in_ok-push.ensures.items, map-append, length-append)
      (Rests-more named_type.read (k.Ident ∷ []) k.CloseParen true (map view_named_type c.params.params.items) c.params.lexer c.named_type.new.lexer c.behind.new.lexer c.args.lexer.now (view_named_type c.in_ok-named_type.field-0) (length c.params.params.items)
      c.params.invariant.reads (sym c.sees.ensures ∙ c.params-test.true) c.in_ok-expect_value.ensures.some c.in_ok-named_type.ensures.value c.in_ok-behind.ensures.value n);
  room = rw (c.in_ok-push.ensures.items, length-append) (omega (arith, c.params.invariant.room, c.in_ok-named_type.ensures.takes, c.in_ok-behind.ensures.keeps));
  place = behind_trans c.behind.new.lexer c.named_type.new.lexer c.args.lexer.now c.behind.ensures.goes_on (behind_trans c.named_type.new.lexer c.params.lexer c.args.lexer.now c.named_type.ensures.goes_on c.params.invariant.place);
}

pub returns-in_err-behind-clause-value : goal.returns-in_err-behind-clause-value
returns-in_err-behind-clause-value c =
    let some = begun_some (k.Ident ∷ []) c.params.lexer c.in_ok-expect_value.ensures.some in
    let p = err_from_is_err_and c.from_residual-in_err-behind.result c.from_residual-in_err-behind.ensures.1 in
    rw (p.1, p.2) (λ other. Rests-fails_behind named_type.read (k.Ident ∷ []) k.CloseParen true (map view_named_type c.params.params.items) c.params.lexer c.named_type.new.lexer c.args.lexer.now (view_named_type c.in_ok-named_type.field-0) (length c.params.params.items) (left c.args.lexer.now) _
    c.params.invariant.reads (omega (arith, c.params.invariant.room, some)) (sym c.sees.ensures ∙ c.params-test.true) c.in_ok-expect_value.ensures.some c.in_ok-named_type.ensures.value (c.in_err-behind.ensures.value other))

pub returns-clause-value : goal.returns-clause-value
returns-clause-value c =
    Rests-ends named_type.read (k.Ident ∷ []) k.CloseParen true (map view_named_type c.params.params.items) c.params.lexer c.args.lexer.now (length c.params.params.items) (left c.args.lexer.now)
    c.params.invariant.reads (omega (arith, c.params.invariant.room)) (sym c.sees.ensures ∙ c.params-test.false)
