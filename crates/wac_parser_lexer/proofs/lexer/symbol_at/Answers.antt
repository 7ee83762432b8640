use Rattle.std.proofs.Common.{Option, Some, None, IfSome}
use Rattle.wac_parser_lexer.specs.declared.token.Token.{Token}
use Rattle.wac_parser_lexer.proofs.PieceLaws.{symbol_cut, symbol_place}
use Rattle.wac_parser_lexer.proofs.lexer.symbol_at.Goals as goal

-- what holds of each symbol that may stand there
each : {P Q : Token → Type 0} → ((symbol : Token) → P symbol → Q symbol) → (o : Option Token) → IfSome o P → IfSome o Q
each f (Some symbol) h = f symbol h
each f None h = h

pub returns-then-at-source-clause-cut : goal.returns-then-at-source-clause-cut
returns-then-at-source-clause-cut c =
    let alone = rw c.as_bytes.ensures.value at c.lone_symbol.ensures in
    each (λ symbol h. symbol_cut c.args.source.now c.args.at c.if-at-source.true symbol h) c.lone_symbol.result alone

pub returns-then-at-source-clause-ends : goal.returns-then-at-source-clause-ends
returns-then-at-source-clause-ends c =
    let alone = rw c.as_bytes.ensures.value at c.lone_symbol.ensures in
    each (λ symbol h. symbol_place c.args.source.now c.args.at c.if-at-source.true symbol h c.utf8.source c.requires) c.lone_symbol.result alone
