use Rattle.std.proofs.Common.{refl}
use Rattle.wac_parser_lexer.specs.declared.token.Token.TheVariants as k
use Rattle.wac_parser_lexer.specs.Spellings.{spellings}
use Rattle.wac_parser_lexer.specs.Begun.{spellings_by}
use Rattle.wac_parser_lexer.proofs.SymbolLaws.{begins_more, alone}
use Rattle.wac_parser_lexer.proofs.spellings.lone_symbol.Goals as goal

pub returns-in-59 : goal.returns-in-59
unfolding begins_more spellings_by spellings
returns-in-59 c = alone c.args.b 59 k.Semicolon c.in-59.is refl refl refl

pub returns-in-123 : goal.returns-in-123
unfolding begins_more spellings_by spellings
returns-in-123 c = alone c.args.b 123 k.OpenBrace c.in-123.is refl refl refl

pub returns-in-125 : goal.returns-in-125
unfolding begins_more spellings_by spellings
returns-in-125 c = alone c.args.b 125 k.CloseBrace c.in-125.is refl refl refl

pub returns-in-58 : goal.returns-in-58
unfolding begins_more spellings_by spellings
returns-in-58 c = alone c.args.b 58 k.Colon c.in-58.is refl refl refl

pub returns-in-61 : goal.returns-in-61
unfolding begins_more spellings_by spellings
returns-in-61 c = alone c.args.b 61 k.Equals c.in-61.is refl refl refl

pub returns-in-40 : goal.returns-in-40
unfolding begins_more spellings_by spellings
returns-in-40 c = alone c.args.b 40 k.OpenParen c.in-40.is refl refl refl

pub returns-in-41 : goal.returns-in-41
unfolding begins_more spellings_by spellings
returns-in-41 c = alone c.args.b 41 k.CloseParen c.in-41.is refl refl refl

pub returns-in-60 : goal.returns-in-60
unfolding begins_more spellings_by spellings
returns-in-60 c = alone c.args.b 60 k.OpenAngle c.in-60.is refl refl refl

pub returns-in-62 : goal.returns-in-62
unfolding begins_more spellings_by spellings
returns-in-62 c = alone c.args.b 62 k.CloseAngle c.in-62.is refl refl refl

pub returns-in-95 : goal.returns-in-95
unfolding begins_more spellings_by spellings
returns-in-95 c = alone c.args.b 95 k.Underscore c.in-95.is refl refl refl

pub returns-in-91 : goal.returns-in-91
unfolding begins_more spellings_by spellings
returns-in-91 c = alone c.args.b 91 k.OpenBracket c.in-91.is refl refl refl

pub returns-in-93 : goal.returns-in-93
unfolding begins_more spellings_by spellings
returns-in-93 c = alone c.args.b 93 k.CloseBracket c.in-93.is refl refl refl

pub returns-in-44 : goal.returns-in-44
unfolding begins_more spellings_by spellings
returns-in-44 c = alone c.args.b 44 k.Comma c.in-44.is refl refl refl

pub returns-in-64 : goal.returns-in-64
unfolding begins_more spellings_by spellings
returns-in-64 c = alone c.args.b 64 k.At c.in-64.is refl refl refl
