-- Where an optional token does not stand.
use Rattle.std.specs.Prelude.{Bool, false}
use Rattle.wac_parser_grammar.specs.Rules.{Rule, ◌>>◌, pure, unfaulty}

-- it is not there, and neither is a faulty item
abbrev pub absent : Rule Bool
absent = unfaulty >> pure false
