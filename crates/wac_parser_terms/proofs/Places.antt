-- Places behind others.
use Rattle.std.proofs.Common.{◌≡◌, subst, sym}
use Rattle.wac_parser_lexer.specs.Items.{Input, rest_input}
use Rattle.wac_parser_grammar.specs.Places.{IsBehind, here, on}
use Rattle.wac_parser_grammar.proofs.Faithful.{behind_trans}

pub stays : (s : Input) → IsBehind s s
stays s = here

pub passes : (s r : Input) → r ≡ rest_input s → IsBehind r s
passes s r e = let P : Input → Type 0 = λ (m : Input). IsBehind m s in subst P (sym e) (on here)

-- how a place behind another is found
pub ruleset places = (stays, passes, behind_trans)
