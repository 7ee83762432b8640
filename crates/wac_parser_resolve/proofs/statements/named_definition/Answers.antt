use Rattle.std.proofs.Common.{refl}
use Rattle.wac_parser_resolve.proofs.statements.named_definition.Goals as goal

pub returns-clause-outcome : goal.returns-clause-outcome
returns-clause-outcome c own s d notes denotes =
    c.bind.ensures.outcome own d denotes s (notes _ (record { rest = refl; exports = c.in_ok-note.ensures.noted; ids = c.in_ok-note-2.ensures.noted }))
