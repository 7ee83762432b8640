use Rattle.std.proofs.Common.{Some, subst}
use Rattle.wac_types_base.specs.Entries.{Name}
use Rattle.wac_parser_refusals.specs.Causes.{NotAnInstance}
use Rattle.wac_parser_refusals.specs.Outcomes.{Refuses}
use Rattle.wac_parser_declare.proofs.Members.{told}
use Rattle.wac_parser_resolve.proofs.board.not_an_instance.Goals as goal

pub returns : goal.returns
returns c t h =
    subst (λ (w : Name). Refuses c.named.result (NotAnInstance w c.args.operation) c.args.span) (c.word_of.ensures t h)
    (told c.named.result (NotAnInstance c.word_of.result.now c.args.operation) (Some c.args.span) c.named.ensures)
