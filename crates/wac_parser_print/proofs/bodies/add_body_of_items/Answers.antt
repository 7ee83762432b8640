use Rattle.wac_parser_print.proofs.Adding.{and_then}
use Rattle.wac_parser_print.proofs.bodies.add_body_of_items.Goals as goal

pub returns : goal.returns
returns g c = rw (← c.saturating_add.ensures) (and_then c.open_body.ensures (and_then c.add_paragraphs.ensures c.close_body.ensures))
