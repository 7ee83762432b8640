use Rattle.std.proofs.Common.{refl, ap, ◌∙◌}
use Rattle.wac_parser_terms.proofs.TextLaws.{closed}
use Rattle.wac_parser_terms.proofs.text.strip_close.Goals as goal

pub returns : goal.returns
returns c = ap (λ x. x.now) c.unwrap_or.ensures ∙ closed c.args.text.now c.args.text c.strip_suffix.result refl c.strip_suffix.ensures.cases
